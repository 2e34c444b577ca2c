-- Two readers of one state, whose buffers hold the same bytes of the open section, answer alike from then on. Assumes nothing.
use Prim.Native.Nat.{ℕ, ◌+◌, ◌-◌, ◌≤◌}
use mathlib.Core.Path.{◌≡◌, refl, sym, ap, ◌∙◌}
use mathlib.Core.Bool.{Bool, true, false, true≢false}
use mathlib.Core.List.{List, ◌++◌}
use native.Mathlib.Omega.{arith}
use lib.ListN.{length, take, drop, length-take, length-drop}
use lib.Seq.{take-take}
use borrow.Author.Tests.{ltb-false, not-true, not-false}
use Rattle.fields.specs.Choice.{when◌then◌else◌}
use Rattle.fields.proofs.LaidBytes.{laid_length, laid_up_to_end, laid_at_front}
use Rattle.fields.proofs.Choices.{of_both}
use Rattle.packet.specs.Header.{size}
use Rattle.memory.specs.declared.Form.{Form}
use Rattle.memory.specs.declared.Memory.{Memory}
use Rattle.memory.specs.Memory.{on_delivery}
use Rattle.gathering_rules.specs.Checks.{buffer_length}
use Rattle.gathering_rules.proofs.Checking.{found_place}
use Rattle.delivered.specs.Delivered.{part_of, part_held_by, section_of}
use Rattle.reader.specs.declared.Reader.{Reader}
use Rattle.reader.specs.Outcome.{Step}
use Rattle.reader.specs.State.{sound, idle, opened}
use Rattle.reader.specs.Outcome.{Outcome, outcome, answered, in_buffer, in_packet}
use Rattle.reader.specs.Checks.{from_a_place, from_the_payload}
use Rattle.reader.specs.Pointer.{unit_start}
use Rattle.reader.specs.Whole.{whole}
use Rattle.reader.specs.Tail.{copied, filled, continued, tail_from, tail_of}
use Rattle.reader.specs.Head.{begun, started, head_from, head_of}
use Rattle.reader.proofs.Soundness.{open_sound}
use Rattle.instep.specs.Seen.{seen}

-- the same answer, state, place and delivered bytes, and the same bytes of what is open
pub record Alike (packet : List ℕ) (a b : Outcome) : Type 0 where
  pub seen_alike : seen packet a ≡ seen packet b
  pub held_alike : take a.step.reader.held a.buffer ≡ take a.step.reader.held b.buffer

module _ (packet : List ℕ) where
  alike_either_way : (t : Bool) (a b a' b' : Outcome) → (t ≡ true → Alike packet a a') → (t ≡ false → Alike packet b b')
      → Alike packet (when t then a else b) (when t then a' else b')
  unfolding when◌then◌else◌
  alike_either_way true a b a' b' f g = f refl
  alike_either_way false a b a' b' f g = g refl

  -- an answer that delivers nothing, and leaves nothing open
  idle_alike : (n : ℕ) (form : Form) (memory : Memory) (x y : List ℕ)
      → Alike packet (outcome (answered n (idle form memory)) x) (outcome (answered n (idle form memory)) y)
  unfolding seen section_of part_held_by
  idle_alike n form memory x y = record { seen_alike = refl; held_alike = refl }

  -- an answer that delivers nothing
  answered_alike : (n : ℕ) (reader : Reader) (x y : List ℕ) → take reader.held x ≡ take reader.held y
      → Alike packet (outcome (answered n reader) x) (outcome (answered n reader) y)
  unfolding seen section_of part_held_by
  answered_alike n reader x y h = record { seen_alike = refl; held_alike = h }

  -- a whole section in the packet
  whole_in_packet_alike : (form : Form) (memory : Memory) (at len : ℕ) (section x y : List ℕ)
      → Alike packet (outcome (whole form memory (in_packet at len) section) x)
      (outcome (whole form memory (in_packet at len) section) y)
  unfolding whole seen section_of part_held_by
  whole_in_packet_alike form memory at len section x y =
      of_both (λ (s : Step). Alike packet (outcome s x) (outcome s y)) _ _ _
      (record { seen_alike = refl; held_alike = refl }) (idle_alike _ form memory x y)

  -- a whole section in the buffer
  part_alike : (len : ℕ) (x y : List ℕ) → length x ≡ length y → take len x ≡ take len y → part_of x 0 len ≡ part_of y 0 len
  unfolding part_of
  part_alike len x y l e = simp (l, e)

  delivered_alike : (reader : Reader) (len : ℕ) (x y : List ℕ) → length x ≡ length y → take len x ≡ take len y → reader.held
      ≡ 0
      → Alike packet (outcome (record { reader = reader; place = in_buffer len; answer = 2 }) x)
      (outcome (record { reader = reader; place = in_buffer len; answer = 2 }) y)
  unfolding seen section_of part_held_by when◌then◌else◌
  delivered_alike reader len x y l e none =
      let step : Step = record { reader = reader; place = in_buffer len; answer = 2 } in
      record {
        seen_alike = ap (λ (bytes : List ℕ). record { step = step; section = bytes }) (part_alike len x y l e);
        held_alike = rw none refl;
      }

  whole_in_buffer_alike : (form : Form) (memory : Memory) (len : ℕ) (x y : List ℕ) → length x ≡ length y → take len x
      ≡ take len y
      → Alike packet (outcome (whole form memory (in_buffer len) (take len x)) x)
      (outcome (whole form memory (in_buffer len) (take len y)) y)
  unfolding whole
  whole_in_buffer_alike form memory len x y l e =
      rw e
      (of_both (λ (s : Step). Alike packet (outcome s x) (outcome s y)) _ _ _
      (delivered_alike (idle form (on_delivery form memory (take len y))) len x y l e refl) (idle_alike _ form memory x y))

  -- ---- bytes continue

  module _ (reader : Reader) (x y : List ℕ) (is_sound : sound reader ≡ true) (lx : length x ≡ buffer_length) (ly : length y ≡ buffer_length)
      (same : take reader.held x ≡ take reader.held y) where
    continued_alike : (bytes : List ℕ) → Alike packet (continued reader bytes x) (continued reader bytes y)
    unfolding continued
    continued_alike bytes =
        alike_either_way _ _ _ _ _ (λ is_idle. idle_alike 15 reader.form reader.memory x y)
        (λ is_open.
        let o = open_sound reader is_sound (not-false _ is_open) in
        let few : length (copied reader bytes) ≤ reader.wanted - reader.held = simp length-take (omega arith) in
        let fx : reader.held + length (copied reader bytes) ≤ length x = omega arith in
        let fy : reader.held + length (copied reader bytes) ≤ length y = omega arith in
        let front : take (reader.held + length (copied reader bytes)) (filled reader bytes x)
        ≡ take (reader.held + length (copied reader bytes)) (filled reader bytes y) =
        laid_up_to_end x reader.held (copied reader bytes) fx ∙ ap (λ (l : List ℕ). l ++ copied reader bytes) same
        ∙ sym (laid_up_to_end y reader.held (copied reader bytes) fy) in
        alike_either_way _ _ _ _ _
        (λ wants. answered_alike 1 (opened reader.form reader.memory (reader.held + length (copied reader bytes))
        reader.wanted) _ _ front)
        (λ enough.
        let n : reader.wanted ≤ reader.held + length (copied reader bytes) = ltb-false _ _ enough in
        let all : take reader.wanted (filled reader bytes x) ≡ take reader.wanted (filled reader bytes y) =
        sym (take-take reader.wanted _ (filled reader bytes x) n) ∙ ap (take reader.wanted) front
        ∙ take-take reader.wanted _ (filled reader bytes y) n in
        whole_in_buffer_alike reader.form reader.memory reader.wanted _ _
        (laid_length x reader.held (copied reader bytes) fx ∙ lx
        ∙ sym (laid_length y reader.held (copied reader bytes) fy ∙ ly)) all))

    tail_from_alike : (payload : List ℕ) → Alike packet (tail_from reader packet payload x) (tail_from reader packet payload y)
    unfolding tail_from
    tail_from_alike payload =
        alike_either_way _ _ _ _ _ (λ none. continued_alike payload)
        (λ unit. alike_either_way _ _ _ _ _ (λ none. answered_alike 0 reader x y same)
        (λ some. alike_either_way _ _ _ _ _ (λ beyond. idle_alike 9 reader.form _ x y) (λ within. continued_alike _)))

    -- both go on from one place, or both are refused
    from_the_payload_alike : (f g : ℕ → Outcome) → ((start : ℕ) → length packet ≡ size → Alike packet (f start) (g start))
        → Alike packet (from_the_payload reader packet x f) (from_the_payload reader packet y g)
    unfolding from_the_payload from_a_place
    from_the_payload_alike f g each =
        rw (lx, ly)
        (alike_either_way _ _ _ _ _
        (λ found. each _ (found_place _ packet buffer_length found).sized) (λ refusal. answered_alike _ reader x y same))

    pub tail_alike : Alike packet (tail_of reader packet x) (tail_of reader packet y)
    unfolding tail_of
    tail_alike = from_the_payload_alike _ _ (λ start sized. tail_from_alike (drop start packet))

  -- ---- a section starts: the answer does not ask what the buffer held

  module _ (x y : List ℕ) (lx : length x ≡ buffer_length) (ly : length y ≡ buffer_length) where
    begun_alike : (form : Form) (memory : Memory) (bytes : List ℕ) (at : ℕ) → length bytes ≤ size
        → Alike packet (begun form memory bytes at x) (begun form memory bytes at y)
    unfolding begun
    begun_alike form memory bytes at few =
        alike_either_way _ _ _ _ _ (λ here. whole_in_packet_alike form memory at _ _ x y)
        (λ more. answered_alike 1 (opened form memory (length bytes) _) _ _
        (laid_at_front x bytes (omega arith) ∙ sym (laid_at_front y bytes (omega arith))))

    started_alike : (form : Form) (memory : Memory) (bytes : List ℕ) (at : ℕ) → length bytes ≤ size
        → Alike packet (started form memory bytes at x) (started form memory bytes at y)
    unfolding started
    started_alike form memory bytes at few =
        alike_either_way _ _ _ _ _ (λ none. begun_alike form memory bytes at few)
        (λ refusal. idle_alike _ form _ x y)

    -- readers of one form that remember the same, whatever else their states are
    module _ (form : Form) (memory : Memory) (reader other : Reader) (f : reader.form ≡ form) (g : other.form ≡ form)
        (m : reader.memory ≡ memory) (n : other.memory ≡ memory) where
      pub head_from_unit_start_alike : (start : ℕ) → length packet ≡ size → unit_start packet ≡ true
          → Alike packet (head_from reader packet start x) (head_from other packet start y)
      unfolding head_from
      head_from_unit_start_alike start sized unit =
          rw (f, g, m, n)
          (alike_either_way _ _ _ _ _ (λ none. absurd (true≢false (sym unit ∙ not-true _ none)))
          (λ starts. alike_either_way _ _ _ _ _ (λ beyond. idle_alike 9 form _ x y)
          (λ within. started_alike form memory _ _ (simp length-drop (omega arith)))))

    head_from_alike : (reader : Reader) → take reader.held x ≡ take reader.held y → (start : ℕ) → length packet ≡ size
        → Alike packet (head_from reader packet start x) (head_from reader packet start y)
    unfolding head_from
    head_from_alike reader same start sized =
        alike_either_way _ _ _ _ _ (λ none. answered_alike 0 reader x y same)
        (λ starts. alike_either_way _ _ _ _ _ (λ beyond. idle_alike 9 reader.form _ x y)
        (λ within. started_alike reader.form reader.memory _ _ (simp length-drop (omega arith))))

    pub head_alike : (reader : Reader) → sound reader ≡ true → take reader.held x ≡ take reader.held y
        → Alike packet (head_of reader packet x) (head_of reader packet y)
    unfolding head_of
    head_alike reader is_sound same =
        from_the_payload_alike reader x y is_sound lx ly same _ _ (λ start sized. head_from_alike reader same start sized)
