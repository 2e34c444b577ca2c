-- A sound state and a buffer of 1,024 bytes stay so through both steps, and a step on them answers neither 5 nor 25. Assumes nothing.
use Prim.Native.Nat.{ℕ, ◌+◌, ◌-◌, ◌≤◌, ◌<◌}
use mathlib.Core.Path.{◌≡◌, refl, sym, ◌∙◌, subst}
use mathlib.Core.Bool.{Bool, true}
use mathlib.Core.List.{List, [], ◌∷◌}
use native.Mathlib.Omega.{arith}
use lib.ListN.{length, drop, length-take, length-drop}
use borrow.Author.Tests.{eqb-true, le-leb, lt-ltb, ltb-true, leb-false, not-false}
use Rattle.fields.specs.Choice.{when◌then◌else◌}
use Rattle.fields.proofs.Choices.{of_both, of_either}
use Rattle.fields.proofs.LaidBytes.{laid_length}
use Rattle.packet.specs.Header.{size}
use Rattle.psi.specs.Header.{wanted}
use Rattle.memory.specs.declared.Form.{Form}
use Rattle.memory.specs.declared.Memory.{Memory}
use Rattle.memory.specs.Memory.{no_memory, sound_memory}
use Rattle.memory.proofs.Remembering.{nothing_remembered_sound, on_delivery_sound, after_refusal_sound}
use Rattle.gathering_rules.specs.Checks.{buffer_length, checked, NotTheHosts}
use Rattle.gathering_rules.specs.Start.{least_held, start_refusal}
use Rattle.gathering_rules.proofs.Answering.{another, verdict_answers, start_refusal_answers, checked_answers}
use Rattle.gathering_rules.proofs.Checking.{found_place}
use Rattle.gathering_rules.proofs.Starts.{Starts, starts}
use Rattle.reader.specs.State.{sound_counts, sound, idle, opened, fresh}
use Rattle.reader.specs.Outcome.{Outcome, outcome, answered}
use Rattle.reader.specs.Checks.{from_a_place, from_the_payload}
use Rattle.reader.specs.Whole.{whole}
use Rattle.reader.specs.Tail.{copied, filled, continued, tail_from, tail_of}
use Rattle.reader.specs.Head.{begun, started, head_from, head_of}
use Rattle.reader.specs.Run.{EveryStep, Worked, worked, run}
use Rattle.delivered.specs.declared.Place.{Place}
use Rattle.reader.specs.declared.Reader.{Reader}
use Rattle.reader.specs.Outcome.{Step}
use Rattle.reader.proofs.Soundness.{memory_sound, open_sound}

-- what a step keeps
pub record Keeps (left : Outcome) : Type 0 where
  pub sound_state : sound left.step.reader ≡ true
  pub lent : length left.buffer ≡ buffer_length
  pub answers : NotTheHosts left.step.answer

-- ---- sound states

pub idle_sound : (form : Form) (memory : Memory) → sound_memory form memory ≡ true → sound (idle form memory) ≡ true
unfolding sound sound_counts when◌then◌else◌
idle_sound form memory h = simp h

pub opened_sound : (form : Form) (memory : Memory) (held wanted : ℕ) → sound_memory form memory ≡ true
    → least_held form ≤ held → held < wanted → wanted ≤ buffer_length → sound (opened form memory held wanted) ≡ true
unfolding sound sound_counts when◌then◌else◌
opened_sound form memory held wanted h least below fits = simp (h, le-leb _ _ least, lt-ltb _ _ below, le-leb _ _ fits)

-- "A fresh state is idle, sound"
pub fresh_sound : (form : Form) → sound (fresh form) ≡ true
fresh_sound form = idle_sound form no_memory (nothing_remembered_sound form)

-- ---- the steps, from their ends to their starts

whole_keeps : (form : Form) (memory : Memory) (place : Place) (section buffer : List ℕ) → sound_memory form memory ≡ true
    → length buffer ≡ buffer_length
    → Keeps (outcome (whole form memory place section) buffer)
unfolding whole
whole_keeps form memory place section buffer h l =
    of_both (λ (step : Step). Keeps (outcome step buffer)) _ _ _
    (record {
      sound_state = idle_sound form _ (on_delivery_sound form memory section h);
      lent = l;
      answers = another 2 refl refl;
    })
    (record { sound_state = idle_sound form memory h; lent = l; answers = verdict_answers form section })

module _ (reader : Reader) (buffer : List ℕ) (is_sound : sound reader ≡ true) (lent : length buffer ≡ buffer_length) where
  -- an answer that leaves the state as it was, and one that forgets it
  same_keeps : (n : ℕ) → NotTheHosts n → Keeps (outcome (answered n reader) buffer)
  same_keeps n h = record { sound_state = is_sound; lent = lent; answers = h }

  idle_keeps : (n : ℕ) (memory : Memory) → sound_memory reader.form memory ≡ true → NotTheHosts n
      → Keeps (outcome (answered n (idle reader.form memory)) buffer)
  idle_keeps n memory m h = record { sound_state = idle_sound reader.form memory m; lent = lent; answers = h }

  continued_keeps : (bytes : List ℕ) → Keeps (continued reader bytes buffer)
  unfolding continued
  continued_keeps bytes =
      of_either Keeps _ _ _
      (λ is_idle. idle_keeps 15 reader.memory (memory_sound reader is_sound) (another 15 refl refl))
      (λ is_open.
      let o = open_sound reader is_sound (not-false _ is_open) in
      let m = memory_sound reader is_sound in
      let few : length (copied reader bytes) ≤ reader.wanted - reader.held = simp length-take (omega arith) in
      let l : length (filled reader bytes buffer) ≡ buffer_length = laid_length buffer reader.held (copied reader bytes) (omega arith)
      ∙ lent in
      of_either Keeps _ _ _
      (λ wants.
      let below = ltb-true (reader.held + length (copied reader bytes)) reader.wanted wants in
      record {
        sound_state = opened_sound reader.form reader.memory _ reader.wanted m (omega (arith, o.least)) below
            o.fits;
        lent = l;
        answers = another 1 refl refl;
      })
      (λ enough. whole_keeps reader.form reader.memory _ _ _ m l))

  tail_from_keeps : (packet payload : List ℕ) → Keeps (tail_from reader packet payload buffer)
  unfolding tail_from
  tail_from_keeps packet payload =
      of_either Keeps _ _ _ (λ none. continued_keeps payload)
      (λ unit. of_either Keeps _ _ _ (λ none. same_keeps 0 (another 0 refl refl))
      (λ some. of_either Keeps _ _ _
      (λ beyond. idle_keeps 9 no_memory (nothing_remembered_sound reader.form) (another 9 refl refl))
      (λ within. continued_keeps _)))

-- ---- the head

module _ (form : Form) (memory : Memory) (bytes : List ℕ) (at : ℕ) (buffer : List ℕ) (m : sound_memory form memory ≡ true)
    (lent : length buffer ≡ buffer_length) (few : length bytes ≤ size) where
  begun_keeps : Starts form memory bytes → Keeps (begun form memory bytes at buffer)
  unfolding begun
  begun_keeps s =
      of_either Keeps _ _ _ (λ here. whole_keeps form memory _ _ buffer m lent)
      (λ more.
      let below = leb-false (wanted bytes) (length bytes) more in
      record {
        sound_state = opened_sound form memory (length bytes) (wanted bytes) m s.least below (omega (arith, s.limit));
        lent = laid_length buffer 0 bytes (omega arith) ∙ lent;
        answers = another 1 refl refl;
      })

  started_keeps : Keeps (started form memory bytes at buffer)
  unfolding started
  started_keeps =
      of_either Keeps _ _ _
      (λ none. begun_keeps (starts form memory bytes (eqb-true _ _ none)))
      (λ refusal. record {
        sound_state = idle_sound form _ (after_refusal_sound form (start_refusal form memory bytes) memory m);
        lent = lent;
        answers = start_refusal_answers form memory bytes;
      })

module _ (reader : Reader) (packet buffer : List ℕ) (is_sound : sound reader ≡ true) (lent : length buffer ≡ buffer_length) where
  from_the_payload_keeps : (go_on : ℕ → Outcome) → ((start : ℕ) → length packet ≡ size → Keeps (go_on start))
      → Keeps (from_the_payload reader packet buffer go_on)
  unfolding from_the_payload from_a_place
  from_the_payload_keeps go_on keeps =
      of_either Keeps _ _ _ (λ found. keeps _ (found_place _ packet _ found).sized)
      (λ refusal. same_keeps reader buffer is_sound lent _
      (subst (λ (t : Bool). NotTheHosts (checked t packet (length buffer)).number) (sym is_sound)
      (checked_answers packet (length buffer) lent)))

  -- the state after either step is sound whenever the state before was
  pub tail_keeps : Keeps (tail_of reader packet buffer)
  unfolding tail_of
  tail_keeps = from_the_payload_keeps _ (λ start sized. tail_from_keeps reader buffer is_sound lent packet (drop start packet))

  head_from_keeps : (start : ℕ) → length packet ≡ size → Keeps (head_from reader packet start buffer)
  unfolding head_from
  head_from_keeps start sized =
      let m = memory_sound reader is_sound in
      of_either Keeps _ _ _ (λ none. same_keeps reader buffer is_sound lent 0 (another 0 refl refl))
      (λ unit. of_either Keeps _ _ _
      (λ beyond. idle_keeps reader buffer is_sound lent 9 no_memory (nothing_remembered_sound reader.form)
      (another 9 refl refl))
      (λ within. started_keeps reader.form reader.memory _ _ buffer m lent (simp length-drop (omega arith))))

  pub head_keeps : Keeps (head_of reader packet buffer)
  unfolding head_of
  head_keeps = from_the_payload_keeps _ head_from_keeps

-- ---- a run

pub run_keeps : (reader : Reader) (buffer : List ℕ) (packets : List (List ℕ)) → sound reader ≡ true → length buffer ≡ buffer_length
    → EveryStep Keeps (run reader buffer packets)
unfolding run worked EveryStep
run_keeps reader buffer [] is_sound lent = tt
run_keeps reader buffer (packet ∷ packets) is_sound lent =
    let t = tail_keeps reader packet buffer is_sound lent in
    let h = head_keeps _ packet _ t.sound_state t.lent in
    let left = head_of (tail_of reader packet buffer).step.reader packet (tail_of reader packet buffer).buffer in
    (t, h, run_keeps left.step.reader left.buffer packets h.sound_state h.lent)

every_step : (P Q : Outcome → Type 0) → ((o : Outcome) → P o → Q o) → (ws : List Worked) → EveryStep P ws → EveryStep Q ws
unfolding EveryStep
every_step P Q f [] h = tt
every_step P Q f (w ∷ ws) h = (f _ h.0, f _ h.1, every_step P Q f ws h.2)

-- from a fresh state no host that hands state and buffer back untouched ever sees 5 or 25
pub never_5_or_25 : (form : Form) (buffer : List ℕ) (packets : List (List ℕ)) → length buffer ≡ buffer_length
    → EveryStep (λ (left : Outcome). NotTheHosts left.step.answer) (run (fresh form) buffer packets)
never_5_or_25 form buffer packets lent =
    every_step Keeps (λ (left : Outcome). NotTheHosts left.step.answer) (λ o k. k.answers) _
    (run_keeps (fresh form) buffer packets (fresh_sound form) lent)
