-- What ONCE remembers: a section that was refused or damaged leaves it as it was, and what is marked was delivered. Assumes nothing.
use Prim.Native.Nat.{ℕ, ◌≤◌}
use mathlib.Core.Path.{◌≡◌, refl, sym, ap, ◌∙◌, subst}
use mathlib.Core.Bool.{true, not, true≢false, false≢true}
use mathlib.Core.List.{List, [], ◌∷◌, ◌++◌, append-nil, append_assoc}
use native.Mathlib.Omega.{arith}
use lib.ListN.{length, take, drop}
use borrow.Author.Tests.{eqb-true, eqb-false, eq-eqb}
use Rattle.fields.specs.Choice.{◌is◌}
use Rattle.fields.proofs.Choices.{test_holds, test_fails, of_both, of_either, either_way, by_test}
use Rattle.packet.specs.Payload.{payload_of}
use Rattle.marks.specs.Marks.{four_words}
use Rattle.marks.proofs.Marking.{none_marked}
use Rattle.labels.specs.Label.{label_of}
use Rattle.labels.specs.declared.Label.{Label}
use Rattle.memory.specs.declared.Form.{Form}
use Rattle.memory.specs.declared.Memory.{Memory}
use Rattle.memory.specs.Memory.{agrees, on_delivery, after_answer}
use Rattle.memory.proofs.Remembering.{four_words_lem, agreeing, marked_on_delivery, memory_stays}
use Rattle.gathering_rules.specs.Checks.{buffer_length}
use Rattle.gathering_rules.proofs.Answering.{checked_is_one_of, start_refusal_is_one_of}
use Rattle.delivered.specs.declared.Place.{Place}
use Rattle.delivered.specs.Delivered.{section_of}
use Rattle.reader.specs.declared.Reader.{Reader}
use Rattle.reader.specs.Outcome.{Step}
use Rattle.reader.specs.State.{sound, fresh}
use Rattle.reader.specs.Outcome.{Outcome, outcome, answered, in_buffer, in_packet}
use Rattle.reader.specs.Checks.{from_a_place, from_the_payload}
use Rattle.reader.specs.Pointer.{unit_start, pointer, target}
use Rattle.reader.specs.Whole.{whole}
use Rattle.reader.specs.Tail.{continued, tail_from, tail_of}
use Rattle.reader.specs.Head.{begun, started, head_from, head_of}
use Rattle.reader.specs.Run.{Left, worked, after, head_after}
use Rattle.reader.proofs.Checking.{goes_on}
use Rattle.reader.proofs.Soundness.{memory_sound}
use Rattle.reader.proofs.Keeping.{fresh_sound, tail_keeps, head_keeps}
use Rattle.reader.proofs.MemoryByAnswer.{tail_by_answer, head_by_answer, tail_fits, head_fits}
use Rattle.instep.specs.Seen.{Seen, seen, seen_over, seen_from_head, tail_behind}
use Rattle.instep.specs.Remembered.{NoneForgets, NoneRemembers, DeliveredSince, label_in, WereDelivered}
use Rattle.reader.proofs.Forms.{tail_form, head_form}
use Rattle.instep.proofs.Forms.{history_kept}
use Rattle.instep.proofs.BackInStep.{place_of, back_in_step}
use Rattle.instep.proofs.WhatIsDelivered.{read_in_buffer, read_in_packet}

-- ---- where a delivered section lies

record LiesAt (P : Place → Type 0) (left : Outcome) : Type 0 where
  lies : left.step.answer ≡ 2 → P left.step.place

other_answer : (P : Place → Type 0) (n : ℕ) (reader : Reader) (buffer : List ℕ) → (n ≡ 2 → ⊥)
    → LiesAt P (outcome (answered n reader) buffer)
other_answer P n reader buffer not2 = record { lies = λ a. absurd (not2 a) }

-- a whole section that is delivered lies where it is said
whole_lies : (P : Place → Type 0) (form : Form) (memory : Memory) (place : Place) (section buffer : List ℕ) → P place
    → LiesAt P (outcome (whole form memory place section) buffer)
unfolding whole
whole_lies P form memory place section buffer here =
    of_either (λ (step : Step). LiesAt P (outcome step buffer)) _ _ _ (λ v. record { lies = λ a. here })
    (λ v. other_answer P _ _ buffer (eqb-false _ _ v))

from_the_payload_lies : (P : Place → Type 0) (reader : Reader) (packet buffer : List ℕ) (go_on : ℕ → Outcome)
    → ((start : ℕ) → LiesAt P (go_on start)) → LiesAt P (from_the_payload reader packet buffer go_on)
unfolding from_the_payload from_a_place
from_the_payload_lies P reader packet buffer go_on each =
    of_both (LiesAt P) _ _ _ (each _)
    (other_answer P _ reader buffer
    (checked_is_one_of (λ (n : ℕ). n ≡ 2 → ⊥) (eqb-false 0 2 refl) (eqb-false 3 2 refl) (eqb-false 4 2 refl) (eqb-false 5 2 refl)
    (eqb-false 6 2 refl) (eqb-false 7 2 refl) (eqb-false 8 2 refl) (eqb-false 25 2 refl) (sound reader) packet (length buffer)))

-- the tail step's in the buffer
abbrev InBuffer : Place → Type 0
InBuffer place = place ≡ in_buffer place.len

module _ (reader : Reader) (packet buffer : List ℕ) where
  continued_in_buffer : (bytes : List ℕ) → LiesAt InBuffer (continued reader bytes buffer)
  unfolding continued
  continued_in_buffer bytes =
      of_both (LiesAt InBuffer) _ _ _ (other_answer InBuffer 15 _ _ (eqb-false 15 2 refl))
      (of_both (LiesAt InBuffer) _ _ _ (other_answer InBuffer 1 _ _ (eqb-false 1 2 refl))
      (whole_lies InBuffer reader.form reader.memory (in_buffer reader.wanted) _ _ refl))

  tail_from_in_buffer : (payload : List ℕ) → LiesAt InBuffer (tail_from reader packet payload buffer)
  unfolding tail_from
  tail_from_in_buffer payload =
      of_both (LiesAt InBuffer) _ _ _ (continued_in_buffer payload)
      (of_both (LiesAt InBuffer) _ _ _ (other_answer InBuffer 0 _ _ (eqb-false 0 2 refl))
      (of_both (LiesAt InBuffer) _ _ _ (other_answer InBuffer 9 _ _ (eqb-false 9 2 refl)) (continued_in_buffer _)))

  tail_in_buffer : LiesAt InBuffer (tail_of reader packet buffer)
  unfolding tail_of
  tail_in_buffer = from_the_payload_lies InBuffer reader packet buffer _ (λ start. tail_from_in_buffer (drop start packet))

-- the head step's in the packet
abbrev InPacket : Place → Type 0
InPacket place = place ≡ in_packet place.start place.len

module _ (reader : Reader) (packet buffer : List ℕ) where
  begun_in_packet : (bytes : List ℕ) (at : ℕ) → LiesAt InPacket (begun reader.form reader.memory bytes at buffer)
  unfolding begun
  begun_in_packet bytes at =
      of_both (LiesAt InPacket) _ _ _ (whole_lies InPacket reader.form reader.memory (in_packet at _) _ buffer refl)
      (other_answer InPacket 1 _ _ (eqb-false 1 2 refl))

  started_in_packet : (bytes : List ℕ) (at : ℕ) → LiesAt InPacket (started reader.form reader.memory bytes at buffer)
  unfolding started
  started_in_packet bytes at =
      of_both (LiesAt InPacket) _ _ _ (begun_in_packet bytes at)
      (other_answer InPacket _ _ buffer
      (start_refusal_is_one_of (λ (n : ℕ). n ≡ 2 → ⊥) (eqb-false 0 2 refl) (eqb-false 10 2 refl) (eqb-false 11 2 refl)
      (eqb-false 12 2 refl) (eqb-false 13 2 refl) (eqb-false 14 2 refl) reader.form reader.memory bytes))

  head_from_in_packet : (start : ℕ) → LiesAt InPacket (head_from reader packet start buffer)
  unfolding head_from
  head_from_in_packet start =
      of_both (LiesAt InPacket) _ _ _ (other_answer InPacket 0 _ _ (eqb-false 0 2 refl))
      (of_both (LiesAt InPacket) _ _ _ (other_answer InPacket 9 _ _ (eqb-false 9 2 refl))
      (started_in_packet (drop (target packet start) packet) (target packet start)))

  head_in_packet : LiesAt InPacket (head_of reader packet buffer)
  unfolding head_of
  head_in_packet = from_the_payload_lies InPacket reader packet buffer _ head_from_in_packet

-- ---- what a step remembers follows from what the host sees of it

same_section : (answer : ℕ) (form : Form) (memory : Memory) (a b : List ℕ) → (answer ≡ 2 → a ≡ b)
    → after_answer answer form memory a ≡ after_answer answer form memory b
unfolding after_answer
same_section answer form memory a b same =
    by_test (answer is 2) (λ t. ap (after_answer answer form memory) (same (eqb-true _ _ t)))
    (λ t. test_fails _ _ _ t ∙ sym (test_fails _ _ _ t))

-- after a step that is seen so
abbrev Remembers : Form → Memory → Seen → Type 0
Remembers form memory step = step.step.reader.memory ≡ after_answer step.step.answer form memory step.section

module _ (reader : Reader) (packet buffer : List ℕ) (is_sound : sound reader ≡ true) (lent : length buffer ≡ buffer_length) where
  tail_remembers : Remembers reader.form reader.memory (seen packet (tail_of reader packet buffer))
  unfolding seen
  tail_remembers =
      let left = tail_of reader packet buffer in
      let kept = tail_keeps reader packet buffer is_sound lent in
      let fits : left.step.place.len ≤ length left.buffer = omega (arith, tail_fits reader packet buffer, kept.lent) in
      (tail_by_answer reader packet buffer).follows
      ∙ ap (λ (f : Form). after_answer left.step.answer f reader.memory (take left.step.place.len left.buffer))
      (tail_form reader packet buffer)
      ∙ same_section left.step.answer reader.form reader.memory _ _
      (λ a. sym
      (ap (λ (n : ℕ). section_of packet left.buffer n left.step.place) a
      ∙ ap (section_of packet left.buffer 2) ((tail_in_buffer reader packet buffer).lies a)
      ∙ read_in_buffer packet left.buffer left.step.place.len fits))

  head_remembers : Remembers reader.form reader.memory (seen packet (head_of reader packet buffer))
  unfolding seen
  head_remembers =
      let left = head_of reader packet buffer in
      (head_by_answer reader packet buffer).follows
      ∙ ap
      (λ (f : Form). after_answer left.step.answer f reader.memory
      (take left.step.place.len (drop left.step.place.start packet)))
      (head_form reader packet buffer)
      ∙ same_section left.step.answer reader.form reader.memory _ _
      (λ a. sym
      (ap (λ (n : ℕ). section_of packet left.buffer n left.step.place) a
      ∙ ap (section_of packet left.buffer 2) ((head_in_packet reader packet buffer).lies a)
      ∙ read_in_packet packet left.buffer left.step.place.start left.step.place.len (head_fits reader packet buffer)))

-- ---- steps that deliver and forget nothing leave what is remembered

-- of any state, packet and buffer: no start (1), no refusal but 9 and 10, and no damaged section (16, 17) changes it
module _ (reader : Reader) (packet buffer : List ℕ) where
  pub tail_leaves_the_memory : (let left = tail_of reader packet buffer in
      (left.step.answer ≡ 2 → ⊥) → (left.step.answer ≡ 9 → ⊥) → (left.step.answer ≡ 10 → ⊥)
      → left.step.reader.memory ≡ reader.memory)
  tail_leaves_the_memory not2 not9 not10 =
      (tail_by_answer reader packet buffer).follows ∙ memory_stays _ _ reader.memory _ not2 not9 not10

  pub head_leaves_the_memory : (let left = head_of reader packet buffer in
      (left.step.answer ≡ 2 → ⊥) → (left.step.answer ≡ 9 → ⊥) → (left.step.answer ≡ 10 → ⊥)
      → left.step.reader.memory ≡ reader.memory)
  head_leaves_the_memory not2 not9 not10 =
      (head_by_answer reader packet buffer).follows ∙ memory_stays _ _ reader.memory _ not2 not9 not10

quiet_step : (form : Form) (memory : Memory) (step : Seen) → Remembers form memory step → (step.step.answer ≡ 2 → ⊥)
    → (step.step.answer ≡ 9 → ⊥) → (step.step.answer ≡ 10 → ⊥) → step.step.reader.memory ≡ memory
quiet_step form memory step by not2 not9 not10 = by ∙ memory_stays step.step.answer form memory step.section not2 not9 not10

-- over any packets: what was refused or damaged, the starts of such sections and all that continues them
pub memory_as_it_was : (reader : Reader) (buffer : List ℕ) (packets : List (List ℕ)) → sound reader ≡ true
    → length buffer ≡ buffer_length → NoneRemembers (seen_over reader buffer packets)
    → (after reader buffer packets).reader.memory ≡ reader.memory
unfolding after worked seen_over NoneRemembers seen
memory_as_it_was reader buffer [] s l none = refl
memory_as_it_was reader buffer (packet ∷ packets) s l none =
    let tail = tail_of reader packet buffer in
    let t = tail_keeps reader packet buffer s l in
    let h = head_keeps tail.step.reader packet tail.buffer t.sound_state t.lent in
    let head = head_after packet tail in
    memory_as_it_was head.step.reader head.buffer packets h.sound_state h.lent none.3.3
    ∙ quiet_step _ _ (seen packet (head_after packet tail))
    (head_remembers tail.step.reader packet tail.buffer t.sound_state t.lent) none.3.0 none.3.1 none.3.2
    ∙ quiet_step _ _ (seen packet tail) (tail_remembers reader packet buffer s l) none.0 none.1 none.2

-- ---- "a bad copy must not silence good ones"

after_both : (reader : Reader) (buffer : List ℕ) (history bad : List (List ℕ))
    → after reader buffer (history ++ bad)
    ≡ after (after reader buffer history).reader (after reader buffer history).buffer bad
unfolding after worked
after_both reader buffer [] bad = refl
after_both reader buffer (packet ∷ history) bad =
    let head = (worked reader buffer packet).head in
    after_both head.step.reader head.buffer history bad

-- a packet whose section starts at once: pointer 0, so that its tail leaves the state
tail_of_pointer_0 : (form : Form) (buffer : List ℕ) → length buffer ≡ buffer_length → (history : List (List ℕ)) (packet : List ℕ)
    → (payload_of packet).number ≡ 0 → unit_start packet ≡ true → pointer (drop (payload_of packet).values packet) ≡ 0
    → (tail_behind form buffer history packet).step.reader.memory ≡ (after (fresh form) buffer history).reader.memory
unfolding tail_behind tail_of tail_from
tail_of_pointer_0 form buffer lent history packet found unit at0 =
    let k = history_kept form buffer history lent in
    let left = after (fresh form) buffer history in
    let place = place_of packet found (sound left.reader) (length left.buffer) k.sound_state k.lent in
    ap (λ (o : Outcome). o.step.reader.memory)
    (goes_on left.reader packet left.buffer _ (payload_of packet).values place
    ∙ test_fails _ _ _ (ap not unit) ∙ test_holds _ _ _ (eq-eqb _ _ at0))

-- Behind any history come packets that deliver nothing and forget nothing: starts that are refused, sections that are damaged, whatever is between. Then a copy
-- comes, in a packet with unit start and pointer 0, and more behind it: all answers, states and delivered bytes are those of a reader that never saw the bad ones.
pub as_if_it_had_not_come : (form : Form) (buffer : List ℕ) → length buffer ≡ buffer_length → (history bad : List (List ℕ))
    → (let left = after (fresh form) buffer history in NoneRemembers (seen_over left.reader left.buffer bad))
    → (packet : List ℕ) (packets : List (List ℕ)) → (payload_of packet).number ≡ 0 → unit_start packet ≡ true
    → pointer (drop (payload_of packet).values packet) ≡ 0
    → seen_from_head (tail_behind form buffer (history ++ bad) packet) packet packets
    ≡ seen_from_head (tail_behind form buffer history packet) packet packets
as_if_it_had_not_come form buffer lent history bad none packet packets found unit at0 =
    let left = after (fresh form) buffer history in
    let k = history_kept form buffer history lent in
    back_in_step form buffer buffer lent lent (history ++ bad) history packet packets found unit
    (tail_of_pointer_0 form buffer lent (history ++ bad) packet found unit at0
    ∙ ap (λ (l : Left). l.reader.memory) (after_both (fresh form) buffer history bad)
    ∙ memory_as_it_was left.reader left.buffer bad k.sound_state k.lent none
    ∙ sym (tail_of_pointer_0 form buffer lent history packet found unit at0))

-- ---- what is marked was delivered

none_forgets_behind : (steps : List Seen) (step : Seen) → NoneForgets steps → (step.step.answer ≡ 9 → ⊥)
    → (step.step.answer ≡ 10 → ⊥) → NoneForgets (steps ++ step ∷ [])
unfolding NoneForgets
none_forgets_behind [] step none not9 not10 = (not9, not10, tt)
none_forgets_behind (first ∷ steps) step none not9 not10 =
    (none.0, none.1, none_forgets_behind steps step none.2 not9 not10)

-- a section that was delivered before, and one that is delivered now
delivered_before : (steps : List Seen) (step : Seen) (label : Label) → (step.step.answer ≡ 9 → ⊥) → (step.step.answer ≡ 10 → ⊥)
    → DeliveredSince steps label → DeliveredSince (steps ++ step ∷ []) label
delivered_before steps step label not9 not10 d =
    record {
      before = d.before;
      delivery = d.delivery;
      later = d.later ++ step ∷ [];
      lies = ap (λ (l : List Seen). l ++ step ∷ []) d.lies ∙ append_assoc d.before (d.delivery ∷ d.later) (step ∷ []);
      delivers = d.delivers;
      labelled = d.labelled;
      since = none_forgets_behind d.later step d.since not9 not10;
    }

delivered_now : (steps : List Seen) (step : Seen) → step.step.answer ≡ 2
    → DeliveredSince (steps ++ step ∷ []) (label_of step.section)
unfolding NoneForgets
delivered_now steps step is_delivered =
    record { before = steps; delivery = step; later = []; lies = refl; delivers = is_delivered; labelled = refl; since = tt }

-- where the memory's four agree with a label's, they are the label's
labelled_as : (memory : Memory) (label : Label) (number : ℕ) → agrees memory label ≡ true
    → label_in memory number
    ≡ record {
      table_id = label.table_id;
      id = label.id;
      version = label.version;
      current_next_indicator = label.current_next_indicator;
      section_number = number;
    }
labelled_as memory label number h =
    let same = agreeing memory label h in
    rw (same.table_id, same.id, same.version, same.current) refl

module _ (steps : List Seen) (step : Seen) (memory : Memory) (four : four_words memory.marks ≡ true) (were : WereDelivered steps memory) where
  were_on_delivery : step.step.answer ≡ 2 → WereDelivered (steps ++ step ∷ []) (on_delivery Form.Once memory step.section)
  unfolding on_delivery
  were_on_delivery is_delivered number is_marked =
      let label = label_of step.section in
      either_way _ _ _ _ (sym (marked_on_delivery memory step.section four number) ∙ is_marked)
      (λ its f. subst (λ (n : ℕ). DeliveredSince (steps ++ step ∷ []) (label_in (on_delivery Form.Once memory step.section) n))
      (sym (eqb-true _ _ its)) (delivered_now steps step is_delivered))
      (λ other f. either_way _ _ _ _ f
      (λ same before. subst (DeliveredSince (steps ++ step ∷ [])) (labelled_as memory label number same)
      (delivered_before steps step _ (λ e. eqb-false 2 9 refl (sym is_delivered ∙ e)) (λ e. eqb-false 2 10 refl (sym is_delivered ∙ e))
      (were number before)))
      (λ another never. absurd (false≢true never)))

  were_still : (memory' : Memory) → memory' ≡ after_answer step.step.answer Form.Once memory step.section
      → WereDelivered (steps ++ step ∷ []) memory'
  unfolding after_answer
  were_still memory' by =
      subst (WereDelivered (steps ++ step ∷ [])) (sym by)
      (of_either (WereDelivered (steps ++ step ∷ [])) _ _ _ (λ d. were_on_delivery (eqb-true _ _ d))
      (λ not2. of_either (WereDelivered (steps ++ step ∷ [])) _ _ _
      (λ forgets number is_marked. absurd (true≢false (sym is_marked ∙ none_marked number)))
      (λ not9. of_either (WereDelivered (steps ++ step ∷ [])) _ _ _
      (λ forgets number is_marked. absurd (true≢false (sym is_marked ∙ none_marked number)))
      (λ not10 number is_marked. delivered_before steps step _ (eqb-false _ _ not9) (eqb-false _ _ not10) (were number is_marked)))))

module _ (steps : List Seen) (reader : Reader) (packet buffer : List ℕ) (is_once : reader.form ≡ Form.Once) (is_sound : sound reader ≡ true)
    (lent : length buffer ≡ buffer_length) (were : WereDelivered steps reader.memory) where
  four : four_words reader.memory.marks ≡ true
  four = four_words_lem reader.form reader.memory (memory_sound reader is_sound)

  were_behind_tail : WereDelivered (steps ++ seen packet (tail_of reader packet buffer) ∷ []) (tail_of reader packet buffer).step.reader.memory
  unfolding seen
  were_behind_tail =
      were_still steps (seen packet (tail_of reader packet buffer)) reader.memory four were _
      (subst (λ (f : Form). Remembers f reader.memory (seen packet (tail_of reader packet buffer))) is_once
      (tail_remembers reader packet buffer is_sound lent))

  were_behind_head : WereDelivered (steps ++ seen packet (head_of reader packet buffer) ∷ []) (head_of reader packet buffer).step.reader.memory
  unfolding seen
  were_behind_head =
      were_still steps (seen packet (head_of reader packet buffer)) reader.memory four were _
      (subst (λ (f : Form). Remembers f reader.memory (seen packet (head_of reader packet buffer))) is_once
      (head_remembers reader packet buffer is_sound lent))

were_over : (steps : List Seen) (reader : Reader) (buffer : List ℕ) (history : List (List ℕ)) → reader.form ≡ Form.Once
    → sound reader ≡ true → length buffer ≡ buffer_length → WereDelivered steps reader.memory
    → WereDelivered (steps ++ seen_over reader buffer history) (after reader buffer history).reader.memory
unfolding after worked seen_over
were_over steps reader buffer [] is_once s l were =
    subst (λ (all : List Seen). WereDelivered all reader.memory) (sym (append-nil steps)) were
were_over steps reader buffer (packet ∷ history) is_once s l were =
    let tail = tail_of reader packet buffer in
    let head = head_after packet tail in
    let t = tail_keeps reader packet buffer s l in
    let h = head_keeps tail.step.reader packet tail.buffer t.sound_state t.lent in
    let once_then = tail_form reader packet buffer ∙ is_once in
    let behind_tail = were_behind_tail steps reader packet buffer is_once s l were in
    let behind_head = were_behind_head (steps ++ seen packet tail ∷ []) tail.step.reader packet tail.buffer once_then
    t.sound_state t.lent behind_tail in
    subst (λ (all : List Seen). WereDelivered all (after head.step.reader head.buffer history).reader.memory)
    (append_assoc (steps ++ seen packet tail ∷ []) (seen packet head ∷ []) (seen_over head.step.reader head.buffer history)
    ∙ append_assoc steps (seen packet tail ∷ []) (seen packet head ∷ seen_over head.step.reader head.buffer history))
    (were_over ((steps ++ seen packet tail ∷ []) ++ seen packet head ∷ []) head.step.reader head.buffer history
    (head_form tail.step.reader packet tail.buffer ∙ once_then) h.sound_state h.lent behind_head)

-- in every state that a fresh reader comes to, the one behind a packet and the one behind a packet's tail, what is marked "was delivered since the last 9, 10 or
-- fresh start"
pub what_is_marked_was_delivered : (buffer : List ℕ) → length buffer ≡ buffer_length → (history : List (List ℕ)) (packet : List ℕ)
    → (let steps = seen_over (fresh Form.Once) buffer history in
    let tail = tail_behind Form.Once buffer history packet in
    WereDelivered steps (after (fresh Form.Once) buffer history).reader.memory
    × WereDelivered (steps ++ seen packet tail ∷ []) tail.step.reader.memory)
unfolding tail_behind
what_is_marked_was_delivered buffer lent history packet =
    let k = history_kept Form.Once buffer history lent in
    let were = were_over [] (fresh Form.Once) buffer history refl (fresh_sound Form.Once) lent
    (λ number is_marked. absurd (true≢false (sym is_marked ∙ none_marked number))) in
    (were, were_behind_tail _ _ packet _ k.formed k.sound_state k.lent were)
