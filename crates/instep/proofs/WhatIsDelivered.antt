-- Demand 3, what is delivered: exactly the first 3 plus section_length of the bytes fed from the section's start on. Assumes nothing.
use Prim.Native.Nat.{ℕ, ◌+◌, ◌-◌, ◌≤◌, ◌<◌}
use mathlib.Core.Path.{◌≡◌, refl, sym, ap, ap₂, ◌∙◌, subst}
use mathlib.Core.Bool.{true, false, not, true≢false}
use mathlib.Core.List.{List, [], ◌∷◌, ◌++◌, append-nil, append_assoc}
use native.Mathlib.Omega.{arith}
use lib.ListN.{length, take, drop, length-take, length-drop, length-append, take-append-drop}
use lib.Seq.{take_all, take-append-add, drop-drop}
use borrow.Author.Tests.{eqb-true, eqb-false, ltb-true, ltb-false, leb-true, le-ltb, not-true, not-false}
use Rattle.fields.specs.Choice.{when◌then◌else◌}
use Rattle.fields.proofs.Choices.{test_holds, test_fails, of_both, of_either, both_hold, second_chosen}
use Rattle.fields.proofs.LaidBytes.{laid_length, laid_up_to_end, laid_at_front}
use Rattle.answers.specs.Numbers.{delivered}
use Rattle.answers.specs.Says.{Says}
use Rattle.packet.specs.Header.{size, of_a_packet}
use Rattle.packet.specs.Payload.{starting_at, payload_behind, payload_of}
use Rattle.mpegts_crc.specs.Crc.{crc_of}
use Rattle.psi.specs.Header.{wanted}
use Rattle.psi.proofs.Sections.{wanted_by_front}
use Rattle.memory.specs.declared.Form.{Form}
use Rattle.memory.specs.declared.Memory.{Memory}
use Rattle.gathering_rules.specs.Checks.{buffer_length, checked}
use Rattle.gathering_rules.specs.Start.{least_held, start_refusal}
use Rattle.gathering_rules.specs.Verdict.{crc_verdict, verdict}
use Rattle.gathering_rules.proofs.Checking.{found_place}
use Rattle.delivered.specs.declared.Place.{Place}
use Rattle.delivered.specs.Delivered.{part_of, part_held_by, section_of}
use Rattle.reader.specs.declared.Reader.{Reader}
use Rattle.reader.specs.Outcome.{Step}
use Rattle.reader.specs.State.{sound, idle, fresh}
use Rattle.reader.specs.Outcome.{Outcome, outcome, answered, in_buffer, in_packet}
use Rattle.reader.specs.Checks.{from_a_place, from_the_payload}
use Rattle.reader.specs.Pointer.{unit_start, pointer, rest}
use Rattle.reader.specs.Whole.{whole}
use Rattle.reader.specs.Tail.{copied, filled, continued, tail_from, tail_of}
use Rattle.reader.specs.Head.{begun, started, head_from, head_of}
use Rattle.reader.specs.Run.{Left, after, head_after, worked}
use Rattle.reader.proofs.Soundness.{open_sound}
use Rattle.reader.proofs.Keeping.{tail_keeps, head_keeps, fresh_sound}
use Rattle.instep.specs.Seen.{seen, tail_behind}
use Rattle.instep.specs.Fed.{has_payload, payload, may_start, from_target, continuing, all_continuing, fed_from, NoneMayStart, LastStart, TestsCrc, full, once, IsFirstOf, ByTail, ByHead}
use Rattle.reader.proofs.Forms.{tail_form, head_form}
use Rattle.instep.proofs.Forms.{history_kept}

-- ---- arithmetic of what is copied

three_held : (form : Form) → 3 ≤ least_held form
three_held Form.Compact = omega arith
three_held Form.Full = omega arith
three_held Form.Once = omega arith

-- where some are still wanted, all bytes were copied
copied_all : (reader : Reader) (bytes : List ℕ) → reader.held + length (copied reader bytes) < reader.wanted
    → copied reader bytes ≡ bytes
copied_all reader bytes below =
    let short : length bytes ≤ reader.wanted - reader.held = omega
    (arith, length-take (reader.wanted - reader.held) bytes) in
    take_all (reader.wanted - reader.held) bytes short

-- so many of two lists, of which the first has fewer
first_of_both : (fed bytes : List ℕ) (held wanted : ℕ) → held ≡ length fed → held ≤ wanted → fed ++ take (wanted - held) bytes
    ≡ take wanted (fed ++ bytes)
first_of_both fed bytes held wanted e l =
    sym (ap (λ (n : ℕ). take n (fed ++ bytes)) (let q : wanted ≡ length fed + (wanted - held) = omega arith in q)
    ∙ take-append-add fed bytes (wanted - held))

-- ---- what is held of an open section

pub record Holds (fed : List ℕ) (reader : Reader) (buffer : List ℕ) : Type 0 where
  pub bytes : take reader.held buffer ≡ fed
  pub count : reader.held ≡ length fed
  pub wants : reader.wanted ≡ wanted fed

holds_the_same : {fed other : List ℕ} {reader : Reader} {buffer : List ℕ} → fed ≡ other → Holds fed reader buffer
    → Holds other reader buffer
holds_the_same {reader = reader} {buffer = buffer} e h = subst (λ (l : List ℕ). Holds l reader buffer) e h

-- what a step leaves: a delivered section of which something is known, and what is known of an open one
pub record Leaves (packet : List ℕ) (Delivered : List ℕ → Type 0) (Open : Reader → List ℕ → Type 0) (left : Outcome) : Type 0 where
  pub delivers : left.step.answer ≡ 2 → Delivered (seen packet left).section
  pub opens : left.step.reader.is_open ≡ true → Open left.step.reader left.buffer

module _ {packet : List ℕ} {Delivered : List ℕ → Type 0} {Open : Reader → List ℕ → Type 0} where
  -- an answer that delivers nothing and leaves nothing open, or the state that is known
  leaves_idle : (n : ℕ) (form : Form) (memory : Memory) (buffer : List ℕ) → (n ≡ 2 → ⊥)
      → Leaves packet Delivered Open (outcome (answered n (idle form memory)) buffer)
  leaves_idle n form memory buffer not2 =
      record { delivers = λ e. absurd (not2 e); opens = λ e. absurd (true≢false (sym e)) }

  leaves_answered : (n : ℕ) (reader : Reader) (buffer : List ℕ) → (n ≡ 2 → ⊥)
      → (reader.is_open ≡ true → Open reader buffer)
      → Leaves packet Delivered Open (outcome (answered n reader) buffer)
  leaves_answered n reader buffer not2 known = record { delivers = λ e. absurd (not2 e); opens = known }

-- ---- a whole section

crc_verdict_zero : (section : List ℕ) → crc_verdict section ≡ 2 → crc_of section ≡ 0
unfolding crc_verdict
crc_verdict_zero section e =
    let long = second_chosen _ 16 _ 2 e (λ f. omega arith) in
    eqb-true _ _ (not-false _ (second_chosen _ 17 2 2 long.1 (λ f. omega arith)).0)

crc_zero_lem : (form : Form) (section : List ℕ) → verdict form section ≡ 2 → TestsCrc form → crc_of section ≡ 0
unfolding verdict
crc_zero_lem form section e full = crc_verdict_zero section e
crc_zero_lem form section e once = crc_verdict_zero section e

-- what a whole section leaves, where its place reads as the first of what was fed
leaves_whole : {packet : List ℕ} {Delivered : List ℕ → Type 0} {Open : Reader → List ℕ → Type 0} (form : Form) (memory : Memory)
    (place : Place) (fed section buffer : List ℕ) → wanted fed ≤ length fed → section ≡ take (wanted fed) fed
    → section_of packet buffer 2 place ≡ section → ((read : List ℕ) → IsFirstOf fed form read → Delivered read)
    → Leaves packet Delivered Open (outcome (whole form memory place section) buffer)
unfolding whole seen
leaves_whole {packet} {Delivered} {Open} form memory place fed section buffer enough first read known =
    of_either (λ (step : Step). Leaves packet Delivered Open (outcome step buffer)) _ _ _
    (λ v. record {
      delivers = λ a. known _ (record {
        enough = omega (arith, enough);
        exactly = read ∙ first;
        crc_zero = λ t. subst (λ (bytes : List ℕ). crc_of bytes ≡ 0) (sym read) (crc_zero_lem form section (eqb-true _ _ v) t);
      });
      opens = λ o. absurd (true≢false (sym o));
    })
    (λ v. leaves_idle _ form memory buffer (eqb-false _ _ v))

-- a part that lies within is read
part_within : (bytes : List ℕ) (start len : ℕ) → start + len ≤ length bytes → part_of bytes start len
    ≡ take len (drop start bytes)
unfolding part_of
part_within bytes start len fits =
    let inside : start ≤ length bytes = omega arith in
    let short : len ≤ length bytes - start = omega arith in
    test_fails _ _ _ (le-ltb _ _ inside) ∙ test_fails _ _ _ (le-ltb _ _ short)

pub read_in_buffer : (packet buffer : List ℕ) (len : ℕ) → len ≤ length buffer → section_of packet buffer 2 (in_buffer len)
    ≡ take len buffer
unfolding section_of part_held_by when◌then◌else◌
read_in_buffer packet buffer len fits = part_within buffer 0 len (omega arith)

pub read_in_packet : (packet buffer : List ℕ) (at len : ℕ) → at + len ≤ length packet → section_of packet buffer 2 (in_packet at len)
    ≡ take len (drop at packet)
unfolding section_of part_held_by when◌then◌else◌
read_in_packet packet buffer at len fits = part_within packet at len fits

-- ---- the payload

-- a sound state with 1,024 bytes goes on where there is a payload
from_the_payload_lem : (reader : Reader) (packet buffer : List ℕ) → sound reader ≡ true → length buffer ≡ buffer_length
    → (go_on : ℕ → Outcome)
    → from_the_payload reader packet buffer go_on
    ≡ (when has_payload packet then go_on (payload_of packet).values else outcome
    (answered (payload_of packet).number reader) buffer)
unfolding from_the_payload from_a_place checked payload_of when◌then◌else◌
from_the_payload_lem reader packet buffer s l go_on = rw (s, l) refl

-- no refusal of the payload is 2
record NotDelivered (says : Says ℕ) : Type 0 where
  not2 : says.number ≡ 2 → ⊥

start_not_delivered : (start : ℕ) → NotDelivered (starting_at start)
unfolding starting_at
start_not_delivered start =
    of_both NotDelivered _ _ _ (record { not2 = eqb-false 7 2 refl })
    (of_both NotDelivered _ _ _ (record { not2 = eqb-false 8 2 refl }) (record { not2 = eqb-false 0 2 refl }))

payload_not_delivered : (packet : List ℕ) → NotDelivered (payload_of packet)
unfolding payload_of of_a_packet payload_behind
payload_not_delivered packet =
    of_both NotDelivered _ _ _ (record { not2 = eqb-false 3 2 refl })
    (of_both NotDelivered _ _ _ (record { not2 = eqb-false 4 2 refl })
    (of_both NotDelivered _ _ _ (start_not_delivered 4)
    (of_both NotDelivered _ _ _ (start_not_delivered _) (record { not2 = eqb-false 6 2 refl }))))

-- and a payload is found only in 188 bytes
payload_sized : (packet : List ℕ) → has_payload packet ≡ true → length packet ≡ size
unfolding checked payload_of when◌then◌else◌
payload_sized packet placed = (found_place true packet buffer_length placed).sized

module _ (packet : List ℕ) where
  continuing_nothing : has_payload packet ≡ false → continuing packet ≡ []
  unfolding continuing
  continuing_nothing none = test_holds _ _ _ (ap not none)

  module _ (placed : has_payload packet ≡ true) where
    continuing_up_to : unit_start packet ≡ true → continuing packet ≡ take (pointer (payload packet)) (rest (payload packet))
    unfolding continuing
    continuing_up_to unit = test_fails _ _ _ (ap not placed) ∙ test_holds _ _ _ unit

    continuing_whole : unit_start packet ≡ false → continuing packet ≡ payload packet
    unfolding continuing
    continuing_whole none = test_fails _ _ _ (ap not placed) ∙ test_fails _ _ _ none

-- ---- what was fed from a start on

-- by the packets up to now, and with one more
abbrev fed_since : {history : List (List ℕ)} → LastStart history → List ℕ
fed_since started = fed_from started.start started.later

abbrev fed_with : (packet : List ℕ) {history : List (List ℕ)} → LastStart history → List ℕ
fed_with packet started = fed_from started.start (started.later ++ packet ∷ [])

all_continuing_behind : (packets : List (List ℕ)) (packet : List ℕ) → all_continuing (packets ++ packet ∷ [])
    ≡ all_continuing packets ++ continuing packet
unfolding all_continuing
all_continuing_behind [] packet = append-nil (continuing packet)
all_continuing_behind (first ∷ packets) packet =
    ap (λ (l : List ℕ). continuing first ++ l) (all_continuing_behind packets packet)
    ∙ sym (append_assoc (continuing first) (all_continuing packets) (continuing packet))

fed_with_lem : (packet : List ℕ) {history : List (List ℕ)} (started : LastStart history) → fed_with packet started
    ≡ fed_since started ++ continuing packet
unfolding fed_from
fed_with_lem packet started =
    ap (λ (l : List ℕ). from_target started.start ++ l) (all_continuing_behind started.later packet)
    ∙ sym (append_assoc (from_target started.start) (all_continuing started.later) (continuing packet))

-- an open section, of which what was fed from its start on is held
pub record Gathers (history : List (List ℕ)) (fed : LastStart history → List ℕ) (reader : Reader) (buffer : List ℕ) : Type 0 where
  pub started : LastStart history
  pub holds : Holds (fed started) reader buffer

-- ---- the tail

module _ (form : Form) (history : List (List ℕ)) (packet : List ℕ) (reader : Reader) (buffer : List ℕ) (formed : reader.form ≡ form)
    (is_sound : sound reader ≡ true) (lent : length buffer ≡ buffer_length)
    (gathers : reader.is_open ≡ true → Gathers history fed_since reader buffer) where
  abbrev TailLeaves : Outcome → Type 0
  TailLeaves = Leaves packet (ByTail form history packet) (Gathers history (fed_with packet))

  continued_leaves : (bytes : List ℕ) → continuing packet ≡ bytes → TailLeaves (continued reader bytes buffer)
  unfolding continued
  continued_leaves bytes e =
      of_either TailLeaves _ _ _
      (λ is_idle. leaves_idle 15 reader.form reader.memory buffer (λ e. omega arith))
      (λ not_idle.
      let is_open : reader.is_open ≡ true = not-false _ not_idle in
      let o = open_sound reader is_sound is_open in
      let started = (gathers is_open).started in
      let have = (gathers is_open).holds in
      let fed = fed_since started in
      let with_packet : fed ++ bytes ≡ fed_with packet started = sym (fed_with_lem packet started ∙ ap (λ (l : List ℕ). fed ++ l) e) in
      let three : 3 ≤ length fed = omega (arith, o.least, three_held reader.form, have.count) in
      let few : length (copied reader bytes) ≤ reader.wanted - reader.held = simp length-take (omega arith) in
      let room : reader.held + length (copied reader bytes) ≤ length buffer = omega arith in
      let front : take (reader.held + length (copied reader bytes)) (filled reader bytes buffer) ≡ fed ++ copied reader bytes =
      laid_up_to_end buffer reader.held (copied reader bytes) room ∙ ap (λ (l : List ℕ). l ++ copied reader bytes)
      have.bytes in
      let wants : reader.wanted ≡ wanted (fed ++ bytes) = have.wants ∙ sym (wanted_by_front fed bytes three) in
      of_either TailLeaves _ _ _
      (λ more.
      let below : reader.held + length (copied reader bytes) < reader.wanted = ltb-true _ _ more in
      let all : copied reader bytes ≡ bytes = copied_all reader bytes below in
      leaves_answered 1 _ _ (λ e. omega arith)
      (λ still_open. record {
        started = started;
        holds = holds_the_same with_packet (record {
          bytes = front ∙ ap (λ (l : List ℕ). fed ++ l) all;
          count = ap₂ ◌+◌ have.count (ap length all) ∙ sym (length-append fed bytes);
          wants = wants;
        });
      }))
      (λ not_below.
      let n : reader.wanted ≤ reader.held + length (copied reader bytes) = ltb-false _ _ not_below in
      let exact : reader.held + length (copied reader bytes) ≡ reader.wanted = omega arith in
      let first : take reader.wanted (filled reader bytes buffer) ≡ take (wanted (fed ++ bytes)) (fed ++ bytes) =
      ap (λ (m : ℕ). take m (filled reader bytes buffer)) (sym exact) ∙ front
      ∙ first_of_both fed bytes reader.held reader.wanted have.count (omega arith)
      ∙ ap (λ (m : ℕ). take m (fed ++ bytes)) wants in
      let enough : wanted (fed ++ bytes) ≤ length (fed ++ bytes) = omega
      (arith, sym wants, have.count, length-append fed bytes, length-take (reader.wanted - reader.held) bytes) in
      let long : reader.wanted ≤ length (filled reader bytes buffer) =
      rw (laid_length buffer reader.held (copied reader bytes) room) (omega arith) in
      leaves_whole reader.form reader.memory (in_buffer reader.wanted) (fed ++ bytes) _ _ enough first
      (read_in_buffer packet (filled reader bytes buffer) reader.wanted long)
      (λ read is_first. record {
        started = started;
        is_first = subst (λ (f : Form). IsFirstOf (fed_with packet started) f read) formed
            (subst (λ (l : List ℕ). IsFirstOf l reader.form read) with_packet is_first);
      })))

  -- a packet that feeds nothing leaves what was fed
  nothing_fed : continuing packet ≡ [] → reader.is_open ≡ true → Gathers history (fed_with packet) reader buffer
  nothing_fed none is_open =
      let g = gathers is_open in
      record {
        started = g.started;
        holds = holds_the_same
            (sym (fed_with_lem packet g.started ∙ ap (λ (l : List ℕ). fed_since g.started ++ l) none ∙ append-nil _)) g.holds;
      }

  tail_from_leaves : has_payload packet ≡ true → TailLeaves (tail_from reader packet (payload packet) buffer)
  unfolding tail_from
  tail_from_leaves placed =
      of_either TailLeaves _ _ _ (λ none. continued_leaves (payload packet) (continuing_whole packet placed (not-true _ none)))
      (λ some.
      let what = continuing_up_to packet placed (not-false _ some) in
      of_either TailLeaves _ _ _
      (λ zero. leaves_answered 0 reader buffer (eqb-false 0 2 refl)
      (nothing_fed (what ∙ ap (λ (n : ℕ). take n (rest (payload packet))) (eqb-true (pointer (payload packet)) 0 zero))))
      (λ above. of_either TailLeaves _ _ _
      (λ beyond. leaves_idle 9 reader.form _ buffer (eqb-false 9 2 refl)) (λ within. continued_leaves _ what)))

  pub tail_leaves : TailLeaves (tail_of reader packet buffer)
  unfolding tail_of
  tail_leaves =
      subst TailLeaves
      (sym (from_the_payload_lem reader packet buffer is_sound lent (λ start. tail_from reader packet (drop start packet) buffer)))
      (of_either TailLeaves _ _ _ tail_from_leaves
      (λ none. leaves_answered (payload_of packet).number reader buffer (payload_not_delivered packet).not2
      (nothing_fed (continuing_nothing packet none))))

-- ---- the head

start_is_not_2 : (form : Form) (memory : Memory) (bytes : List ℕ) → start_refusal form memory bytes ≡ 2 → ⊥
unfolding start_refusal
start_is_not_2 form memory bytes =
    of_both Not2 _ _ _ (eqb-false 10 2 refl)
    (of_both Not2 _ _ _ (eqb-false 11 2 refl)
    (of_both Not2 _ _ _ (eqb-false 12 2 refl)
    (of_both Not2 _ _ _ (eqb-false 13 2 refl) (of_both Not2 _ _ _ (eqb-false 14 2 refl) (eqb-false 0 2 refl)))))
  where
    Not2 : ℕ → Type 0
    Not2 n = n ≡ 2 → ⊥

-- the bytes from the pointer on are the payload's from its target on, which is all that a packet feeds to a section that starts in it
from_start : (packet : List ℕ) (start : ℕ) → drop (start + 1 + pointer (drop start packet)) packet
    ≡ drop (pointer (drop start packet)) (rest (drop start packet))
from_start packet start =
    sym (ap (drop (pointer (drop start packet))) (drop-drop 1 start packet)
    ∙ drop-drop (pointer (drop start packet)) (start + 1) packet)

fed_by_the_start : (packet : List ℕ) → fed_from packet [] ≡ from_target packet
unfolding fed_from all_continuing
fed_by_the_start packet = append-nil (from_target packet)

none_behind : (packets : List (List ℕ)) (packet : List ℕ) → NoneMayStart packets → may_start packet ≡ false
    → NoneMayStart (packets ++ packet ∷ [])
unfolding NoneMayStart
none_behind [] packet none n = (n, none)
none_behind (first ∷ packets) packet none n = (none.0, none_behind packets packet none.1 n)

module _ (form : Form) (history : List (List ℕ)) (packet : List ℕ) (reader : Reader) (buffer : List ℕ) (formed : reader.form ≡ form)
    (is_sound : sound reader ≡ true) (lent : length buffer ≡ buffer_length)
    (gathers : reader.is_open ≡ true → Gathers history (fed_with packet) reader buffer) where
  abbrev HeadLeaves : Outcome → Type 0
  HeadLeaves = Leaves packet (ByHead form packet) (Gathers (history ++ packet ∷ []) fed_since)

  -- a section that starts in the packet, at this place
  module _ (starts : may_start packet ≡ true) (sized : length packet ≡ size) (at : ℕ) (feeds : drop at packet ≡ fed_from packet []) where
    begun_leaves : (memory : Memory) → HeadLeaves (begun reader.form memory (drop at packet) at buffer)
    unfolding begun NoneMayStart
    begun_leaves memory =
        let bytes = drop at packet in
        let few : length (drop at packet) ≤ size = simp length-drop (omega arith) in
        of_either HeadLeaves _ _ _
        (λ here.
        let enough : wanted bytes ≤ length bytes = leb-true (wanted bytes) (length bytes) here in
        let fits : at + wanted bytes ≤ length packet = omega (arith, enough, length-drop at packet) in
        leaves_whole reader.form memory (in_packet at (wanted bytes)) bytes _ buffer enough refl
        (read_in_packet packet buffer at (wanted bytes) fits)
        (λ read is_first. record {
          starts = starts;
          is_first = subst (λ (f : Form). IsFirstOf (fed_from packet []) f read) formed
              (subst (λ (l : List ℕ). IsFirstOf l reader.form read) feeds is_first);
        }))
        (λ more. leaves_answered 1 _ _ (eqb-false 1 2 refl)
        (λ is_open. record {
          started = record { before = history; start = packet; later = []; lies = refl; starts = starts; last = tt };
          holds = holds_the_same feeds
              (record { bytes = laid_at_front buffer bytes (omega arith); count = refl; wants = refl });
        }))

    started_leaves : HeadLeaves (started reader.form reader.memory (drop at packet) at buffer)
    unfolding started
    started_leaves =
        let bytes = drop at packet in
        of_either HeadLeaves _ _ _ (λ none. begun_leaves reader.memory)
        (λ refusal. leaves_idle _ reader.form _ buffer (start_is_not_2 reader.form reader.memory bytes))

  -- a packet in which no section may start is one of the later ones
  later_packet : may_start packet ≡ false → reader.is_open ≡ true → Gathers (history ++ packet ∷ []) fed_since reader buffer
  later_packet none is_open =
      let g = gathers is_open in
      let s = g.started in
      record {
        started = record {
          before = s.before;
          start = s.start;
          later = s.later ++ packet ∷ [];
          lies = ap (λ (l : List (List ℕ)). l ++ packet ∷ []) s.lies
              ∙ append_assoc s.before (s.start ∷ s.later) (packet ∷ []);
          starts = s.starts;
          last = none_behind s.later packet s.last none;
        };
        holds = g.holds;
      }

  head_from_leaves : has_payload packet ≡ true → HeadLeaves (head_from reader packet (payload_of packet).values buffer)
  unfolding head_from
  head_from_leaves placed =
      let start = (payload_of packet).values in
      of_either HeadLeaves _ _ _
      (λ none. leaves_answered 0 reader buffer (eqb-false 0 2 refl) (later_packet (test_holds _ _ _ placed ∙ not-true _ none)))
      (λ some. of_either HeadLeaves _ _ _
      (λ beyond. leaves_idle 9 reader.form _ buffer (eqb-false 9 2 refl))
      (λ within. started_leaves (both_hold _ _ placed (not-false _ some)) (payload_sized packet placed)
      (start + 1 + pointer (payload packet)) (from_start packet start ∙ sym (fed_by_the_start packet))))

  pub head_leaves : HeadLeaves (head_of reader packet buffer)
  unfolding head_of
  head_leaves =
      subst HeadLeaves
      (sym (from_the_payload_lem reader packet buffer is_sound lent (λ start. head_from reader packet start buffer)))
      (of_either HeadLeaves _ _ _ head_from_leaves
      (λ none. leaves_answered (payload_of packet).number reader buffer (payload_not_delivered packet).not2
      (later_packet (test_fails _ _ _ none))))

-- ---- a history

-- an open state holds what its history fed
abbrev Gathering : List (List ℕ) → Left → Type 0
Gathering history left = left.reader.is_open ≡ true → Gathers history fed_since left.reader left.buffer

gathers_behind : (form : Form) (before history : List (List ℕ)) (reader : Reader) (buffer : List ℕ) → reader.form ≡ form
    → sound reader ≡ true → length buffer ≡ buffer_length → Gathering before (after reader buffer [])
    → Gathering (before ++ history) (after reader buffer history)
unfolding after worked
gathers_behind form before [] reader buffer f s l gathers =
    subst (λ (packets : List (List ℕ)). Gathering packets (after reader buffer [])) (sym (append-nil before)) gathers
gathers_behind form before (packet ∷ history) reader buffer f s l gathers =
    let t = tail_leaves form before packet reader buffer f s l gathers in
    let kt = tail_keeps reader packet buffer s l in
    let ft = tail_form reader packet buffer ∙ f in
    let h = head_leaves form before packet _ _ ft kt.sound_state kt.lent t.opens in
    let kh = head_keeps _ packet _ kt.sound_state kt.lent in
    subst (λ (packets : List (List ℕ)). Gathering packets (after reader buffer (packet ∷ history)))
    (append_assoc before (packet ∷ []) history)
    (gathers_behind form (before ++ packet ∷ []) history _ _ (head_form _ packet _ ∙ ft) kh.sound_state kh.lent h.opens)

history_gathers : (form : Form) (buffer : List ℕ) (history : List (List ℕ)) → length buffer ≡ buffer_length
    → Gathering history (after (fresh form) buffer history)
unfolding after
history_gathers form buffer history lent =
    gathers_behind form [] history (fresh form) buffer refl (fresh_sound form) lent (λ is_open. absurd (true≢false (sym is_open)))

-- ---- the theorem

-- "at any time": whatever a packet's tail or head step delivers behind any history
pub what_is_delivered : (form : Form) (buffer : List ℕ) → length buffer ≡ buffer_length → (history : List (List ℕ)) (packet : List ℕ)
    → (let tail = tail_behind form buffer history packet in
    let head = head_after packet tail in
    (tail.step.answer ≡ delivered → ByTail form history packet (seen packet tail).section)
    × (head.step.answer ≡ delivered → ByHead form packet (seen packet head).section))
unfolding tail_behind
what_is_delivered form buffer lent history packet =
    let k = history_kept form buffer history lent in
    let t = tail_leaves form history packet _ _ k.formed k.sound_state k.lent (history_gathers form buffer history lent) in
    let kt = tail_keeps _ packet _ k.sound_state k.lent in
    let h = head_leaves form history packet _ _ (tail_form _ packet _ ∙ k.formed) kt.sound_state kt.lent t.opens in
    (t.delivers, h.delivers)

-- so that a delivered section has exactly as many bytes as its own header says
pub as_long_as_it_says : (fed section : List ℕ) (form : Form) → IsFirstOf fed form section → length section ≡ wanted section
as_long_as_it_says fed section form first =
    let n = wanted fed in
    let long : length (take n fed) ≡ n = simp length-take (omega (arith, first.enough)) in
    let three : 3 ≤ length (take n fed) = omega (arith, long) in
    let same : wanted fed ≡ wanted (take n fed) =
    ap wanted (sym (take-append-drop n fed)) ∙ wanted_by_front (take n fed) (drop n fed) three in
    ap length first.exactly ∙ long ∙ same ∙ sym (ap wanted first.exactly)
