-- Each stub differs from what is due on some input, so that no contract of the two steps admits it. Assumes nothing.
use Prim.Native.Nat.{ℕ}
use mathlib.Core.Path.{◌≡◌, refl, sym, ap, ◌∙◌}
use mathlib.Core.Bool.{true, true≢false}
use mathlib.Core.List.{List, [], ◌∷◌, ◌++◌}
use borrow.Author.Tests.{eqb-false}
use lib.ListN.{take, replicate}
use Rattle.fields.specs.Choice.{when◌then◌else◌}
use Rattle.fields.specs.BitString.{low_bits, bit_string, number, number_at}
use Rattle.fields.specs.SyntaxTable.{offset, width, value_of}
use Rattle.fields.specs.Laid.{laid}
use Rattle.packet.specs.Header.{of_a_packet}
use Rattle.packet.specs.Payload.{starting_at, payload_behind}
use Rattle.memory.specs.declared.Form.{Form}
use Rattle.marks.specs.Marks.{any_marked}
use Rattle.memory.specs.Memory.{no_memory, sound_memory, agrees, repeats, on_delivery}
use Rattle.gathering_rules.specs.Checks.{checked}
use Rattle.gathering_rules.specs.Start.{start_refusal}
use Rattle.gathering_rules.specs.Verdict.{verdict}
use Rattle.reader.specs.declared.Reader.{Reader}
use Rattle.reader.specs.State.{sound_counts, sound, opened, fresh}
use Rattle.reader.specs.Outcome.{Outcome}
use Rattle.reader.specs.Checks.{from_a_place, from_the_payload}
use Rattle.reader.specs.Whole.{whole}
use Rattle.reader.specs.Tail.{continued, tail_from, tail_of}
use Rattle.reader.specs.Head.{begun, started, head_from, head_of}
use Rattle.stubs.specs.Stubs.{Admitted, always_answers, leaves_the_state_alone, answers15_where_open, both_in_one_call}

-- ---- what they are tried on

buffer : List ℕ
buffer = replicate 1024 0xaa

-- a packet with unit start and pointer 1, and behind it the start of a COMPACT section of 258 bytes; one with pointer 0; and one without unit start
starting : List ℕ
starting = (0x47 ∷ 0x40 ∷ 0x00 ∷ 0x10 ∷ 0x01 ∷ 0xbb ∷ 0x00 ∷ 0x30 ∷ 0xff ∷ []) ++ replicate 179 0x00

pointing0 : List ℕ
pointing0 = (0x47 ∷ 0x40 ∷ 0x00 ∷ 0x10 ∷ []) ++ replicate 184 0x00

continuing : List ℕ
continuing = (0x47 ∷ 0x00 ∷ 0x00 ∷ 0x10 ∷ []) ++ replicate 184 0x00

-- a reader whose section wants one byte more, and one whose section wants more than a packet has
wants_one : Reader
wants_one = opened Form.Compact no_memory 3 4

wants_many : Reader
wants_many = opened Form.Compact no_memory 3 258

answer_of : Outcome → ℕ
answer_of left = left.step.answer

-- ---- what is due

due_3 : answer_of (tail_of (fresh Form.Compact) [] []) ≡ 3
unfolding answer_of when◌then◌else◌ of_a_packet checked from_a_place from_the_payload tail_of
due_3 = refl

due_0 : answer_of (tail_of (fresh Form.Compact) pointing0 buffer) ≡ 0
unfolding
    answer_of pointing0 buffer when◌then◌else◌ low_bits bit_string number number_at offset width value_of
    of_a_packet starting_at payload_behind any_marked agrees sound_memory sound_counts sound checked from_a_place from_the_payload tail_from tail_of
due_0 = refl

due_1 : answer_of (tail_of wants_many continuing buffer) ≡ 1
unfolding
    answer_of wants_many continuing buffer when◌then◌else◌ low_bits bit_string number number_at offset width value_of
    of_a_packet starting_at payload_behind any_marked agrees sound_memory sound_counts sound checked from_a_place from_the_payload continued tail_from tail_of
due_1 = refl

due_open : (head_of (fresh Form.Compact) starting buffer).step.reader.is_open ≡ true
unfolding
    starting buffer when◌then◌else◌ low_bits bit_string number number_at offset width value_of
    of_a_packet starting_at payload_behind any_marked agrees sound_memory sound_counts sound checked from_a_place from_the_payload
    repeats start_refusal begun started head_from head_of
due_open = refl

due_finished : take 4 (tail_of wants_one starting buffer).buffer ≡ 0xaa ∷ 0xaa ∷ 0xaa ∷ 0xbb ∷ []
unfolding
    starting wants_one buffer when◌then◌else◌ low_bits bit_string number number_at offset width value_of laid
    of_a_packet starting_at payload_behind any_marked agrees sound_memory sound_counts sound checked from_a_place from_the_payload
    verdict on_delivery whole continued tail_from tail_of
due_finished = refl

overwritten : take 4 (both_in_one_call wants_one starting buffer).buffer ≡ 0x00 ∷ 0x30 ∷ 0xff ∷ 0x00 ∷ []
unfolding
    starting wants_one buffer when◌then◌else◌ low_bits bit_string number number_at offset width value_of laid
    of_a_packet starting_at payload_behind any_marked agrees sound_memory sound_counts sound checked from_a_place from_the_payload
    verdict on_delivery whole continued tail_from tail_of repeats start_refusal begun started head_from head_of
overwritten = refl

-- ---- the stubs

-- a packet of no bytes is 3
pub none_always_answers_0 : Admitted (always_answers 0) tail_of → ⊥
unfolding answer_of
none_always_answers_0 admitted = eqb-false 0 3 refl (ap answer_of (admitted (fresh Form.Compact) [] []) ∙ due_3)

-- a sound packet with pointer 0 is 0
pub none_refuses_everything : (refusal : ℕ) → (refusal ≡ 0 → ⊥) → Admitted (always_answers refusal) tail_of → ⊥
unfolding answer_of
none_refuses_everything refusal other admitted = other (ap answer_of (admitted (fresh Form.Compact) pointing0 buffer) ∙ due_0)

-- "fails row 1, since open is due"
pub none_leaves_the_state_alone : Admitted (leaves_the_state_alone head_of) head_of → ⊥
none_leaves_the_state_alone admitted =
    true≢false
    (sym due_open ∙ sym (ap (λ (left : Outcome). left.step.reader.is_open) (admitted (fresh Form.Compact) starting buffer)))

-- "fails the tail rule on the second"
pub none_answers_15_where_open : Admitted (answers15_where_open tail_of) tail_of → ⊥
unfolding answer_of wants_many when◌then◌else◌
none_answers_15_where_open admitted = eqb-false 15 1 refl (ap answer_of (admitted wants_many continuing buffer) ∙ due_1)

-- the section that was just finished is overwritten
pub none_works_both_in_one_call : Admitted both_in_one_call tail_of → ⊥
none_works_both_in_one_call admitted =
    let same = sym overwritten ∙ ap (λ (left : Outcome). take 4 left.buffer) (admitted wants_one starting buffer) ∙ due_finished in
    eqb-false 0x00 0xaa refl (ap first same)
  where
    first : List ℕ → ℕ
    first [] = 0
    first (byte ∷ bytes) = byte
