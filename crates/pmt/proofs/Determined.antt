-- Any two answers that a contract allows are equal. Assumes nothing.
use mathlib.Core.Path.{◌≡◌, refl, sym, ap, ◌∙◌}
use borrow.Author.Tests.{ne_eqb}
use Rattle.std.specs.Prelude.{ℕ, Result, Ok, Err}
use Rattle.fields.specs.Choice.{when◌then◌else◌, ◌is◌}
use Rattle.fields.specs.Determines.{Determines}
use Rattle.fields.proofs.Choices.{test_fails}
use Rattle.answers.specs.Says.{Says}
use Rattle.answers.specs.declared.Refusal.{Refusal}
use Rattle.answers.proofs.RefusalNumbers.{numbered, numbered_number, no_refusal_is_0, no_refusal_is_27, no_refusal_is_28}
use Rattle.walks.specs.Walk.{Found}
use Rattle.pmt.specs.Start.{Start, start_says}
use Rattle.pmt.specs.Streams.{stream_says}
use Rattle.pmt.specs.declared.StreamInfo.{StreamInfo}
use Rattle.pmt.specs.declared.PmtSection.{PmtSection}
use Rattle.pmt.specs.declared.TooShort.{TooShort}
use Rattle.pmt.specs.declared.StreamRefusal.{StreamRefusal}
use Rattle.pmt.proofs.Starts.{not_short}
use Rattle.pmt.proofs.PmtSection.start.Reads as start
use Rattle.pmt.proofs.PmtSection.stream_at.Reads as stream_at
use Rattle.pmt.proofs.StreamRefusal.number.Reads as number

one_start : (x y : Result PmtSection TooShort) → start_says x ≡ start_says y → x ≡ y
one_start (Ok s) (Ok t) e = ap (λ (s : Says Start). Ok s.values.section) e
one_start (Ok s) (Err b) e = absurd (not_short (sym e))
one_start (Err a) (Ok t) e = absurd (not_short e)
one_start (Err a) (Err b) e =
    ap (λ (s : Says Start). Err (record { needed = s.values.needed; actual = s.values.actual })) e

-- the answer of which that is said
stream_answer_of : Says (Found StreamInfo) → Result (StreamInfo × ℕ) StreamRefusal
stream_answer_of said =
    when said.number is 0 then Ok (said.values.entry, said.values.next)
    else when said.number is 27 then Err (StreamRefusal.Under5 said.values.offset)
    else when said.number is 28 then Err (StreamRefusal.InfoPastEnd said.values.offset)
    else Err (StreamRefusal.Refused (numbered said.number))

said_of_the_stream : (answer : Result (StreamInfo × ℕ) StreamRefusal) → stream_answer_of (stream_says answer) ≡ answer
unfolding stream_answer_of when◌then◌else◌
said_of_the_stream (Ok found) = refl
said_of_the_stream (Err (StreamRefusal.Under5 offset)) = refl
said_of_the_stream (Err (StreamRefusal.InfoPastEnd offset)) = refl
said_of_the_stream (Err (StreamRefusal.Refused r)) =
    test_fails _ _ _ (ne_eqb _ _ (no_refusal_is_0 r))
    ∙ test_fails _ _ _ (ne_eqb _ _ (no_refusal_is_27 r))
    ∙ test_fails _ _ _ (ne_eqb _ _ (no_refusal_is_28 r))
    ∙ ap (λ (r : Refusal). Err (StreamRefusal.Refused r)) (numbered_number r)

pub number_determined : Determines number.Post
number_determined κs arguments x y x_exit y_exit p q = p ∙ sym q

pub start_determined : Determines start.Post
start_determined κs arguments x y x_exit y_exit p q = one_start x y (p ∙ sym q)

pub stream_at_determined : Determines stream_at.Post
stream_at_determined κs arguments x y x_exit y_exit p q =
    sym (said_of_the_stream x) ∙ ap stream_answer_of (p ∙ sym q) ∙ said_of_the_stream y
