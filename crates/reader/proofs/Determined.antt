-- Any two answers that a contract allows are equal, and so is what the buffer holds after them. Assumes nothing.
use mathlib.Core.Path.{◌≡◌, refl, sym, ap, ◌∙◌}
use borrow.Author.Tests.{ne_eqb}
use Rattle.std.specs.Prelude.{ℕ, Result, Ok, Err}
use Rattle.fields.specs.Choice.{when◌then◌else◌, ◌is◌}
use Rattle.fields.proofs.Choices.{test_fails}
use Rattle.answers.specs.declared.Refusal.{Refusal}
use Rattle.answers.proofs.RefusalNumbers.{numbered, numbered_number, no_refusal_is_0, no_refusal_is_1, no_refusal_is_2}
use Rattle.delivered.specs.declared.Place.{Place}
use Rattle.fields.specs.Determines.{Determines, DeterminesBoth}
use Rattle.reader.specs.declared.Progress.{Progress}
use Rattle.reader.specs.declared.Step.{Step as CodeStep}
use Rattle.reader.specs.declared.GatheringStep.{GatheringStep as CodeGatheringStep}
use Rattle.reader.specs.Outcome.{Step, Outcome, step_says, number_said, place_said}
use Rattle.reader.specs.Gathering.{GatheringStep, gathering_step_says, Gathered}
use Rattle.reader.proofs.number.Reads as number
use Rattle.reader.proofs.place.Reads as place
use Rattle.reader.proofs.Gathering.tail_with.Reads as tail_with
use Rattle.reader.proofs.Gathering.head_with.Reads as head_with
use Rattle.reader.proofs.Reader.fresh.Reads as fresh
use Rattle.reader.proofs.Reader.is_sound.Reads as is_sound
use Rattle.reader.proofs.Reader.tail.Reads as tail
use Rattle.reader.proofs.Reader.head.Reads as head

-- the answer of which that is said
answer_of : ℕ → Place → Result Progress Refusal
answer_of n place =
    when n is 0 then Ok Progress.NothingForThisStep
    else when n is 1 then Ok Progress.BytesKept
    else when n is 2 then Ok (Progress.Delivered place)
    else Err (numbered n)

said_of_it : (answer : Result Progress Refusal) → answer_of (number_said answer) (place_said answer) ≡ answer
unfolding answer_of when◌then◌else◌
said_of_it (Ok Progress.NothingForThisStep) = refl
said_of_it (Ok Progress.BytesKept) = refl
said_of_it (Ok (Progress.Delivered place)) = refl
said_of_it (Err r) =
    test_fails _ _ _ (ne_eqb _ _ (no_refusal_is_0 r))
    ∙ test_fails _ _ _ (ne_eqb _ _ (no_refusal_is_1 r))
    ∙ test_fails _ _ _ (ne_eqb _ _ (no_refusal_is_2 r))
    ∙ ap Err (numbered_number r)

-- a step of the code is told by what it says
same_step : (s t : CodeStep) → step_says s ≡ step_says t → s ≡ t
same_step s t e =
    ap (λ answer. record { reader = s.reader; answer = answer }) (sym (said_of_it s.answer))
    ∙ ap (λ (said : Step). record { reader = said.reader; answer = answer_of said.answer said.place }) e
    ∙ ap (λ answer. record { reader = t.reader; answer = answer }) (said_of_it t.answer)

same_gathering_step : (s t : CodeGatheringStep) → gathering_step_says s ≡ gathering_step_says t → s ≡ t
same_gathering_step s t e =
    ap (λ answer. record { gathering = s.gathering; answer = answer }) (sym (said_of_it s.answer))
    ∙ ap (λ (said : GatheringStep). record { gathering = said.gathering; answer = answer_of said.answer said.place }) e
    ∙ ap (λ answer. record { gathering = t.gathering; answer = answer }) (said_of_it t.answer)

pub number_determined : Determines number.Post
number_determined κs arguments x y x_exit y_exit p q = p ∙ sym q

pub place_determined : Determines place.Post
place_determined κs arguments x y x_exit y_exit p q = p ∙ sym q

pub fresh_determined : Determines fresh.Post
fresh_determined κs arguments x y x_exit y_exit p q = p ∙ sym q

pub is_sound_determined : Determines is_sound.Post
is_sound_determined κs arguments x y x_exit y_exit p q = p ∙ sym q

pub tail_determined : DeterminesBoth tail.Post (λ κs exit. exit.1.1.0.now)
tail_determined κs arguments x y x_exit y_exit p q =
    (same_step x y (ap (λ (left : Outcome). left.step) (p ∙ sym q)), ap (λ (left : Outcome). left.buffer) (p ∙ sym q))

pub head_determined : DeterminesBoth head.Post (λ κs exit. exit.1.1.0.now)
head_determined κs arguments x y x_exit y_exit p q =
    (same_step x y (ap (λ (left : Outcome). left.step) (p ∙ sym q)), ap (λ (left : Outcome). left.buffer) (p ∙ sym q))

pub tail_with_determined : DeterminesBoth tail_with.Post (λ κs exit. exit.1.1.1.0.now)
tail_with_determined κs arguments x y x_exit y_exit p q =
    (same_gathering_step x y (ap (λ (left : Gathered). left.step) (p ∙ sym q)), ap (λ (left : Gathered). left.buffer) (p ∙ sym q))

pub head_with_determined : DeterminesBoth head_with.Post (λ κs exit. exit.1.1.1.0.now)
head_with_determined κs arguments x y x_exit y_exit p q =
    (same_gathering_step x y (ap (λ (left : Gathered). left.step) (p ∙ sym q)), ap (λ (left : Gathered). left.buffer) (p ∙ sym q))
