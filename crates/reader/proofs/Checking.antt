-- How a step goes on, by the answer to its checks. Assumes nothing.
use Prim.Native.Nat.{ℕ}
use mathlib.Core.Path.{◌≡◌, refl, sym, ap, ◌∙◌}
use mathlib.Core.Bool.{Bool}
use mathlib.Core.List.{List}
use lib.ListN.{length}
use borrow.Author.Tests.{ne_eqb}
use Rattle.std.specs.Prelude.{Result, Ok, Err}
use Rattle.std.specs.Result.{result_and}
use Rattle.fields.specs.Choice.{when◌then◌else◌}
use Rattle.fields.proofs.Choices.{test_fails}
use Rattle.answers.specs.Says.{given, refused}
use Rattle.answers.specs.Refusals.{number_of}
use Rattle.answers.specs.declared.Refusal.{Refusal}
use Rattle.answers.proofs.RefusalNumbers.{no_refusal_is_0}
use Rattle.packet.specs.Payload.{payload_says}
use Rattle.memory.specs.declared.Memory.{Memory}
use Rattle.gathering_rules.specs.Checks.{checked}
use Rattle.gathering_rules.proofs.Checking.{Passed, passed}
use Rattle.reader.specs.State.{sound}
use Rattle.reader.specs.Outcome.{Outcome, outcome, answered}
use Rattle.reader.specs.Checks.{from_a_place, from_the_payload}
use Rattle.reader.specs.Gathering.{with_memory, telling, answering, gathered, gathered_of}
use Rattle.reader.specs.declared.Reader.{Reader}
use Rattle.reader.specs.declared.Gathering.{Gathering}
use Rattle.reader.specs.declared.Progress.{Progress}

module _ (reader : Reader) (packet buffer : List ℕ) where
  -- it goes on from a place that is found
  pub goes_on : (go_on : ℕ → Outcome) (start : ℕ) → given start ≡ checked (sound reader) packet (length buffer)
      → from_the_payload reader packet buffer go_on ≡ go_on start
  unfolding from_the_payload from_a_place when◌then◌else◌
  goes_on go_on start e = rw (← e) refl

  -- and a refusal leaves state and buffer
  stays : (go_on : ℕ → Outcome) (refusal : Refusal) → refused (number_of refusal) 0
      ≡ checked (sound reader) packet (length buffer)
      → from_the_payload reader packet buffer go_on ≡ outcome (answered (number_of refusal) reader) buffer
  unfolding from_the_payload from_a_place
  stays go_on refusal e = rw (← e) (test_fails _ _ _ (ne_eqb _ _ (no_refusal_is_0 refusal)))

-- the same of the code, which asks whether the state is sound, and is answered a payload
module _ (memory : Memory) (gathering : Gathering) (packet buffer : List ℕ) (is_sound : Bool)
    (asked : is_sound ≡ sound (with_memory memory gathering)) (payload : Result ℕ Refusal)
    (says : payload_says payload ≡ checked is_sound packet (length buffer)) where
  says_of_state : payload_says payload ≡ checked (sound (with_memory memory gathering)) packet (length buffer)
  says_of_state = rw asked at says

  pub refused_step : (go_on : ℕ → Outcome) (refusal : Refusal) → payload ≡ Err refusal
      → gathered (answering (number_of refusal) gathering) buffer
      ≡ gathered_of (from_the_payload (with_memory memory gathering) packet buffer go_on)
  refused_step go_on refusal known =
      sym (ap gathered_of
      (stays (with_memory memory gathering) packet buffer go_on refusal (sym (ap payload_says known) ∙ says_of_state)))

  -- the same of the answer that `and` makes of the payload: the refusal
  pub refusal_returned : (go_on : ℕ → Outcome) (refusal : Refusal) → payload ≡ Err refusal
      → (answer other : Result Progress Refusal) → answer ≡ result_and payload other
      → gathered (telling answer gathering) buffer
      ≡ gathered_of (from_the_payload (with_memory memory gathering) packet buffer go_on)
  refusal_returned go_on refusal known answer other e =
      ap (λ (a : Result Progress Refusal). gathered (telling a gathering) buffer) (rw known at e) ∙ refused_step go_on refusal known

  pub step_from : (go_on : ℕ → Outcome) (start : ℕ) → payload ≡ Ok start
      → from_the_payload (with_memory memory gathering) packet buffer go_on ≡ go_on start
  step_from go_on start known =
      goes_on (with_memory memory gathering) packet buffer go_on start (sym (ap payload_says known) ∙ says_of_state)

  pub place_passed : (start : ℕ) → payload ≡ Ok start
      → Passed (sound (with_memory memory gathering)) packet (length buffer) start
  place_passed start known = passed _ _ _ _ (sym (ap payload_says known) ∙ says_of_state)
