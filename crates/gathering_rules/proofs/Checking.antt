-- What is known where the checks before a step find a place. Assumes nothing.
use Prim.Native.Nat.{ℕ, ◌<◌}
use mathlib.Core.Path.{◌≡◌, sym, ap}
use mathlib.Core.Bool.{Bool, true}
use mathlib.Core.List.{List}
use native.Mathlib.Omega.{arith}
use lib.ListN.{length}
use borrow.Author.Tests.{eqb-true, eqb-false, ltb-false, not-false}
use Rattle.fields.specs.Choice.{◌is◌}
use Rattle.fields.proofs.Choices.{second_chosen, either_way}
use Rattle.answers.specs.Says.{given}
use Rattle.answers.specs.declared.Refusal.{Refusal}
use Rattle.answers.proofs.Saying.{given_is_not_refused, same_values}
use Rattle.packet.specs.Header.{size, of_a_packet}
use Rattle.packet.specs.Payload.{payload_behind, starting_at}
use Rattle.gathering_rules.specs.Checks.{buffer_length, checked}

-- a payload that starts there starts within the packet
starts_within : (n start : ℕ) → starting_at n ≡ given start → start < size
unfolding starting_at
starts_within n start e =
    let not_at = second_chosen _ _ _ _ e (λ f. given_is_not_refused Refusal.PayloadEmpty (sym f)) in
    let not_above = second_chosen _ _ _ _ not_at.1 (λ f. given_is_not_refused Refusal.PayloadBeyond (sym f)) in
    let other = eqb-false n size not_at.0 in
    let most = ltb-false size n not_above.0 in
    let same = same_values not_above.1 in
    omega arith

payload_within : (packet : List ℕ) (start : ℕ) → payload_behind packet ≡ given start → start < size
unfolding payload_behind
payload_within packet start e =
    either_way _ _ _ _ e (λ only f. starts_within 4 start f)
    (λ not_only f. either_way _ _ _ _ f (λ both g. starts_within _ start g)
    (λ none g. absurd (given_is_not_refused Refusal.NoPayload (sym g))))

-- what is known where a place is found
pub record Passed (is_sound : Bool) (packet : List ℕ) (buffer start : ℕ) : Type 0 where
  pub sized : length packet ≡ size
  pub lent : buffer ≡ buffer_length
  pub sound_state : is_sound ≡ true
  pub within : start < size

pub passed : (is_sound : Bool) (packet : List ℕ) (buffer start : ℕ) → given start ≡ checked is_sound packet buffer
    → Passed is_sound packet buffer start
unfolding checked of_a_packet
passed is_sound packet buffer start e =
    let sized = second_chosen _ _ _ _ (sym e) (λ f. given_is_not_refused Refusal.PacketSize (sym f)) in
    let sync = second_chosen _ _ _ _ sized.1 (λ f. given_is_not_refused Refusal.NoSyncByte (sym f)) in
    let lent = second_chosen _ _ _ _ sync.1 (λ f. given_is_not_refused Refusal.BufferSize (sym f)) in
    let state = second_chosen _ _ _ _ lent.1 (λ f. given_is_not_refused Refusal.StateNotSound (sym f)) in
    record {
      sized = eqb-true _ _ (not-false _ sized.0);
      lent = eqb-true _ _ (not-false _ lent.0);
      sound_state = not-false _ state.0;
      within = payload_within packet start state.1;
    }

-- a place that is found
pub found_place : (is_sound : Bool) (packet : List ℕ) (buffer : ℕ) → ((checked is_sound packet buffer).number is 0) ≡ true
    → Passed is_sound packet buffer (checked is_sound packet buffer).values
found_place is_sound packet buffer found =
    let place = checked is_sound packet buffer in
    passed _ _ _ place.values (ap (λ (n : ℕ). record { number = n; values = place.values }) (sym (eqb-true _ _ found)))
