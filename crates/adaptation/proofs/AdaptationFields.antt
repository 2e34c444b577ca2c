-- What the answer of an adaptation field says of the calls on it. Assumes nothing.
use Prim.Native.Nat.{ℕ, ◌+◌, ◌≤◌}
use mathlib.Core.Path.{◌≡◌, refl, sym, ap, ◌∙◌}
use mathlib.Core.Bool.{Bool, true, false, not, true≢false}
use mathlib.Core.List.{List}
use native.Mathlib.Omega.{arith}
use borrow.Author.Tests.{eqb-true, ltb-false, not-false}
use lib.ListN.{length, take, drop}
use Rattle.std.specs.Prelude.{Result, Ok, Err}
use Rattle.fields.specs.Choice.{when◌then◌else◌, ◌and◌, ◌is◌, ◌is_not◌, ◌is_above◌}
use Rattle.answers.specs.Says.{Says, given, refused}
use Rattle.answers.specs.Refusals.{number_of}
use Rattle.answers.specs.declared.Refusal.{Refusal}
use Rattle.answers.proofs.Saying.{same_values, same_refusal, given_is_not_refused}
use Rattle.packet.specs.Header.{size, of_a_packet}
use Rattle.packet.specs.Payload.{control_of, length_byte}
use Rattle.adaptation.specs.AdaptationField.{start, bytes_of, flags_of, no_field, where_present}
use Rattle.adaptation.specs.AdaptationField.{adaptation_field_says, of_a_field, adaptation_field_of}
use Rattle.adaptation.specs.declared.AdaptationField.{AdaptationField}

-- what holds of both choices that one test makes
each : {A B : Type 0} (P : A → B → Type 0) (t : Bool) {a a' : A} {b b' : B}
    → (t ≡ true → P a b) → (t ≡ false → P a' b') → P (when t then a else a') (when t then b else b')
unfolding when◌then◌else◌
each P true f g = f refl
each P false f g = g refl

-- a field that nothing refuses, `alone` in its packet or `before` a payload, has at most 183 bytes
no_longer : (alone before : Bool) (n : ℕ) → (not alone and not before) ≡ false → (alone and n is_not 183) ≡ false
    → (before and n is_above 182) ≡ false → n ≤ 183
unfolding when◌then◌else◌
no_longer true before n there e l = let whole = eqb-true n 183 (not-false _ e) in omega arith
no_longer false true n there e l = let most = ltb-false 182 n l in omega arith
no_longer false false n there e l = absurd (true≢false there)

module _ {Values : Type 0} (packet : List ℕ) (none : Values) (asked : AdaptationField → List ℕ → Says Values) where
  -- a call on a field goes as the field's own answer: both are given, and the field lies within its packet, or both are refused alike
  alike : (P : Says AdaptationField → Says Values → Type 0)
      → (start + length_byte packet ≤ length packet → P (given (flags_of packet)) (asked (flags_of packet) (bytes_of packet)))
      → ((refusal : Refusal) → P (refused (number_of refusal) no_field) (refused (number_of refusal) none))
      → P (adaptation_field_of packet) (of_a_field packet none asked)
  unfolding adaptation_field_of of_a_field of_a_packet where_present
  alike P both neither =
      each P (length packet is_not size) (λ _. neither Refusal.PacketSize)
      (λ sized. each P _ (λ _. neither Refusal.NoSyncByte)
      (λ _. each P (control_of packet is_not 0b10 and control_of packet is_not 0b11) (λ _. neither Refusal.NoAdaptationField)
      (λ there. each P (control_of packet is 0b11 and length_byte packet is 0) (λ _. neither Refusal.NoAdaptationField)
      (λ _. each P (control_of packet is 0b10 and length_byte packet is_not 183) (λ _. neither Refusal.AdaptationFieldLength)
      (λ alone. each P (control_of packet is 0b11 and length_byte packet is_above 182) (λ _. neither Refusal.AdaptationFieldLength)
      (λ before. let most = no_longer _ _ (length_byte packet) there alone before in
      let whole = eqb-true (length packet) size (not-false _ sized) in both (omega arith)))))))

  -- where the field's answer is a field, every call on it is told of its flags and its bytes
  pub told_of_a_field : {answer : Result AdaptationField Refusal} {flags : AdaptationField} → answer ≡ Ok flags
      → adaptation_field_says answer ≡ adaptation_field_of packet
      → of_a_field packet none asked ≡ asked flags (take flags.adaptation_field_length (drop start packet))
  unfolding flags_of
  told_of_a_field {flags} known said =
      alike
      (λ field call. given flags ≡ field → call ≡ asked flags (take flags.adaptation_field_length (drop start packet)))
      (λ l f. rw (same_values f))
      (λ refusal f. absurd (given_is_not_refused refusal f))
      (sym (ap adaptation_field_says known) ∙ said)

  -- where it is a refusal, every call on the field is refused with its number
  pub refused_as_its_field : {answer : Result AdaptationField Refusal} {refusal : Refusal} → answer ≡ Err refusal
      → adaptation_field_says answer ≡ adaptation_field_of packet → of_a_field packet none asked ≡ refused (number_of refusal) none
  refused_as_its_field {refusal} known said =
      alike
      (λ field call. refused (number_of refusal) no_field ≡ field → call ≡ refused (number_of refusal) none)
      (λ l f. absurd (given_is_not_refused refusal (sym f)))
      (λ other f. ap (λ r. refused (number_of r) none) (same_refusal other refusal (sym f)))
      (sym (ap adaptation_field_says known) ∙ said)

-- where it is a field, the field lies within its packet
pub within_its_packet : (packet : List ℕ) {answer : Result AdaptationField Refusal} {flags : AdaptationField}
    → answer ≡ Ok flags → adaptation_field_says answer ≡ adaptation_field_of packet
    → start + flags.adaptation_field_length ≤ length packet
unfolding flags_of
within_its_packet packet {flags} known said =
    alike packet no_field (λ field bytes. given field)
    (λ field call. given flags ≡ field → start + flags.adaptation_field_length ≤ length packet)
    (λ l f. rw (same_values f) l)
    (λ refusal f. absurd (given_is_not_refused refusal f))
    (sym (ap adaptation_field_says known) ∙ said)
