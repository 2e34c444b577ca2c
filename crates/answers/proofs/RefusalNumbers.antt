-- The numbers tell the refusals apart, and none of them is 0. Assumes nothing.
use Prim.Native.Nat.{ℕ}
use mathlib.Core.Path.{◌≡◌, refl, sym, ap, ◌∙◌}
use native.Mathlib.Omega.{arith}
use Rattle.fields.specs.Choice.{when◌then◌else◌, ◌is◌}
use Rattle.answers.specs.declared.Refusal.{Refusal}
use Rattle.answers.specs.declared.Refusal.TheVariants.{PacketSize, NoSyncByte, BufferSize, NoPayload, PayloadEmpty, PayloadBeyond, PointerBeyondRest, Under3Bytes, SyntaxIndicator, Under8Bytes, LengthAbove1021, AlreadyDelivered, NoSectionOpen, SectionUnder12, CrcNotZero, NoAdaptationField, AdaptationFieldLength, FlagClear, FieldEndsBefore, WalkAtEnd, StateNotSound, PositionAboveLength}
use Rattle.answers.specs.Refusals.{number_of}

-- the refusal of a number
pub numbered : ℕ → Refusal
numbered n =
    when n is 3 then PacketSize
    else when n is 4 then NoSyncByte
    else when n is 5 then BufferSize
    else when n is 6 then NoPayload
    else when n is 7 then PayloadEmpty
    else when n is 8 then PayloadBeyond
    else when n is 9 then PointerBeyondRest
    else when n is 10 then Under3Bytes
    else when n is 11 then SyntaxIndicator
    else when n is 12 then Under8Bytes
    else when n is 13 then LengthAbove1021
    else when n is 14 then AlreadyDelivered
    else when n is 15 then NoSectionOpen
    else when n is 16 then SectionUnder12
    else when n is 17 then CrcNotZero
    else when n is 18 then NoAdaptationField
    else when n is 19 then AdaptationFieldLength
    else when n is 20 then FlagClear
    else when n is 21 then FieldEndsBefore
    else when n is 23 then WalkAtEnd
    else when n is 25 then StateNotSound
    else PositionAboveLength

pub numbered_number : (r : Refusal) → numbered (number_of r) ≡ r
unfolding numbered when◌then◌else◌
numbered_number PacketSize = refl
numbered_number NoSyncByte = refl
numbered_number BufferSize = refl
numbered_number NoPayload = refl
numbered_number PayloadEmpty = refl
numbered_number PayloadBeyond = refl
numbered_number PointerBeyondRest = refl
numbered_number Under3Bytes = refl
numbered_number SyntaxIndicator = refl
numbered_number Under8Bytes = refl
numbered_number LengthAbove1021 = refl
numbered_number AlreadyDelivered = refl
numbered_number NoSectionOpen = refl
numbered_number SectionUnder12 = refl
numbered_number CrcNotZero = refl
numbered_number NoAdaptationField = refl
numbered_number AdaptationFieldLength = refl
numbered_number FlagClear = refl
numbered_number FieldEndsBefore = refl
numbered_number WalkAtEnd = refl
numbered_number StateNotSound = refl
numbered_number PositionAboveLength = refl

-- refusals of one number are one refusal
pub one_number_one_refusal : (r s : Refusal) → number_of r ≡ number_of s → r ≡ s
one_number_one_refusal r s e = sym (numbered_number r) ∙ ap numbered e ∙ numbered_number s

-- a number is no refusal's where the refusal that it would be has another one
no_refusals_number : (n : ℕ) → (number_of (numbered n) ≡ n → ⊥) → (r : Refusal) → number_of r ≡ n → ⊥
no_refusals_number n other r e = other (ap number_of (sym (ap numbered e) ∙ numbered_number r) ∙ e)

-- so 0, which refuses nothing
pub no_refusal_is_0 : (r : Refusal) → number_of r ≡ 0 → ⊥
unfolding numbered when◌then◌else◌
no_refusal_is_0 = no_refusals_number 0 (λ (e : ◌≡◌ {A = ℕ} 26 0). omega arith)

-- 1, which keeps bytes, and 2, which delivers
pub no_refusal_is_1 : (r : Refusal) → number_of r ≡ 1 → ⊥
unfolding numbered when◌then◌else◌
no_refusal_is_1 = no_refusals_number 1 (λ (e : ◌≡◌ {A = ℕ} 26 1). omega arith)

pub no_refusal_is_2 : (r : Refusal) → number_of r ≡ 2 → ⊥
unfolding numbered when◌then◌else◌
no_refusal_is_2 = no_refusals_number 2 (λ (e : ◌≡◌ {A = ℕ} 26 2). omega arith)

-- and the numbers of the rows that tell where a walk stopped
pub no_refusal_is_24 : (r : Refusal) → number_of r ≡ 24 → ⊥
unfolding numbered when◌then◌else◌
no_refusal_is_24 = no_refusals_number 24 (λ (e : ◌≡◌ {A = ℕ} 26 24). omega arith)

pub no_refusal_is_27 : (r : Refusal) → number_of r ≡ 27 → ⊥
unfolding numbered when◌then◌else◌
no_refusal_is_27 = no_refusals_number 27 (λ (e : ◌≡◌ {A = ℕ} 26 27). omega arith)

pub no_refusal_is_28 : (r : Refusal) → number_of r ≡ 28 → ⊥
unfolding numbered when◌then◌else◌
no_refusal_is_28 = no_refusals_number 28 (λ (e : ◌≡◌ {A = ℕ} 26 28). omega arith)
