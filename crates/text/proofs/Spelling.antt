-- What `io` spells is the digits of the definition. Assumes nothing.
use Prim.Native.Nat.{ℕ, zero, suc, ◌+◌, ◌-◌, ◌*◌, ◌/◌, ◌%◌, ◌^◌, ◌<◌, ◌≤◌}
use mathlib.Core.Path.{◌≡◌, refl, sym, ap, ap₂, ◌∙◌}
use mathlib.Core.Bool.{Bool, true, false, cond}
use mathlib.Core.List.{List, [], ◌∷◌, ◌++◌}
use native.Mathlib.Nat.{pow-zero, pow-suc, one-mul, pow-le-pow_right, div-lt_self, div-lt_iff_lt-mul, le-div_iff_mul-le}
use native.Mathlib.Numerals.{unary_clauses}
use native.Mathlib.Omega.{arith}
use lib.Dec.{ltb}
use borrow.Author.Tests.{lt-ltb, le-ltb, ltb-false}
use Rattle.fields.specs.Choice.{when◌then◌else◌}
use Rattle.fields.proofs.Choices.{test_holds, test_fails}
use Rattle.io.specs.Digits.{hex_digit_ascii, IsDigitCount}
use Rattle.io.specs.Digits.{last_digits as last_digits}
use Rattle.text.specs.Digits.{zero_character, letter_a, character, digits_within, digits}

-- each digit has the same character
below_ten_or_not : (digit : ℕ) (below : Bool) → ltb digit 10 ≡ below
    → cond below (48 + digit) (87 + digit) ≡ (when below then zero_character + digit else letter_a + (digit - 10))
unfolding when◌then◌else◌
below_ten_or_not digit true e = refl
below_ten_or_not digit false e = omega (arith, ltb-false digit 10 e)

same_character : (digit : ℕ) → hex_digit_ascii digit ≡ character digit
unfolding character
same_character digit = below_ten_or_not digit (ltb digit 10) refl

module _ (base : ℕ) (above : 1 < base) where
  pow_one : base ^ 1 ≡ base
  pow_one = pow-suc base 0 ∙ ap (λ (n : ℕ). n * base) (pow-zero base) ∙ one-mul base

  -- the last k + 1 digits are all, where the number has so many
  last_are_all : (k most n : ℕ) → n < most → n < base ^ suc k → (0 < k → base ^ k ≤ n)
      → last_digits base (suc k) n ≡ digits_within most base n
  unfolding digits_within
  last_are_all k zero n h below least = absurd (let z : ⊥ = omega arith in z)
  last_are_all zero (suc most) n h below least =
      let one_digit : n < base = omega (arith, pow_one) in
      ap₂ (λ (front : List ℕ) (c : ℕ). front ++ c ∷ []) (sym (test_holds _ _ _ (lt-ltb n base one_digit)))
      (same_character (n % base))
  last_are_all (suc k) (suc most) n h below least =
      let p : 0 < base = omega arith in
      let enough : base ^ suc k ≤ n = least (omega arith) in
      let more : base ^ 1 ≤ base ^ suc k = pow-le-pow_right p (omega arith) in
      let two_digits : base ≤ n = omega (arith, pow_one) in
      let fewer : n / base < n = div-lt_self (omega arith) above in
      let rest : last_digits base (suc k) (n / base) ≡ digits_within most base (n / base) =
      last_are_all k most (n / base) (omega arith) ((div-lt_iff_lt-mul p).1 (rw pow-suc at below))
      (λ some. (le-div_iff_mul-le p).1 (rw pow-suc at enough)) in
      ap₂ (λ (front : List ℕ) (c : ℕ). front ++ c ∷ []) (rest ∙ sym (test_fails _ _ _ (le-ltb n base two_digits)))
      (same_character (n % base))

  -- so many digits as a number needs are all its digits
  fewest_are_all : (n k : ℕ) → IsDigitCount base 1 n k → last_digits base k n ≡ digits base n
  fewest_are_all n zero h = absurd (let z : ⊥ = omega (arith, h.0) in z)
  fewest_are_all n (suc k) h = last_are_all k (suc n) n (omega arith) h.1 (λ some. simp unary_clauses at (h.2 (omega arith)))

  -- what `io` says of the text that it spells makes it the digits
  pub spelled : (text : List ℕ) (n k : ℕ) → IsDigitCount base 1 n k × (text ≡ last_digits base k n) → text ≡ digits base n
  spelled text n k h = h.1 ∙ fewest_are_all n k h.0
