-- A word with a one at a place, place by place. Assumes nothing.
use Prim.Native.Nat.{ℕ, ◌*◌, ◌%◌, ◌^◌, ◌<◌}
use mathlib.Core.Path.{◌≡◌, sym, ◌∙◌, ap}
use mathlib.Core.Bool.{true, false, not}
use mathlib.Core.List.{List, [], ◌∷◌}
use native.Mathlib.Omega.{arith}
use native.Mathlib.Nat.{mod-eq_of_lt, one-mul, zero-div}
use lib.Pow.{pow-lt}
use lib.Dec.{eqb}
use lib.ListN.{length}
use lib.Pointwise.{pointwise}
use lib.Bits.{or_lt}
use Rattle.std.proofs.lemmas.Nat.Bits.{bit_at_or, bit_at-lt, bit_at-pow_same, bit_at-pow_other, same_from_bits_below}
use borrow.Author.Tests.{eq-eqb, eqb-true, eqb-false}
use Rattle.fields.specs.Choice.{◌is◌, when◌then◌else◌}
use Rattle.fields.proofs.Choices.{by_test}
use Rattle.marks.specs.Marks.{bit, with_bit, any_marked}
use Rattle.marks.specs.declared.Marks.{Marks}

-- one moved up by a place is the power
pub one_at : (place : ℕ) → place < 64 → 1 * 2 ^ place % 2 ^ 64 ≡ 2 ^ place
one_at place h = rw one-mul (mod-eq_of_lt (pow-lt {i = place} {j = 64} h))

-- ---- the bit that was set is set, and each other is as it was

pub bit_set : (word place : ℕ) → bit (with_bit word place) place ≡ true
unfolding bit with_bit
bit_set word place =
    let there = bit_at-pow_same place in
    let last = bit_at-lt word place in
    eq-eqb _ 1 (bit_at_or word (2 ^ place) place ∙ omega arith)

pub bit_kept : (word place k : ℕ) → (k ≡ place → ⊥) → bit (with_bit word place) k ≡ bit word k
unfolding bit with_bit
bit_kept word place k ne =
    let elsewhere = bit_at-pow_other place k ne in
    ap (λ (n : ℕ). n is 1) (bit_at_or word (2 ^ place) k ∙ omega arith)

pub with_bit_below : (word place : ℕ) → word < 2 ^ 64 → place < 64 → with_bit word place < 2 ^ 64
unfolding with_bit
with_bit_below word place w p = or_lt 64 word (2 ^ place) w (pow-lt {i = place} {j = 64} p)

pub no_bit : (place : ℕ) → bit 0 place ≡ false
unfolding bit
no_bit place = rw zero-div

-- ---- two words of so many places that have the same bits are one

same_last : (a b : ℕ) → a < 2 → b < 2 → (a is 1) ≡ (b is 1) → a ≡ b
same_last a b ha hb h =
    by_test (a is 1) (λ t. eqb-true a 1 t ∙ sym (eqb-true b 1 (sym h ∙ t)))
    (λ t. let na = eqb-false a 1 t in let nb = eqb-false b 1 (sym h ∙ t) in omega arith)

pub same_bits : (size a b : ℕ) → a < 2 ^ size → b < 2 ^ size → ((k : ℕ) → k < size → bit a k ≡ bit b k) → a ≡ b
unfolding bit
same_bits size a b ha hb same = same_from_bits_below size a b ha hb (λ k h. same_last _ _ (bit_at-lt a k) (bit_at-lt b k) (same k h))

-- ---- four words that are not all 0

any_of_list : (words : List ℕ) → length words ≡ 4 → not (pointwise eqb words (0 ∷ 0 ∷ 0 ∷ 0 ∷ [])) ≡ any_marked (record { words = words })
unfolding any_marked when◌then◌else◌
any_of_list (a ∷ b ∷ c ∷ d ∷ []) h =
    by_test (eqb a 0)
    (λ p. by_test (eqb b 0)
    (λ q. by_test (eqb c 0) (λ r. by_test (eqb d 0) (λ t. simp (p, q, r, t)) (λ t. simp (p, q, r, t))) (λ r. simp (p, q, r)))
    (λ q. simp (p, q)))
    (λ p. simp p)
any_of_list [] h = absurd (omega arith)
any_of_list (a ∷ []) h = absurd (omega arith)
any_of_list (a ∷ b ∷ []) h = absurd (omega arith)
any_of_list (a ∷ b ∷ c ∷ []) h = absurd (omega arith)
any_of_list (a ∷ b ∷ c ∷ d ∷ e ∷ words) h = absurd (omega arith)

pub any_of_four : (marks : Marks) → length marks.words ≡ 4 → not (pointwise eqb marks.words (0 ∷ 0 ∷ 0 ∷ 0 ∷ [])) ≡ any_marked marks
any_of_four marks four = any_of_list marks.words four
