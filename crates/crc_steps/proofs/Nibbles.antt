-- Many bits enter at once: what they bring into a register of zero is the sum of what each four of them bring, `four_more`; and 32 bits that enter
-- are added to the register, `register_added`. Assumes nothing.
use mathlib.Core.Path.{◌≡◌, refl, sym, ap, ap₂, ◌∙◌}
use Prim.Native.Nat.{ℕ, zero, suc, ◌+◌, ◌*◌, ◌/◌, ◌%◌, ◌^◌, ◌<◌}
use native.Mathlib.Nat.{zero-add, suc-add, mul-one, zero-div, mod-eq_of_lt}
use native.Mathlib.Omega.{arith}
use lib.Bits.{bit_xor, xor_shr, xor_mod, xor_comm, xor_zero_l, xor_zero_r}
use Rattle.crc_steps.specs.BitSteps.{◌plus_polynomial_if◌, bit_step, bit_steps, bit_enters, bits_enter}
use Rattle.crc_steps.specs.StepTable.{nibble_entry}
use Rattle.crc_steps.proofs.Xor.{xor_swap, xor_shl}
use Rattle.crc_steps.proofs.Steps.{step_xor, steps_xor, enter_top, enter_join}

-- ---- what enters is a sum

enters_xor : (r s x y : ℕ) → bit_enters (bit_xor r s) (bit_xor x y) ≡ bit_xor (bit_enters r x) (bit_enters s y)
unfolding bit_enters
enters_xor r s x y =
    ap bit_step (ap (bit_xor (bit_xor r s)) (xor_shl x y 31) ∙ xor_swap r s (x * 2 ^ 31) (y * 2 ^ 31))
    ∙ step_xor (bit_xor r (x * 2 ^ 31)) (bit_xor s (y * 2 ^ 31))

enter_xor : (k r s m n : ℕ) → bits_enter k (bit_xor r s) (bit_xor m n) ≡ bit_xor (bits_enter k r m) (bits_enter k s n)
unfolding bits_enter
enter_xor zero r s m n = refl
enter_xor (suc k) r s m n =
    ap (λ t. bits_enter k t (bit_xor m n))
    (ap (bit_enters (bit_xor r s)) (ap (λ x. x % 2) (xor_shr m n k) ∙ xor_mod (m / 2 ^ k) (n / 2 ^ k) 1)
    ∙ enters_xor r s (m / 2 ^ k % 2) (n / 2 ^ k % 2))
    ∙ enter_xor k (bit_enters r (m / 2 ^ k % 2)) (bit_enters s (n / 2 ^ k % 2)) m n

zeros_enter : (k register : ℕ) → bits_enter k register 0 ≡ bit_steps k register
unfolding bits_enter bit_enters bit_steps
zeros_enter zero register = refl
zeros_enter (suc k) register =
    ap (λ r. bits_enter k r 0)
    (ap (λ b. bit_step (bit_xor register (b % 2 * 2 ^ 31))) (zero-div (2 ^ k)) ∙ ap bit_step (xor_zero_r register))
    ∙ zeros_enter k (bit_step register)

-- the register and the bits apart
pub enter_apart : (k register n : ℕ) → bits_enter k register n ≡ bit_xor (bit_steps k register) (bits_enter k 0 n)
enter_apart k register n =
    sym (ap₂ (bits_enter k) (xor_zero_r register) (xor_zero_l n)) ∙ enter_xor k register 0 0 n
    ∙ ap (λ r. bit_xor r (bits_enter k 0 n)) (zeros_enter k register)

steps_join : (j k register : ℕ) → bit_steps k (bit_steps j register) ≡ bit_steps (j + k) register
unfolding bit_steps
steps_join zero k register = ap (λ w. bit_steps w register) (sym (zero-add k))
steps_join (suc j) k register = steps_join j k (bit_step register) ∙ ap (λ w. bit_steps w register) (sym (suc-add j k))

-- ---- four bits more, ahead of the 4 * n that entered a register of zero

four_more : (n bits : ℕ) → bits_enter ((n + 1) * 4) 0 bits ≡ bit_xor (bits_enter (n * 4) 0 bits) (nibble_entry n (bits / 2 ^ (n * 4) % 16))
four_more n bits =
    let q : (n + 1) * 4 ≡ 4 + n * 4 = omega arith in
    let ahead : ℕ = bits / 2 ^ (n * 4) in
    let top : ℕ = ahead % 16 * 2 ^ 28 in
    ap (λ w. bits_enter w 0 bits) q ∙ sym (enter_join 4 (n * 4) 0 bits) ∙ enter_apart (n * 4) (bits_enter 4 0 ahead) bits
    ∙ xor_comm (bit_steps (n * 4) (bits_enter 4 0 ahead)) (bits_enter (n * 4) 0 bits)
    ∙ ap (bit_xor (bits_enter (n * 4) 0 bits))
    (ap (bit_steps (n * 4)) (enter_top 4 28 refl 0 ahead ∙ ap (bit_steps 4) (xor_zero_l top)) ∙ steps_join 4 (n * 4) top
    ∙ ap (λ w. bit_steps w top) (sym q))

-- ---- the same with so many fours behind them

steps_zero : (k : ℕ) → bit_steps k 0 ≡ 0
unfolding bit_steps bit_step ◌plus_polynomial_if◌
steps_zero zero = refl
steps_zero (suc k) = steps_zero k

pub no_four : (behind bits : ℕ) → 0 ≡ bit_steps (behind * 4) (bits_enter 0 0 bits)
unfolding bits_enter
no_four behind bits = sym (steps_zero (behind * 4))

pub next_four : (behind bits n : ℕ) → bit_xor (bit_steps (behind * 4) (bits_enter (n * 4) 0 bits)) (nibble_entry (n + behind) (bits / 2 ^ (n * 4) % 16))
    ≡ bit_steps (behind * 4) (bits_enter ((n + 1) * 4) 0 bits)
next_four behind bits n =
    let i : ℕ = bits / 2 ^ (n * 4) % 16 in
    let q : (n + 1) * 4 + behind * 4 ≡ (n + behind + 1) * 4 = omega arith in
    sym (ap (bit_steps (behind * 4)) (four_more n bits)
    ∙ steps_xor (behind * 4) (bits_enter (n * 4) 0 bits) (nibble_entry n i)
    ∙ ap (bit_xor (bit_steps (behind * 4) (bits_enter (n * 4) 0 bits)))
    (steps_join ((n + 1) * 4) (behind * 4) (i * 2 ^ 28) ∙ ap (λ w. bit_steps w (i * 2 ^ 28)) q))

-- ---- the register

-- 32 bits that enter are added to the register
pub register_added : (register n : ℕ) → register < 2 ^ 32 → bits_enter 32 register n ≡ bits_enter 32 0 (bit_xor register n)
register_added register n h =
    enter_apart 32 register n
    ∙ ap (λ r. bit_xor r (bits_enter 32 0 n))
    (sym (enter_top 32 0 refl 0 register
    ∙ ap (bit_steps 32) (xor_zero_l (register % 2 ^ 32 * 1) ∙ mul-one (register % 2 ^ 32) ∙ mod-eq_of_lt h)))
    ∙ sym (enter_xor 32 0 0 register n)

-- 32 bits enter, and then 32 more
pub two_words : (register first second : ℕ) → register < 2 ^ 32
    → bit_xor (bit_steps 0 (bits_enter 32 0 second)) (bit_steps 32 (bits_enter 32 0 (bit_xor register first)))
    ≡ bits_enter 32 (bits_enter 32 register first) second
unfolding bit_steps
two_words register first second h =
    let ahead : ℕ = bits_enter 32 0 (bit_xor register first) in
    xor_comm (bits_enter 32 0 second) (bit_steps 32 ahead) ∙ sym (enter_apart 32 ahead second)
    ∙ ap (λ r. bits_enter 32 r second) (sym (register_added register first h))
