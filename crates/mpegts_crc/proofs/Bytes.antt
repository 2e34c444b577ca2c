-- The CRC over bytes: two runs one after the other, bytes as one number, the turns of a loop and its end, and that it fits the register.
-- Assumes nothing.
use mathlib.Core.Path.{◌≡◌, refl, sym, ap, ap₂, ◌∙◌, subst}
use mathlib.Core.List.{List, [], ◌∷◌, ◌++◌}
use Prim.Native.Nat.{ℕ, zero, suc, ◌+◌, ◌-◌, ◌*◌, ◌/◌, ◌%◌, ◌^◌, ◌<◌, ◌≤◌}
use native.Mathlib.Nat.{zero-mul, suc-mul, div-eq_of_lt}
use native.Mathlib.Numerals.{add-one}
use native.Mathlib.Omega.{arith}
use lib.Arith.{digits_div, digits_mod}
use lib.Bits.{bit_xor}
use lib.Dec.{lit<}
use lib.ListN.{length, get_or, take, drop, length-drop, take-append-drop, length-append, drop_of_length-le}
use lib.Seq.{take-suc, take_all, drop-cons, drop-drop, drop_at, get_or-drop}
use Rattle.fields.specs.BitString.{number_at}
use Rattle.fields.specs.Word.{word_of}
use Rattle.fields.proofs.BitStrings.{byte_more, number_at_lt}
use Rattle.fields.proofs.SyntaxTables.{word_there}
use Rattle.crc_steps.specs.BitSteps.{◌plus_polynomial_if◌, bit_step, bit_enters, bits_enter}
use Rattle.crc_steps.specs.StepTable.{entry_of}
use Rattle.mpegts_crc.specs.Crc.{all_ones, crc_from, crc_of}
use Rattle.crc_steps.proofs.Steps.{enter_lt, enter_join, enter_mod, index_lt, table_step}

pub crc_append : (register : ℕ) (xs ys : List ℕ) → crc_from register (xs ++ ys) ≡ crc_from (crc_from register xs) ys
unfolding crc_from
crc_append register [] ys = refl
crc_append register (x ∷ xs) ys = crc_append (bits_enter 8 register x) xs ys

taken_then_dropped : (register n : ℕ) (bytes : List ℕ) → crc_from (crc_from register (take n bytes)) (drop n bytes) ≡ crc_from register bytes
taken_then_dropped register n bytes = sym (crc_append register (take n bytes) (drop n bytes)) ∙ ap (crc_from register) (take-append-drop n bytes)

-- the first n bytes enter as the number that they write
word_enters : (n register : ℕ) (bytes : List ℕ) → n ≤ length bytes → ((i : ℕ) → get_or bytes i 0 < 256)
    → crc_from register (take n bytes) ≡ bits_enter (n * 8) register (number_at 0 (n * 8) bytes)
unfolding crc_from bits_enter
word_enters zero register bytes l h = ap (λ w. bits_enter w register (number_at 0 (0 * 8) bytes)) (sym (zero-mul 8))
word_enters (suc n) register bytes l h =
    let byte : ℕ = get_or bytes n 0 in
    let front : ℕ = number_at 0 (n * 8) bytes in
    let all : ℕ = front * 256 + byte in
    let e : (n + 1) * 8 ≡ suc n * 8 = omega arith in
    ap (crc_from register) (take-suc bytes n 0 l) ∙ crc_append register (take n bytes) (byte ∷ [])
    ∙ ap (λ r. bits_enter 8 r byte) (word_enters n register bytes (omega arith) h)
    ∙ ap₂ (λ q r. bits_enter 8 (bits_enter (n * 8) register q) r) (sym (digits_div front (h n))) (sym (digits_mod front (h n)))
    ∙ enter_mod 8 24 refl (bits_enter (n * 8) register (all / 256)) all ∙ enter_join (n * 8) 8 register all
    ∙ ap₂ (λ w x. bits_enter w register x) (sym (suc-mul n 8)) (sym (byte_more bytes n l (h n)) ∙ ap (λ w. number_at 0 w bytes) e)

-- the first eight bytes may have bytes of zero ahead of them, from a register that these bring to all ones
pub first_turn : {eight : ℕ} (register : ℕ) (bytes : List ℕ) (padding : ℕ) → padding ≤ 8 → 8 - padding ≤ length bytes
    → ((i : ℕ) → get_or bytes i 0 < 256)
    → bits_enter (padding * 8) register 0 ≡ all_ones → eight ≡ number_at 0 ((8 - padding) * 8) bytes
    → crc_from (bits_enter 32 (bits_enter 32 register (eight / 2 ^ 32)) eight) (drop (8 - padding) bytes) ≡ crc_of bytes
unfolding crc_of
first_turn {eight} register bytes padding m l h start number =
    let n : ℕ = 8 - padding in
    let front : ℕ = number_at 0 (n * 8) bytes in
    let q : 64 ≡ padding * 8 + n * 8 = omega arith in
    ap (λ r. crc_from r (drop n bytes))
    (enter_join 32 32 register eight
    ∙ ap₂ (λ w x. bits_enter w register x) q number ∙ sym (enter_join (padding * 8) (n * 8) register front)
    ∙ ap (λ r. bits_enter (n * 8) r front)
    (ap (bits_enter (padding * 8) register) (div-eq_of_lt (number_at_lt bytes 0 (n * 8) (omega arith))) ∙ start)
    ∙ sym (word_enters n all_ones bytes l h))
    ∙ taken_then_dropped all_ones n bytes

-- these registers, which none to seven bytes of zero bring to all ones
pub start_registers :
    (bits_enter (0 * 8) 0xffff_ffff 0 ≡ all_ones)
    × (bits_enter (1 * 8) 0x9bf1_a90f 0 ≡ all_ones)
    × (bits_enter (2 * 8) 0x09b9_3859 0 ≡ all_ones)
    × (bits_enter (3 * 8) 0x8164_74c5 0 ≡ all_ones)
    × (bits_enter (4 * 8) 0x46af_6449 0 ≡ all_ones)
    × (bits_enter (5 * 8) 0x339f_de2f 0 ≡ all_ones)
    × (bits_enter (6 * 8) 0x68b9_32f5 0 ≡ all_ones)
    × (bits_enter (7 * 8) 0x955a_6162 0 ≡ all_ones)
unfolding ◌plus_polynomial_if◌ bit_step bit_enters bits_enter
start_registers = (refl, refl, refl, refl, refl, refl, refl, refl)

-- what turns of eight bytes leave of all
pub record Left (bytes left : List ℕ) : Type 0 where
  pub fits : length left ≤ length bytes
  pub eights : length left % 8 ≡ length bytes % 8
  pub end : left ≡ drop (length bytes - length left) bytes

pub all_left : (bytes : List ℕ) → Left bytes bytes
all_left bytes = record { fits = omega arith; eights = refl; end = ap (λ n. drop n bytes) (let e : 0 ≡ length bytes - length bytes = omega arith in e) }

pub at_end : (bytes left : List ℕ) → Left bytes left → length left < 8 → left ≡ drop (length bytes - length bytes % 8) bytes
at_end bytes left h l =
    let e = h.eights in
    let q : length left ≡ length bytes % 8 = omega arith in
    h.end ∙ ap (λ n. drop (length bytes - n) bytes) q

in_front : (xs ys : List ℕ) → ((i : ℕ) → get_or (xs ++ ys) i 0 < 256) → (i : ℕ) → get_or xs i 0 < 256
in_front [] ys h i = omega arith
in_front (x ∷ xs) ys h zero = h 0
in_front (x ∷ xs) ys h (suc i) = in_front xs ys (λ i. h (suc i)) i

module _ (bytes eight left : List ℕ) (h' : Left bytes (eight ++ left)) (l : length eight ≡ 8) where
  pub eight_less : Left bytes left
  eight_less =
      let both : length (eight ++ left) ≡ 8 + length left = simp length-append (omega (arith, l)) in
      let fits = h'.fits in
      let eights = h'.eights in
      record {
        fits = omega arith;
        eights = omega arith;
        end = sym (drop_at eight left 8 l) ∙ ap (drop 8) h'.end ∙ drop-drop 8 _ bytes ∙ ap (λ n. drop n bytes) (omega arith);
      }

  -- eight bytes are two words
  pub eight_turn : {whole : ℕ} (register : ℕ) → ((i : ℕ) → get_or bytes i 0 < 256) → crc_from register (eight ++ left) ≡ whole
      → crc_from (bits_enter 32 (bits_enter 32 register (word_of eight 0 4)) (word_of eight 4 4)) left ≡ whole
  eight_turn register h p =
      let back : List ℕ = drop 4 eight in
      let four : 4 ≤ length back = simp length-drop (omega arith) in
      let small : (i : ℕ) → get_or eight i 0 < 256 =
      in_front eight left (λ i. subst (λ b. b < 256) (sym (ap (λ bs. get_or bs i 0) h'.end ∙ get_or-drop _ bytes i 0)) (h _)) in
      ap (λ r. crc_from r left)
      (ap₂ (λ x y. bits_enter 32 (bits_enter 32 register x) y) (word_there eight 0 4 (omega arith) (omega arith)) (word_there eight 4 4 (omega arith) (omega arith))
      ∙ ap (λ r. bits_enter 32 r (number_at 0 32 back)) (sym (word_enters 4 register eight (omega arith) small))
      ∙ sym (word_enters 4 (crc_from register (take 4 eight)) back four (λ i. subst (λ b. b < 256) (sym (get_or-drop 4 eight i 0)) (small (4 + i))))
      ∙ ap (crc_from (crc_from register (take 4 eight))) (take_all 4 back (simp length-drop (omega arith)))
      ∙ taken_then_dropped register 4 eight)
      ∙ sym (crc_append register eight left) ∙ p

-- a turn over one byte: the byte at i takes the register to next, and whole is what is to come out
pub byte_turn : {next whole : ℕ} (register : ℕ) (bytes : List ℕ) (i : ℕ) → i < length bytes
    → next ≡ bits_enter 8 register (get_or bytes i 0) → crc_from register (drop i bytes) ≡ whole → crc_from next (drop (i + 1) bytes) ≡ whole
unfolding crc_from
byte_turn register bytes i h step p = rw (step, add-one) (sym (ap (crc_from register) (drop-cons bytes i 0 h)) ∙ p)

-- nothing is left to enter
pub done : {register whole : ℕ} (bytes : List ℕ) (at : ℕ) → length bytes ≤ at → crc_from register (drop at bytes) ≡ whole → register ≡ whole
unfolding crc_from
done {register} bytes at h p = sym (ap (crc_from register) (drop_of_length-le bytes h)) ∙ p

from_lt : (register : ℕ) (bytes : List ℕ) → register < 2 ^ 32 → crc_from register bytes < 2 ^ 32
unfolding crc_from
from_lt register [] h = h
from_lt register (byte ∷ bytes) h = from_lt (bits_enter 8 register byte) bytes (enter_lt 8 register byte h)

pub crc_lt : (bytes : List ℕ) → crc_of bytes < 2 ^ 32
unfolding crc_of
crc_lt bytes = from_lt all_ones bytes (lit< tt)

-- ---- a byte by the table: its place there, and the step

pub place_lt : (register byte : ℕ) → register < 2 ^ 32 → byte < 2 ^ 8 → bit_xor (register / 2 ^ 24) byte < 2 ^ 8
place_lt register byte h k = index_lt 8 24 refl h k

pub byte_step : (register byte : ℕ) → byte < 2 ^ 8
    → bit_xor (register * 2 ^ 8 % 2 ^ 32) (entry_of 8 (bit_xor (register / 2 ^ 24) byte)) ≡ bits_enter 8 register byte
byte_step register byte h = sym (table_step 8 24 refl register byte h)

pub ruleset turns = (all_left, at_end, byte_turn, done)
