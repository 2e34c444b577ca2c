-- What a mark does, in the numbers 0 to 255. Assumes nothing.
use Prim.Native.Nat.{ℕ, suc, zero, ◌+◌, ◌*◌, ◌/◌, ◌%◌, ◌^◌, ◌<◌}
use mathlib.Core.Path.{◌≡◌, refl, sym, ◌∙◌, ap}
use mathlib.Core.Bool.{true, false, true≢false}
use mathlib.Core.List.{List}
use native.Mathlib.Omega.{arith}
use lib.ListN.{length, length-set}
use lib.Seq.{get_or-set_same, get_or-set_other, ext_get_or}
use borrow.Author.Tests.{eqb-true, eqb-false, not-false}
use Rattle.fields.specs.Choice.{when◌then◌else◌, ◌is◌}
use Rattle.fields.proofs.Choices.{test_holds, test_fails, by_test, and_holds}
use Rattle.marks.specs.Marks.{bit, word_at, no_marks, four_words, any_marked, marked, with_mark}
use Rattle.marks.specs.declared.Marks.{Marks}
use Rattle.marks.proofs.Words.{bit_set, bit_kept, with_bit_below, same_bits, no_bit}

-- ---- a mark more

module _ (marks : Marks) (four : four_words marks ≡ true) (number : ℕ) (small : number < 256) where
  there : number / 64 < length marks.words
  there = let l = eqb-true (length marks.words) 4 four in omega arith

  mark_there : marked (with_mark marks number) number ≡ true
  unfolding marked with_mark there
  mark_there = let inside = there in rw get_or-set_same (bit_set _ _)

  mark_kept : (k : ℕ) → (k ≡ number → ⊥) → marked (with_mark marks number) k ≡ marked marks k
  unfolding marked with_mark there
  mark_kept k ne =
      by_test (k / 64 is number / 64)
      (λ t.
      let e = eqb-true (k / 64) (number / 64) t in
      let inside = there in
      rw e (rw get_or-set_same (bit_kept _ _ _ (λ same. ne (omega arith)))))
      (λ t. let other : (k / 64 ≡ number / 64 → ⊥) = eqb-false _ _ t in rw get_or-set_other)

  -- on its number, and on those that were marked before
  pub mark_law : (k : ℕ) → marked (with_mark marks number) k ≡ (when k is number then true else marked marks k)
  mark_law k =
      by_test (k is number)
      (λ t. let e = eqb-true k number t in ap (marked (with_mark marks number)) e ∙ mark_there ∙ sym (test_holds _ _ _ t))
      (λ t. mark_kept k (eqb-false _ _ t) ∙ sym (test_fails _ _ _ t))

  pub with_mark_four : four_words (with_mark marks number) ≡ true
  unfolding with_mark
  with_mark_four = rw length-set four

-- ---- no mark

four_zeros : (i : ℕ) → word_at no_marks i ≡ 0
four_zeros zero = refl
four_zeros (suc zero) = refl
four_zeros (suc (suc zero)) = refl
four_zeros (suc (suc (suc zero))) = refl
four_zeros (suc (suc (suc (suc i)))) = refl

pub none_marked : (k : ℕ) → marked no_marks k ≡ false
unfolding marked
none_marked k = ap (λ (w : ℕ). bit w (k % 64)) (four_zeros (k / 64)) ∙ no_bit (k % 64)

-- ---- marks that are the same, number by number, are the same four words

-- words of 64 bits, as those of every value of the type are
pub record Fits (marks : Marks) : Type 0 where
  pub four : four_words marks ≡ true
  pub words64 : (i : ℕ) → word_at marks i < 2 ^ 64

pub none_fits : Fits no_marks
none_fits = record { four = refl; words64 = λ i. rw four_zeros (omega arith) }

pub with_mark_fits : (marks : Marks) → Fits marks → (number : ℕ) → number < 256 → Fits (with_mark marks number)
unfolding with_mark there
with_mark_fits marks fits number small =
    record {
      four = with_mark_four marks fits.four number small;
      words64 =
          λ i. by_test (i is number / 64)
          (λ t.
          let inside = there marks fits.four number small in
          rw (eqb-true i (number / 64) t)
          (rw get_or-set_same (with_bit_below _ _ (fits.words64 (number / 64)) (omega arith))))
          (λ t. let other : (i ≡ number / 64 → ⊥) = eqb-false _ _ t in rw get_or-set_other (fits.words64 i));
    }

pub same_marks : (a b : Marks) → Fits a → Fits b → ((k : ℕ) → k < 256 → marked a k ≡ marked b k) → a ≡ b
unfolding marked
same_marks a b fa fb same =
    let la = eqb-true (length a.words) 4 fa.four in
    let lb = eqb-true (length b.words) 4 fb.four in
    let words : a.words ≡ b.words =
    ext_get_or 0 a.words b.words (la ∙ sym lb)
    (λ i h.
    same_bits 64 _ _ (fa.words64 i) (fb.words64 i)
    (λ p hp.
    let word : (i * 64 + p) / 64 ≡ i = omega arith in
    let place : (i * 64 + p) % 64 ≡ p = omega arith in
    rw (word, place) at (same (i * 64 + p) (omega arith)))) in
    ap (λ (ws : List ℕ). record { words = ws }) words

-- ---- whether any number is marked

-- where none of the 256 is, the words are those of no mark
pub no_number_marked : (marks : Marks) → Fits marks → ((k : ℕ) → k < 256 → marked marks k ≡ false) → any_marked marks ≡ false
unfolding any_marked when◌then◌else◌
no_number_marked marks fits none =
    ap any_marked (same_marks marks no_marks fits none_fits (λ k h. none k h ∙ sym (none_marked k)))

-- and where one is, a word is not 0
all_words_0 : (marks : Marks) → any_marked marks ≡ false → (i : ℕ) → i < 4 → word_at marks i ≡ 0
unfolding any_marked
all_words_0 marks none zero h = eqb-true _ 0 (and_holds _ _ (not-false _ none)).0
all_words_0 marks none (suc zero) h = eqb-true _ 0 (and_holds _ _ (and_holds _ _ (not-false _ none)).1).0
all_words_0 marks none (suc (suc zero)) h =
    eqb-true _ 0 (and_holds _ _ (and_holds _ _ (and_holds _ _ (not-false _ none)).1).1).0
all_words_0 marks none (suc (suc (suc zero))) h =
    eqb-true _ 0 (and_holds _ _ (and_holds _ _ (and_holds _ _ (not-false _ none)).1).1).1
all_words_0 marks none (suc (suc (suc (suc i)))) h = absurd (let l = h in omega arith)

pub none_is_no_marks : (marks : Marks) → four_words marks ≡ true → any_marked marks ≡ false → marks ≡ no_marks
none_is_no_marks marks four none =
    let l = eqb-true (length marks.words) 4 four in
    ap (λ (ws : List ℕ). record { words = ws })
    (ext_get_or 0 marks.words no_marks.words l
    (λ i h. all_words_0 marks none i (omega arith) ∙ sym (four_zeros i)))

pub number_marked : (marks : Marks) (number : ℕ) → number < 256 → marked marks number ≡ true → any_marked marks ≡ true
unfolding marked
number_marked marks number small is_marked =
    by_test (any_marked marks) (λ t. t)
    (λ none.
    let zero = all_words_0 marks none (number / 64) (omega arith) in
    absurd (true≢false (sym is_marked ∙ ap (λ (w : ℕ). bit w (number % 64)) zero ∙ no_bit (number % 64))))

-- so that it holds once a mark is put
pub with_mark_any : (marks : Marks) → four_words marks ≡ true → (number : ℕ) → number < 256 → any_marked (with_mark marks number) ≡ true
with_mark_any marks four number small =
    number_marked (with_mark marks number) number small (mark_there marks four number small)
