-- Five words: written one after another, and read again. Assumes nothing.
use Prim.Native.Nat.{ℕ, suc, ◌+◌, ◌*◌, ◌/◌, ◌%◌, ◌^◌, ◌<◌, ◌≤◌}
use mathlib.Core.Path.{◌≡◌, refl, sym, ap, ◌∙◌}
use mathlib.Core.Bool.{Bool, true, false, not, true≢false}
use mathlib.Core.List.{List, [], ◌∷◌}
use native.Mathlib.Omega.{arith}
use lib.ListN.{length, get_or}
use borrow.Author.Tests.{eq-eqb, ne_eqb, eqb-true, eqb-false}
use mir.Val.{bool_byte}
use Rattle.fields.specs.Choice.{when◌then◌else◌, ◌is◌}
use Rattle.fields.proofs.Choices.{test_holds, test_fails, second_chosen, of_both, of_either, either_way, by_test, and_holds}
use Rattle.answers.specs.Numbers.{delivered, pointer_beyond_rest, under3_bytes}
use Rattle.marks.specs.Marks.{no_marks}
use Rattle.marks.specs.declared.Marks.{Marks}
use Rattle.labels.specs.Label.{label_of}
use Rattle.labels.specs.declared.Label.{Label}
use Rattle.memory.specs.declared.Form.{Form}
use Rattle.memory.specs.declared.Memory.{Memory}
use Rattle.memory.specs.Memory.{no_memory, agrees, marks_for, remembering, on_delivery, after_answer}
use Rattle.memory.proofs.Remembering.{memory_stays, Agreeing, agreeing, agrees_if}
use Rattle.memory_words.specs.Words.{memory_words, word, numbers_of, numbers_in, words_of, memory_in, agree, put, written, remembers, words_after}

-- a bool as a byte
pub byte_is_1_or_0 : (b : Bool) → bool_byte b ≡ (when b then 1 else 0)
unfolding when◌then◌else◌
byte_is_1_or_0 true = refl
byte_is_1_or_0 false = refl

-- ---- written one after another

record Uncons (n : ℕ) (words : List ℕ) : Type 0 where
  first : ℕ
  rest : List ℕ
  made : words ≡ first ∷ rest
  long : length rest ≡ n

uncons : (n : ℕ) (words : List ℕ) → length words ≡ suc n → Uncons n words
uncons n [] l = absurd (let m = l in omega arith)
uncons n (first ∷ rest) l = record { first = first; rest = rest; made = refl; long = let m = l in omega arith }

none_left : (rest : List ℕ) → length rest ≡ 0 → rest ≡ []
none_left [] l = refl
none_left (first ∷ rest) l = absurd (let m = l in omega arith)

-- ---- a memory, written and read again

-- numbers of the sizes that they have in every value of the type
pub record Fits (memory : Memory) : Type 0 where
  pub byte : memory.table_id < 256
  pub bytes : memory.id < 65536
  pub version : memory.version < 256
  pub four : length memory.marks.words ≡ 4

four_again : (words : List ℕ) → length words ≡ 4
    → get_or words 0 0 ∷ get_or words 1 0 ∷ get_or words 2 0 ∷ get_or words 3 0 ∷ [] ≡ words
four_again words l =
    let u0 = uncons 3 words l in
    let u1 = uncons 2 u0.rest u0.long in
    let u2 = uncons 1 u1.rest u1.long in
    let u3 = uncons 0 u2.rest u2.long in
    rw (u0.made, u1.made, u2.made, u3.made, none_left u3.rest u3.long) refl

-- each number of the word again
module _ (a b c d : ℕ) (ha : a < 256) (hb : b < 65536) (hc : c < 2) (hd : d < 256) where
  all : ℕ
  all = a + b * 2 ^ 8 + c * 2 ^ 24 + d * 2 ^ 25

  table_id_again : all % 2 ^ 8 ≡ a
  unfolding all
  table_id_again = omega arith

  id_again : all / 2 ^ 8 % 2 ^ 16 ≡ b
  unfolding all
  id_again = omega arith

  current_again : all / 2 ^ 24 % 2 ≡ c
  unfolding all
  current_again = omega arith

  version_again : all / 2 ^ 25 % 2 ^ 8 ≡ d
  unfolding all
  version_again = omega arith

flag_again : (b : Bool) → ((when b then 1 else 0) is 1) ≡ b
unfolding when◌then◌else◌
flag_again true = refl
flag_again false = refl

flag_below_2 : (b : Bool) → (when b then 1 else 0) < 2
unfolding when◌then◌else◌
flag_below_2 true = omega arith
flag_below_2 false = omega arith

pub memory_again : (memory : Memory) → Fits memory → memory_in (words_of memory) ≡ memory
unfolding memory_in all
memory_again memory fits =
    let flag : ℕ = when memory.current_next_indicator then 1 else 0 in
    let small = flag_below_2 memory.current_next_indicator in
    test_fails _ _ _ refl
    ∙ simp (
      table_id_again memory.table_id memory.id flag memory.version fits.byte fits.bytes small fits.version,
      id_again memory.table_id memory.id flag memory.version fits.byte fits.bytes small fits.version,
      current_again memory.table_id memory.id flag memory.version fits.byte fits.bytes small fits.version,
      version_again memory.table_id memory.id flag memory.version fits.byte fits.bytes small fits.version,
      flag_again,
      four_again memory.marks.words fits.four,
    )

-- the word of the four numbers has 33 bits at most
pub numbers_fit : (memory : Memory) → Fits memory → numbers_of memory < 2 ^ 33
numbers_fit memory fits =
    let small = flag_below_2 memory.current_next_indicator in
    omega (arith, fits.byte, fits.bytes, fits.version, small)

pub none_fits : Fits no_memory
none_fits = record { byte = omega arith; bytes = omega arith; version = omega arith; four = refl }

-- and what is read in words fits
pub memory_in_fits : (words : List ℕ) → Fits (memory_in words)
unfolding memory_in
memory_in_fits words =
    of_both Fits _ _ _ none_fits (record { byte = omega arith; bytes = omega arith; version = omega arith; four = refl })

-- ---- words, read and written again

-- the first no larger than its numbers, as that of every memory is
abbrev pub InRange : List ℕ → Type 0
InRange words = word words 0 < 2 ^ 33

bit_of : (n : ℕ) → n < 2 → (when n is 1 then 1 else 0) ≡ n
bit_of n h =
    by_test (n is 1) (λ t. test_holds _ _ _ t ∙ sym (eqb-true n 1 t))
    (λ t. let other = eqb-false n 1 t in test_fails _ _ _ t ∙ (let none : 0 ≡ n = omega arith in none))

-- the last bits of a number, in two parts
last_24 : (n : ℕ) → n % 2 ^ 24 ≡ n % 2 ^ 8 + n / 2 ^ 8 % 2 ^ 16 * 2 ^ 8
last_24 n = omega arith

last_25 : (n : ℕ) → n % 2 ^ 25 ≡ n % 2 ^ 24 + n / 2 ^ 24 % 2 * 2 ^ 24
last_25 n = omega arith

last_33 : (n : ℕ) → n % 2 ^ 33 ≡ n % 2 ^ 25 + n / 2 ^ 25 % 2 ^ 8 * 2 ^ 25
last_33 n = omega arith

-- the four numbers that are read in a word are its last 33 bits
number_again : (n : ℕ)
    → n % 2 ^ 8 + n / 2 ^ 8 % 2 ^ 16 * 2 ^ 8 + (when n / 2 ^ 24 % 2 is 1 then 1 else 0) * 2 ^ 24 + n / 2 ^ 25 % 2 ^ 8 * 2 ^ 25
    ≡ n % 2 ^ 33
number_again n =
    let bit = bit_of (n / 2 ^ 24 % 2) (omega arith) in
    rw (bit, last_33 n, last_25 n, last_24 n) refl

numbers_in_words : (words : List ℕ) → length words ≡ memory_words → numbers_of (memory_in words) ≡ word words 0 % 2 ^ 33
unfolding memory_in
numbers_in_words words five =
    rw (test_fails _ no_memory _ (ap not (eq-eqb _ _ five))) (number_again (word words 0))

five_again : (words : List ℕ) → length words ≡ memory_words
    → word words 0 ∷ word words 1 ∷ word words 2 ∷ word words 3 ∷ word words 4 ∷ [] ≡ words
five_again words l =
    let u0 = uncons 4 words l in
    rw u0.made (ap (λ (l : List ℕ). u0.first ∷ l) (four_again u0.rest u0.long))

pub words_again : (words : List ℕ) → InRange words → written (memory_in words) words ≡ words
unfolding put memory_in
words_again words range =
    of_either (λ (l : List ℕ). l ≡ words) _ _ _
    (λ five.
    let whole : word words 0 % 2 ^ 33 ≡ word words 0 = omega arith in
    rw (test_fails _ no_memory _ (ap not five))
    (rw (number_again (word words 0)) (rw whole (five_again words (eqb-true _ _ five)))))
    (λ other. refl)

-- where there are not five, nothing is written
pub not_five_stay : (first : ℕ) (marks : Marks) (words : List ℕ) → (length words ≡ memory_words → ⊥) → put first marks words ≡ words
unfolding put
not_five_stay first marks words other = test_fails _ _ _ (ne_eqb _ _ other)

-- what is written after a step is what the step remembers
pub words_remember : (answer : ℕ) (words section : List ℕ) → InRange words
    → words_after answer words section ≡ written (after_answer answer Form.Once (memory_in words) section) words
unfolding words_after remembers
words_remember answer words section range =
    of_either (λ (l : List ℕ). l ≡ written (after_answer answer Form.Once (memory_in words) section) words) _ _ _ (λ its. refl)
    (λ none. either_way _ _ _ _ none
    (λ other f. sym (not_five_stay _ _ words (λ five. true≢false (sym other ∙ ap not (eq-eqb _ _ five)))))
    (λ five f.
    let not2 = second_chosen _ _ _ _ f (λ g. true≢false g) in
    let not9 = second_chosen _ _ _ _ not2.1 (λ g. true≢false g) in
    let same = memory_stays answer Form.Once (memory_in words) section (eqb-false _ _ not2.0) (eqb-false _ _ not9.0)
    (eqb-false _ _ not9.1) in
    sym (ap (λ (m : Memory). written m words) same ∙ words_again words range)))

-- ---- four numbers, compared as one word

pub record LabelFits (label : Label) : Type 0 where
  pub byte : label.table_id < 256
  pub bytes : label.id < 65536
  pub version : label.version < 256

same_bit : (a b : Bool) → ◌≡◌ {A = ℕ} (when a then 1 else 0) (when b then 1 else 0) → a ≡ b
same_bit a b e = sym (flag_again a) ∙ ap (λ (n : ℕ). n is 1) e ∙ flag_again b

numbers_tell : (memory : Memory) (label : Label) → Fits memory → LabelFits label → numbers_of memory ≡ numbers_in label
    → Agreeing memory label
numbers_tell memory label fits label_fits e =
    let record { byte = a; bytes = b; version = d; four = f } = fits in
    let record { byte = a'; bytes = b'; version = d' } = label_fits in
    let c = flag_below_2 memory.current_next_indicator in
    let c' = flag_below_2 label.current_next_indicator in
    record { table_id = omega arith; id = omega arith; version = omega arith; current = same_bit _ _ (omega arith) }

same_numbers : (memory : Memory) (label : Label) → Agreeing memory label → numbers_of memory ≡ numbers_in label
same_numbers memory label same = rw (same.table_id, same.id, same.version, same.current) refl

-- the words' four numbers are the label's exactly if their word is
pub agree_by_word : (words : List ℕ) (label : Label) → LabelFits label → length words ≡ memory_words
    → agree words label ≡ (word words 0 % 2 ^ 33 is numbers_in label)
agree_by_word words label fits five =
    let its = numbers_in_words words five in
    test_holds _ _ _ (eq-eqb _ _ five)
    ∙ by_test (agrees (memory_in words) label)
    (λ same. same ∙ sym (eq-eqb _ _ (sym its ∙ same_numbers _ label (agreeing _ label same))))
    (λ other. other
    ∙ sym (ne_eqb _ _ (λ e. true≢false (sym (agrees_if _ label (numbers_tell _ label (memory_in_fits words) fits (its ∙ e))) ∙ other))))

pub agree_at_once : (words : List ℕ) (label : Label) → label.table_id < 256 → label.id < 65536 → label.version < 256
    → length words ≡ memory_words → agree words label ≡ (word words 0 % 2 ^ 33 is numbers_in label)
agree_at_once words label byte bytes version five =
    agree_by_word words label (record { byte = byte; bytes = bytes; version = version }) five

-- ---- what the code does, by whether they agree and by the answer

pub marks_that_agree : (words : List ℕ) (label : Label) → agree words label ≡ true
    → marks_for (memory_in words) label ≡ (memory_in words).marks
unfolding marks_for
marks_that_agree words label h = test_holds _ _ _ (and_holds _ _ h).1

-- of other than five words there are no marks, whether they agree or not
pub marks_that_do_not : (words : List ℕ) (label : Label) → agree words label ≡ false → marks_for (memory_in words) label ≡ no_marks
unfolding marks_for memory_in
marks_that_do_not words label h =
    either_way _ _ _ _ h (λ five other. test_fails _ _ _ other)
    (λ few f. rw (test_holds _ no_memory _ (ap not few)) (of_both (λ (m : Marks). m ≡ no_marks) _ _ _ refl refl))

pub delivered_words : (answer : ℕ) (words section : List ℕ) → answer ≡ delivered
    → words_after answer words section ≡ written (remembering (memory_in words) (label_of section)) words
unfolding words_after remembers after_answer on_delivery when◌then◌else◌
delivered_words answer words section e =
    rw e
    (by_test (length words is memory_words)
    (λ five. rw five refl)
    (λ few. rw few (sym (not_five_stay _ _ words (eqb-false _ _ few)))))

-- 9 and 10 forget all
forgotten_at : (answer : ℕ) (words section : List ℕ) → remembers words answer ≡ (length words is memory_words)
    → after_answer answer Form.Once (memory_in words) section ≡ no_memory → words_after answer words section ≡ put 0 no_marks words
unfolding words_after when◌then◌else◌
forgotten_at answer words section e none =
    rw (e, none)
    (of_either (λ (l : List ℕ). l ≡ put 0 no_marks words) _ _ _ (λ five. refl) (λ few. sym (not_five_stay _ _ words (eqb-false _ _ few))))

remembers_9 : (words : List ℕ) → remembers words pointer_beyond_rest ≡ (length words is memory_words)
unfolding remembers when◌then◌else◌
remembers_9 words = by_test (length words is memory_words) (λ five. rw five refl) (λ few. rw few refl)

remembers_10 : (words : List ℕ) → remembers words under3_bytes ≡ (length words is memory_words)
unfolding remembers when◌then◌else◌
remembers_10 words = by_test (length words is memory_words) (λ five. rw five refl) (λ few. rw few refl)

pub forgotten_words : (answer : ℕ) (words section : List ℕ) → pointer_beyond_rest ≤ answer → answer ≤ under3_bytes
    → words_after answer words section ≡ put 0 no_marks words
unfolding after_answer when◌then◌else◌
forgotten_words answer words section h l =
    by_test (answer is pointer_beyond_rest)
    (λ t. rw (eqb-true _ _ t) (forgotten_at _ words section (remembers_9 words) refl))
    (λ t.
    let other = eqb-false _ _ t in
    let e : answer ≡ under3_bytes = omega arith in
    rw e (forgotten_at _ words section (remembers_10 words) refl))

pub words_stay : (answer : ℕ) (words section : List ℕ) → remembers words answer ≡ false → words_after answer words section ≡ words
unfolding words_after
words_stay answer words section h = test_fails _ _ _ h

pub other_answers : (answer : ℕ) (words section : List ℕ) → (answer ≡ delivered → ⊥) → (answer ≡ pointer_beyond_rest → ⊥)
    → (answer ≡ under3_bytes → ⊥) → words_after answer words section ≡ words
unfolding remembers
other_answers answer words section not2 not9 not10 =
    words_stay answer words section
    (of_both (λ b. b ≡ false) _ _ _ refl (test_fails _ _ _ (ne_eqb _ _ not2) ∙ test_fails _ _ _ (ne_eqb _ _ not9) ∙ ne_eqb _ _ not10))
