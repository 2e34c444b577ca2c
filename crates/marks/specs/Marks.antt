-- A mark for each of the numbers 0 to 255.
use Rattle.std.specs.Prelude.{ℕ, ◌/◌, ◌%◌, ◌^◌, Bool, not, [], ◌∷◌, length, get_or, set}
use Rattle.std.specs.Int.Bits.{bit_or}
use Rattle.fields.specs.Choice.{◌and◌, ◌is◌}
use Rattle.marks.specs.declared.Marks.{Marks}

-- whether a word has a one at a place, and the word with a one there
unfoldable pub bit : ℕ → ℕ → Bool
bit word place = word / 2 ^ place % 2 is 1

unfoldable pub with_bit : ℕ → ℕ → ℕ
with_bit word place = bit_or word (2 ^ place)

-- the word of that number
abbrev pub word_at : Marks → ℕ → ℕ
word_at marks i = get_or marks.words i 0

abbrev pub no_marks : Marks
no_marks = record { words = 0 ∷ 0 ∷ 0 ∷ 0 ∷ [] }

-- a list has no length of its own: of every value of the type it is four
abbrev pub four_words : Marks → Bool
four_words marks = length marks.words is 4

-- whether any number is marked: not all words are 0
unfoldable pub any_marked : Marks → Bool
any_marked marks = not (word_at marks 0 is 0 and word_at marks 1 is 0 and word_at marks 2 is 0 and word_at marks 3 is 0)

-- 64 numbers a word, the lowest number in its last bit
unfoldable pub marked : Marks → ℕ → Bool
marked marks number = bit (word_at marks (number / 64)) (number % 64)

-- the marks, and the mark of this number
unfoldable pub with_mark : Marks → ℕ → Marks
with_mark marks number =
    record { words = set marks.words (number / 64) (with_bit (word_at marks (number / 64)) (number % 64)) }
