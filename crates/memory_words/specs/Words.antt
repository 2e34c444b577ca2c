-- A memory as five words of 64 bits.
use Rattle.std.specs.Prelude.{ℕ, ◌+◌, ◌*◌, ◌/◌, ◌%◌, ◌^◌, Bool, true, false, List, [], ◌∷◌, length, get_or}
use Rattle.fields.specs.Choice.{when◌then◌else◌, ◌and◌, ◌is◌, ◌is_not◌}
use Rattle.answers.specs.Numbers.{delivered, pointer_beyond_rest, under3_bytes}
use Rattle.marks.specs.Marks.{word_at}
use Rattle.marks.specs.declared.Marks.{Marks}
use Rattle.labels.specs.declared.Label.{Label}
use Rattle.memory.specs.declared.Form.{Form}
use Rattle.memory.specs.declared.Memory.{Memory}
use Rattle.memory.specs.Memory.{no_memory, agrees, after_answer}

abbrev pub memory_words : ℕ
memory_words = 5

abbrev pub word : List ℕ → ℕ → ℕ
word words i = get_or words i 0

-- four numbers in one word: the table id in its last 8 bits, then 16 of the id, the current bit, and the version
abbrev pub numbers : ℕ → ℕ → Bool → ℕ → ℕ
numbers table_id id current version = table_id + id * 2 ^ 8 + (when current then 1 else 0) * 2 ^ 24 + version * 2 ^ 25

-- those that are remembered, and those that a section says
abbrev pub numbers_of : Memory → ℕ
numbers_of memory = numbers memory.table_id memory.id memory.current_next_indicator memory.version

abbrev pub numbers_in : Label → ℕ
numbers_in label = numbers label.table_id label.id label.current_next_indicator label.version

-- and the marks in four
abbrev pub five_of : ℕ → Marks → List ℕ
five_of first marks = first ∷ word_at marks 0 ∷ word_at marks 1 ∷ word_at marks 2 ∷ word_at marks 3 ∷ []

abbrev pub words_of : Memory → List ℕ
words_of memory = five_of (numbers_of memory) memory.marks

-- the memory of five words; of any other count none
unfoldable pub memory_in : List ℕ → Memory
memory_in words =
    when length words is_not memory_words then no_memory
    else
    record {
      table_id = word words 0 % 2 ^ 8;
      id = word words 0 / 2 ^ 8 % 2 ^ 16;
      version = word words 0 / 2 ^ 25 % 2 ^ 8;
      current_next_indicator = word words 0 / 2 ^ 24 % 2 is 1;
      marks = record { words = word words 1 ∷ word words 2 ∷ word words 3 ∷ word words 4 ∷ [] };
    }

-- five words, with others or with a memory written over them
unfoldable pub put : ℕ → Marks → List ℕ → List ℕ
put first marks words = when length words is memory_words then five_of first marks else words

abbrev pub written : Memory → List ℕ → List ℕ
written memory words = put (numbers_of memory) memory.marks words

-- whether the four numbers that these words remember are the label's
abbrev pub agree : List ℕ → Label → Bool
agree words label = length words is memory_words and agrees (memory_in words) label

-- whether an answer changes what these words remember: 2, 9 and 10 do
unfoldable pub remembers : List ℕ → ℕ → Bool
remembers words answer =
    when length words is_not memory_words then false
    else when answer is delivered then true
    else when answer is pointer_beyond_rest then true
    else answer is under3_bytes

-- the words that ONCE lends, after a step: every other answer leaves them
unfoldable pub words_after : ℕ → List ℕ → List ℕ → List ℕ
words_after answer words section =
    when remembers words answer then written (after_answer answer Form.Once (memory_in words) section) words else words
