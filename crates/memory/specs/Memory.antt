-- What ONCE remembers: request 2, "A bad copy must not silence good ones".
use Rattle.std.specs.Prelude.{ℕ, Bool, false, not, List}
use Rattle.fields.specs.Choice.{when◌then◌else◌, ◌and◌, ◌is◌, ◌is_at_most◌}
use Rattle.answers.specs.Numbers.{delivered, pointer_beyond_rest, under3_bytes}
use Rattle.marks.specs.Marks.{no_marks, four_words, any_marked, marked, with_mark}
use Rattle.marks.specs.declared.Marks.{Marks}
use Rattle.labels.specs.Label.{label_of, no_label}
use Rattle.memory.specs.declared.Form.{Form}
use Rattle.labels.specs.declared.Label.{Label}
use Rattle.memory.specs.declared.Memory.{Memory}

-- "none is all zero"
abbrev pub no_memory : Memory
no_memory = record { table_id = 0; id = 0; version = 0; current_next_indicator = false; marks = no_marks }

-- ---- what a section is compared with

abbrev pub same_flag : Bool → Bool → Bool
same_flag flag other = when flag then other else not other

-- "all four agree"
unfoldable pub agrees : Memory → Label → Bool
agrees memory label =
    memory.table_id is label.table_id and memory.id is label.id and memory.version is label.version
    and same_flag memory.current_next_indicator label.current_next_indicator

-- "Answer 14 is given exactly if all four agree and that number is marked", in ONCE alone
unfoldable pub repeats : Form → Memory → List ℕ → Bool
repeats Form.Compact memory bytes = false
repeats Form.Full memory bytes = false
repeats Form.Once memory bytes = agrees memory (label_of bytes) and marked memory.marks (label_of bytes).section_number

-- ---- what is remembered

-- "A delivered section with the same four adds its mark; one with another four starts the memory anew with its own mark only"
unfoldable pub marks_for : Memory → Label → Marks
marks_for memory label = when agrees memory label then memory.marks else no_marks

abbrev pub remembering : Memory → Label → Memory
remembering memory label =
    record {
      table_id = label.table_id;
      id = label.id;
      version = label.version;
      current_next_indicator = label.current_next_indicator;
      marks = with_mark (marks_for memory label) label.section_number;
    }

-- COMPACT and FULL never remember
unfoldable pub on_delivery : Form → Memory → List ℕ → Memory
on_delivery Form.Compact memory section = memory
on_delivery Form.Full memory section = memory
on_delivery Form.Once memory section = remembering memory (label_of section)

-- what is remembered where a start is refused: 10 forgets it
abbrev pub after_refusal : ℕ → Memory → Memory
after_refusal refusal memory = when refusal is under3_bytes then no_memory else memory

-- the same of every answer of a step: 2 remembers the section that was delivered, "9 and 10 still forget all of it", and no other answer changes it
unfoldable pub after_answer : ℕ → Form → Memory → List ℕ → Memory
after_answer answer form memory section =
    when answer is delivered then on_delivery form memory section
    else when answer is pointer_beyond_rest then no_memory
    else when answer is under3_bytes then no_memory
    else memory

-- ---- sound memories

-- "COMPACT and FULL remember" nothing, "version at most 31"
abbrev pub may_remember : Form → ℕ → Bool
may_remember Form.Compact version = false
may_remember Form.Full version = false
may_remember Form.Once version = version is_at_most 31

-- "Sound memory: version at most 31, at least one mark; none is all zero"
unfoldable pub sound_memory : Form → Memory → Bool
sound_memory form memory =
    four_words memory.marks and
    (when any_marked memory.marks then may_remember form memory.version else agrees memory no_label)
