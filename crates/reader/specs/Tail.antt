-- The tail step.
use Rattle.std.specs.Prelude.{ℕ, ◌+◌, ◌-◌, not, List, length, take, drop}
use Rattle.fields.specs.Choice.{when◌then◌else◌, ◌is◌, ◌is_below◌}
use Rattle.fields.specs.Laid.{laid}
use Rattle.answers.specs.Numbers.{nothing_for_this_step, bytes_kept, pointer_beyond_rest, no_section_open}
use Rattle.reader.specs.declared.Reader.{Reader}
use Rattle.reader.specs.Outcome.{Step}
use Rattle.reader.specs.State.{idle, opened}
use Rattle.reader.specs.Outcome.{Outcome, outcome, answered, forgotten, in_buffer}
use Rattle.reader.specs.Checks.{from_the_payload}
use Rattle.reader.specs.Pointer.{unit_start, pointer, rest, points_beyond}
use Rattle.reader.specs.Whole.{whole}

-- "copy as many bytes as are still wanted, drop the others"
abbrev pub copied : Reader → List ℕ → List ℕ
copied reader bytes = take (reader.wanted - reader.held) bytes

abbrev pub filled : Reader → List ℕ → List ℕ → List ℕ
filled reader bytes buffer = laid buffer reader.held (copied reader bytes)

-- how many are held with them, and the step that keeps them: "if some are still wanted, 1"
abbrev pub held_with : Reader → List ℕ → ℕ
held_with reader bytes = reader.held + length (copied reader bytes)

abbrev pub still_open : Reader → List ℕ → Step
still_open reader bytes =
    answered bytes_kept (opened reader.form reader.memory (held_with reader bytes) reader.wanted)

-- the step where they fill the section: it is whole, in the buffer
abbrev pub whole_in : Reader → List ℕ → Step
whole_in reader buffer = whole reader.form reader.memory (in_buffer reader.wanted) (take reader.wanted buffer)

-- "Continuing when idle: 15. When open: copy ..; if some are still wanted, 1; else the section is whole"
unfoldable pub continued : Reader → List ℕ → List ℕ → Outcome
continued reader bytes buffer =
    when not reader.is_open then outcome (answered no_section_open (idle reader.form reader.memory)) buffer
    else when held_with reader bytes is_below reader.wanted then outcome (still_open reader bytes) (filled reader bytes buffer)
    else outcome (whole_in reader (filled reader bytes buffer)) (filled reader bytes buffer)

-- "No unit start: the whole payload continues. Unit start and pointer 0: answer 0. Pointer above 0 and not below the rest's length: 9. Otherwise the first
-- pointer bytes of the rest continue"
unfoldable pub tail_from : Reader → List ℕ → List ℕ → List ℕ → Outcome
tail_from reader packet payload buffer =
    when not (unit_start packet) then continued reader payload buffer
    else when pointer payload is 0 then outcome (answered nothing_for_this_step reader) buffer
    else when points_beyond payload then outcome (forgotten pointer_beyond_rest reader) buffer
    else continued reader (take (pointer payload) (rest payload)) buffer

unfoldable pub tail_of : Reader → List ℕ → List ℕ → Outcome
tail_of reader packet buffer =
    from_the_payload reader packet buffer (λ start. tail_from reader packet (drop start packet) buffer)
