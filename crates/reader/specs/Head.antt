-- The head step.
use Rattle.std.specs.Prelude.{ℕ, not, List, length, take, drop}
use Rattle.fields.specs.Choice.{when◌then◌else◌, ◌is◌, ◌is_at_most◌}
use Rattle.fields.specs.Laid.{laid}
use Rattle.answers.specs.Numbers.{nothing_for_this_step, bytes_kept, pointer_beyond_rest}
use Rattle.psi.specs.Header.{wanted}
use Rattle.memory.specs.declared.Form.{Form}
use Rattle.memory.specs.declared.Memory.{Memory}
use Rattle.memory.specs.Memory.{after_refusal}
use Rattle.gathering_rules.specs.Start.{start_refusal}
use Rattle.reader.specs.declared.Reader.{Reader}
use Rattle.reader.specs.State.{idle, opened}
use Rattle.reader.specs.Outcome.{Outcome, outcome, answered, forgotten, in_packet}
use Rattle.reader.specs.Checks.{from_the_payload}
use Rattle.reader.specs.Pointer.{unit_start, points_beyond, target}
use Rattle.reader.specs.Whole.{whole}

-- "Wanted is 3 plus section_length. If all are here the section is whole, in the packet; else all bytes from the pointer on are copied, 1"
unfoldable pub begun : Form → Memory → List ℕ → ℕ → List ℕ → Outcome
begun form memory bytes at buffer =
    when wanted bytes is_at_most length bytes then
    outcome (whole form memory (in_packet at (wanted bytes)) (take (wanted bytes) bytes)) buffer
    else outcome (answered bytes_kept (opened form memory (length bytes) (wanted bytes))) (laid buffer 0 bytes)

-- the bytes from the pointer on, which stand at a place of the packet, start a section, or are refused
unfoldable pub started : Form → Memory → List ℕ → ℕ → List ℕ → Outcome
started form memory bytes at buffer =
    when start_refusal form memory bytes is 0 then begun form memory bytes at buffer
    else
    outcome
    (answered (start_refusal form memory bytes) (idle form (after_refusal (start_refusal form memory bytes) memory)))
    buffer

-- "No unit start: 0. The same pointer test, 9 again. From the pointer on: .."
unfoldable pub head_from : Reader → List ℕ → ℕ → List ℕ → Outcome
head_from reader packet start buffer =
    when not (unit_start packet) then outcome (answered nothing_for_this_step reader) buffer
    else when points_beyond (drop start packet) then outcome (forgotten pointer_beyond_rest reader) buffer
    else started reader.form reader.memory (drop (target packet start) packet) (target packet start) buffer

unfoldable pub head_of : Reader → List ℕ → List ℕ → Outcome
head_of reader packet buffer = from_the_payload reader packet buffer (λ start. head_from reader packet start buffer)
