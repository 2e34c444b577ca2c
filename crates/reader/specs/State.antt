-- The reader's state: document 01, "Gathering: two steps for each packet".
use Rattle.std.specs.Prelude.{ℕ, Bool, true, false}
use Rattle.fields.specs.Choice.{when◌then◌else◌, ◌and◌, ◌is◌, ◌is_below◌, ◌is_at_most◌}
use Rattle.memory.specs.declared.Form.{Form}
use Rattle.memory.specs.declared.Memory.{Memory}
use Rattle.memory.specs.Memory.{no_memory, sound_memory}
use Rattle.gathering_rules.specs.Checks.{buffer_length}
use Rattle.gathering_rules.specs.Start.{least_held}
use Rattle.reader.specs.declared.Reader.{Reader}
use Rattle.reader.specs.declared.Gathering.{Gathering}

-- "An idle state is sound if both counts are zero. .. An open state is sound if held is at least 8 (COMPACT: 3), held is below wanted, and wanted is
-- at most 1,024"
unfoldable pub sound_counts : Gathering → Bool
sound_counts gathering =
    when gathering.is_open then
    least_held gathering.form is_at_most gathering.held and gathering.held is_below gathering.wanted
    and gathering.wanted is_at_most buffer_length
    else (gathering.held is 0 and gathering.wanted is 0)

-- the state without its memory
abbrev pub gathering_of : Reader → Gathering
gathering_of reader =
    record { form = reader.form; is_open = reader.is_open; held = reader.held; wanted = reader.wanted }

unfoldable pub sound : Reader → Bool
sound reader = sound_memory reader.form reader.memory and sound_counts (gathering_of reader)

-- "idle, or open with bytes held and bytes wanted", and in ONCE what it remembers
abbrev pub idle : Form → Memory → Reader
idle form memory = record { form = form; memory = memory; is_open = false; held = 0; wanted = 0 }

abbrev pub opened : Form → Memory → ℕ → ℕ → Reader
opened form memory held wanted = record { form = form; memory = memory; is_open = true; held = held; wanted = wanted }

-- "A fresh state is idle, sound", and remembers nothing
abbrev pub fresh : Form → Reader
fresh form = idle form no_memory
