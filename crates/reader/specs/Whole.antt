-- A whole section.
use Rattle.std.specs.Prelude.{ℕ, List}
use Rattle.fields.specs.Choice.{when◌then◌else◌, ◌is◌}
use Rattle.answers.specs.Numbers.{delivered}
use Rattle.memory.specs.declared.Form.{Form}
use Rattle.memory.specs.declared.Memory.{Memory}
use Rattle.memory.specs.Memory.{on_delivery}
use Rattle.gathering_rules.specs.Verdict.{verdict}
use Rattle.delivered.specs.declared.Place.{Place}
use Rattle.reader.specs.Outcome.{Step}
use Rattle.reader.specs.State.{idle}
use Rattle.reader.specs.Outcome.{answered}

-- "The reader is idle after each"; a section that is delivered has its place, and "ONCE remembers on delivery only, never on a start or on 16 or 17"
unfoldable pub whole : Form → Memory → Place → List ℕ → Step
whole form memory place section =
    when verdict form section is delivered then
    record { reader = idle form (on_delivery form memory section); place = place; answer = delivered }
    else answered (verdict form section) (idle form memory)
