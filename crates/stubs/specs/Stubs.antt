-- The stubs of document 01, "How tight the contracts must be", and the slip of "Working both steps in one call", as steps.
use Rattle.std.specs.Prelude.{ℕ, ◌≡◌, List}
use Rattle.fields.specs.Choice.{when◌then◌else◌}
use Rattle.reader.specs.declared.Reader.{Reader}
use Rattle.reader.specs.Outcome.{Outcome, outcome, answered}
use Rattle.reader.specs.Tail.{tail_of}
use Rattle.reader.specs.Head.{head_of}

-- what a step leaves of a state, a packet and a buffer
abbrev pub StepOf : Type 0
StepOf = Reader → List ℕ → List ℕ → Outcome

-- a step that a contract of the reader's admits: it is the contract's on every input
abbrev pub Admitted : StepOf → StepOf → Type 0
Admitted stub due = (reader : Reader) (packet buffer : List ℕ) → stub reader packet buffer ≡ due reader packet buffer

-- "A reader that refuses everything", by whatever number, "and one that always answers 0"
abbrev pub always_answers : ℕ → StepOf
always_answers number reader packet buffer = outcome (answered number reader) buffer

-- "One that leaves the state alone"
abbrev pub leaves_the_state_alone : StepOf → StepOf
leaves_the_state_alone step reader packet buffer =
    let left = step reader packet buffer in
    outcome (record { reader = reader; place = left.step.place; answer = left.step.answer }) left.buffer

-- "One that works the first packet and then answers 15", as far as the state tells them apart: what a first packet opened
abbrev pub answers15_where_open : StepOf → StepOf
answers15_where_open step reader packet buffer =
    when reader.is_open then outcome (answered 15 reader) buffer else step reader packet buffer

-- "Working both steps in one call, so that the new section's bytes overwrite the one just finished"
abbrev pub both_in_one_call : StepOf
both_in_one_call reader packet buffer =
    let tail = tail_of reader packet buffer in
    outcome tail.step (head_of tail.step.reader packet tail.buffer).buffer
