-- What a step leaves: its answer, with the state after it and the place of a delivered section, and the bytes of the lent buffer.
use Rattle.std.specs.Prelude.{ℕ, List, Result, Ok, Err}
use Rattle.answers.specs.Numbers.{nothing_for_this_step, bytes_kept, delivered}
use Rattle.answers.specs.Refusals.{number_of}
use Rattle.answers.specs.declared.Refusal.{Refusal}
use Rattle.memory.specs.Memory.{no_memory}
use Rattle.delivered.specs.declared.Holder.{Holder}
use Rattle.delivered.specs.declared.Place.{Place}
use Rattle.reader.specs.declared.Reader.{Reader}
use Rattle.reader.specs.declared.Progress.{Progress}
use Rattle.reader.specs.declared.Step.{Step as CodeStep}
use Rattle.reader.specs.State.{idle}

-- what a step says: the state after it, the place of a delivered section, and the number of its answer
pub record Step : Type 0 where
  pub reader : Reader
  pub place : Place
  pub answer : ℕ

pub record Outcome : Type 0 where
  pub step : Step
  pub buffer : List ℕ

abbrev pub outcome : Step → List ℕ → Outcome
outcome step buffer = record { step = step; buffer = buffer }

-- "The place of a delivered section names its holder, start and length: in the buffer from 0, in the packet from the pointer's target"
abbrev pub in_buffer : ℕ → Place
in_buffer len = record { holder = Holder.Buffer; start = 0; len = len }

abbrev pub in_packet : ℕ → ℕ → Place
in_packet start len = record { holder = Holder.Packet; start = start; len = len }

abbrev pub nowhere : Place
nowhere = record { holder = Holder.Nowhere; start = 0; len = 0 }

-- the number of the code's answer, and the place that it tells
abbrev pub number_said : Result Progress Refusal → ℕ
number_said (Ok Progress.NothingForThisStep) = nothing_for_this_step
number_said (Ok Progress.BytesKept) = bytes_kept
number_said (Ok (Progress.Delivered place)) = delivered
number_said (Err refusal) = number_of refusal

abbrev pub place_said : Result Progress Refusal → Place
place_said (Ok Progress.NothingForThisStep) = nowhere
place_said (Ok Progress.BytesKept) = nowhere
place_said (Ok (Progress.Delivered place)) = place
place_said (Err refusal) = nowhere

abbrev pub step_says : CodeStep → Step
step_says step = record { reader = step.reader; place = place_said step.answer; answer = number_said step.answer }

-- an answer that delivers nothing, with the state after it
abbrev pub answered : ℕ → Reader → Step
answered answer reader = record { reader = reader; place = nowhere; answer = answer }

-- idle, and "all of it" forgotten
abbrev pub forgotten : ℕ → Reader → Step
forgotten answer reader = answered answer (idle reader.form no_memory)
