-- A step without the memory, which the step changes by its answer alone: what the code carries from function to function.
use Rattle.std.specs.Prelude.{ℕ, true, false, List, Result}
use Rattle.answers.specs.declared.Refusal.{Refusal}
use Rattle.memory.specs.declared.Form.{Form}
use Rattle.memory.specs.declared.Memory.{Memory}
use Rattle.memory.specs.Memory.{after_answer}
use Rattle.delivered.specs.declared.Place.{Place}
use Rattle.reader.specs.declared.Reader.{Reader}
use Rattle.reader.specs.declared.Gathering.{Gathering}
use Rattle.reader.specs.declared.Progress.{Progress}
use Rattle.reader.specs.declared.GatheringStep.{GatheringStep as CodeStep}
use Rattle.reader.specs.State.{gathering_of}
use Rattle.reader.specs.Outcome.{Step, Outcome, nowhere, number_said, place_said}

-- ---- states

abbrev pub with_memory : Memory → Gathering → Reader
with_memory memory gathering =
    record {
      form = gathering.form;
      memory = memory;
      is_open = gathering.is_open;
      held = gathering.held;
      wanted = gathering.wanted;
    }

abbrev pub idling : Form → Gathering
idling form = record { form = form; is_open = false; held = 0; wanted = 0 }

abbrev pub opening : Form → ℕ → ℕ → Gathering
opening form held wanted = record { form = form; is_open = true; held = held; wanted = wanted }

-- ---- steps

-- what such a step says
pub record GatheringStep : Type 0 where
  pub gathering : Gathering
  pub place : Place
  pub answer : ℕ

-- the code's answer, with the state after it
abbrev pub telling : Result Progress Refusal → Gathering → GatheringStep
telling answer gathering = record { gathering = gathering; place = place_said answer; answer = number_said answer }

abbrev pub gathering_step_says : CodeStep → GatheringStep
gathering_step_says step = telling step.answer step.gathering

abbrev pub answering : ℕ → Gathering → GatheringStep
answering answer gathering = record { gathering = gathering; place = nowhere; answer = answer }

abbrev pub without_memory : Step → GatheringStep
without_memory step = record { gathering = gathering_of step.reader; place = step.place; answer = step.answer }

-- the step of a reader that remembered this, and that delivered this section
abbrev pub remembered : Memory → GatheringStep → List ℕ → Step
remembered memory step section =
    record {
      reader = with_memory (after_answer step.answer step.gathering.form memory section) step.gathering;
      place = step.place;
      answer = step.answer;
    }

-- ---- what a step leaves

pub record Gathered : Type 0 where
  pub step : GatheringStep
  pub buffer : List ℕ

abbrev pub gathered : GatheringStep → List ℕ → Gathered
gathered step buffer = record { step = step; buffer = buffer }

abbrev pub gathered_of : Outcome → Gathered
gathered_of left = gathered (without_memory left.step) left.buffer
