-- The reader's state and its steps, as C sees them: numbers in the place of forms, holders and flags.
use Rattle.std.specs.Prelude.{ℕ, ◌^◌, Bool, false, List, length}
use Rattle.fields.specs.Choice.{when◌then◌else◌, ◌and◌, ◌is◌, ◌is_not◌, ◌is_below◌, ◌is_at_most◌}
use Rattle.memory.specs.declared.Form.{Form}
use Rattle.memory_words.specs.Words.{memory_words, word, memory_in, written}
use Rattle.gathering_rules.specs.Checks.{checked}
use Rattle.delivered.specs.declared.Holder.{Holder}
use Rattle.delivered.specs.declared.Place.{Place}
use Rattle.reader.specs.declared.Reader.{Reader}
use Rattle.reader.specs.Outcome.{Step}
use Rattle.reader.specs.declared.Gathering.{Gathering}
use Rattle.reader.specs.Gathering.{GatheringStep}
use Rattle.reader.specs.State.{gathering_of, sound}
use Rattle.reader.specs.Gathering.{with_memory, without_memory}
use Rattle.reader.specs.Outcome.{Outcome, nowhere}
use Rattle.capi_numbers.specs.Numbers.{flag}
use Rattle.capi_numbers.specs.declared.JambpepperPlace.{JambpepperPlace}
use Rattle.capi_gathering.specs.declared.JambpepperReader.{JambpepperReader}
use Rattle.capi_gathering.specs.declared.JambpepperStep.{JambpepperStep}

-- ---- forms and holders

abbrev pub form_number : Form → ℕ
form_number Form.Compact = 0
form_number Form.Full = 1
form_number Form.Once = 2

abbrev pub names_form : ℕ → Bool
names_form number = number is_at_most 2

-- the form of a number that names one
unfoldable pub form_of : ℕ → Form
form_of number =
    when number is 0 then Form.Compact
    else when number is 1 then Form.Full
    else Form.Once

abbrev pub holder_number : Holder → ℕ
holder_number Holder.Nowhere = 0
holder_number Holder.Packet = 1
holder_number Holder.Buffer = 2

-- ---- the state

-- without its memory
abbrev pub gathering_for_c : Gathering → JambpepperReader
gathering_for_c gathering =
    record {
      form = form_number gathering.form;
      is_open = flag gathering.is_open;
      held = gathering.held;
      wanted = gathering.wanted;
      reserved = 0;
    }

abbrev pub reader_for_c : Reader → JambpepperReader
reader_for_c reader = gathering_for_c (gathering_of reader)

abbrev pub names_flag : ℕ → Bool
names_flag number = number is_at_most 1

-- the memory that is lent beside it, five words for ONCE and none for the other forms: whether the words are a memory's, the first no
-- larger than its four numbers
unfoldable pub names_memory : ℕ → List ℕ → Bool
names_memory form words =
    when form is_not form_number Form.Once then length words is 0
    else (length words is memory_words and word words 0 is_below 2 ^ 33)

-- whether the form, the flag and the words are ones that a state has, and what is reserved is 0
unfoldable pub names_reader : JambpepperReader → List ℕ → Bool
names_reader state words =
    names_form state.form and names_flag state.is_open and state.reserved is 0 and names_memory state.form words

-- the reader that such a state names
abbrev pub gathering_from_c : JambpepperReader → Gathering
gathering_from_c state =
    record { form = form_of state.form; is_open = state.is_open is 1; held = state.held; wanted = state.wanted }

abbrev pub reader_from_c : JambpepperReader → List ℕ → Reader
reader_from_c state words = with_memory (memory_in words) (gathering_from_c state)

-- a state that names no reader is not sound
unfoldable pub sound_for_c : JambpepperReader → List ℕ → Bool
sound_for_c state words = names_reader state words and sound (reader_from_c state words)

-- a fresh state; a number that names no form stays in it, and so it is not sound
abbrev pub fresh_for_c : ℕ → JambpepperReader
fresh_for_c form = record { form = form; is_open = 0; held = 0; wanted = 0; reserved = 0 }

-- ---- the steps

abbrev pub place_for_c : Place → JambpepperPlace
place_for_c place = record { start = place.start; length = place.len; holder = holder_number place.holder }

-- what a step leaves
pub record OutcomeForC : Type 0 where
  pub step : JambpepperStep
  pub memory : List ℕ
  pub buffer : List ℕ

abbrev pub outcome_for_c : JambpepperStep → List ℕ → List ℕ → OutcomeForC
outcome_for_c step memory buffer = record { step = step; memory = memory; buffer = buffer }

abbrev pub answered_for_c : ℕ → Place → JambpepperReader → JambpepperStep
answered_for_c answer place state = record { reader = state; place = place_for_c place; answer = answer }

abbrev pub gathering_step_for_c : GatheringStep → JambpepperStep
gathering_step_for_c step = answered_for_c step.answer step.place (gathering_for_c step.gathering)

abbrev pub step_for_c : Step → JambpepperStep
step_for_c step = gathering_step_for_c (without_memory step)

-- what C is told of what a step leaves, where these words were lent
abbrev pub told_to_c : List ℕ → Outcome → OutcomeForC
told_to_c words left =
    outcome_for_c (step_for_c left.step) (written left.step.reader.memory words) left.buffer

-- a state that names no reader is not sound: "Checks before either step, in order: 3, 4, 5, 25", and the state is the same
abbrev pub refused_for_c : JambpepperReader → List ℕ → ℕ → JambpepperStep
refused_for_c state packet buffer = answered_for_c (checked false packet buffer).number nowhere state

-- a step, tail or head, on the reader that the state names; where it names none, memory and buffer are the same too
unfoldable pub worked_for_c : (Reader → List ℕ → List ℕ → Outcome) → JambpepperReader → List ℕ → List ℕ → List ℕ → OutcomeForC
worked_for_c step_of state words packet buffer =
    when names_reader state words then told_to_c words (step_of (reader_from_c state words) packet buffer)
    else outcome_for_c (refused_for_c state packet (length buffer)) words buffer
