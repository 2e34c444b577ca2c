-- What adaptation field calls say, as C sees it.
use Rattle.std.specs.Prelude.{ℕ}
use Rattle.answers.specs.Says.{Says}
use Rattle.adaptation.specs.declared.AdaptationField.{AdaptationField}
use Rattle.adaptation_parts.specs.declared.ClockRef.{ClockRef}
use Rattle.adaptation_parts.specs.declared.PrivateData.{PrivateData}
use Rattle.capi_numbers.specs.Numbers.{flag, answer_of}
use Rattle.capi_adaptation_fields.specs.declared.JambpepperAdaptationField.{JambpepperAdaptationField}
use Rattle.capi_adaptation_fields.specs.declared.JambpepperClock.{JambpepperClock}
use Rattle.capi_adaptation_fields.specs.declared.JambpepperSpliceCountdown.{JambpepperSpliceCountdown}
use Rattle.capi_numbers.specs.declared.JambpepperPart.{JambpepperPart}

abbrev pub adaptation_field_for_c : Says AdaptationField → JambpepperAdaptationField
adaptation_field_for_c said =
    record {
      adaptation_field_length = said.values.adaptation_field_length;
      discontinuity_indicator = flag said.values.discontinuity_indicator;
      random_access_indicator = flag said.values.random_access_indicator;
      elementary_stream_priority_indicator = flag said.values.elementary_stream_priority_indicator;
      pcr_flag = flag said.values.pcr_flag;
      opcr_flag = flag said.values.opcr_flag;
      splicing_point_flag = flag said.values.splicing_point_flag;
      transport_private_data_flag = flag said.values.transport_private_data_flag;
      adaptation_field_extension_flag = flag said.values.adaptation_field_extension_flag;
      answer = answer_of said;
    }

abbrev pub clock_for_c : Says ClockRef → JambpepperClock
clock_for_c said = record { base = said.values.base; extension = said.values.extension; answer = answer_of said }

abbrev pub splice_countdown_for_c : Says ℕ → JambpepperSpliceCountdown
splice_countdown_for_c said = record { splice_countdown = said.values; answer = answer_of said }

abbrev pub private_data_for_c : Says PrivateData → JambpepperPart
private_data_for_c said = record { start = said.values.start; length = said.values.length; answer = answer_of said }
