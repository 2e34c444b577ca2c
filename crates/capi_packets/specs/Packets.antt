-- What packet calls say, as C sees it.
use Rattle.std.specs.Prelude.{ℕ}
use Rattle.answers.specs.Says.{Says}
use Rattle.packet.specs.declared.Header.{Header}
use Rattle.capi_numbers.specs.Numbers.{flag, answer_of}
use Rattle.capi_packets.specs.declared.JambpepperHeader.{JambpepperHeader}
use Rattle.capi_packets.specs.declared.JambpepperPayload.{JambpepperPayload}

abbrev pub header_for_c : Says Header → JambpepperHeader
header_for_c said =
    record {
      pid = said.values.pid;
      transport_error_indicator = flag said.values.transport_error_indicator;
      payload_unit_start_indicator = flag said.values.payload_unit_start_indicator;
      transport_priority = flag said.values.transport_priority;
      transport_scrambling_control = said.values.transport_scrambling_control;
      adaptation_field_control = said.values.adaptation_field_control;
      continuity_counter = said.values.continuity_counter;
      answer = answer_of said;
    }

abbrev pub payload_for_c : Says ℕ → JambpepperPayload
payload_for_c said = record { start = said.values; answer = answer_of said }
