-- What every step tests first.
use Rattle.std.specs.Prelude.{ℕ, ◌≡◌, Bool, not, List}
use Rattle.fields.specs.Choice.{when◌then◌else◌, ◌is_not◌}
use Rattle.answers.specs.Numbers.{buffer_size, state_not_sound}
use Rattle.answers.specs.Says.{Says, refused}
use Rattle.packet.specs.Header.{of_a_packet}
use Rattle.packet.specs.Payload.{payload_behind}

-- "The lent buffer has 1,024 bytes"
abbrev pub buffer_length : ℕ
buffer_length = 1024

-- "Checks before either step, in order: 3, 4, 5, 25, then 6, 7, 8": where the payload starts, or the refusal
unfoldable pub checked : Bool → List ℕ → ℕ → Says ℕ
checked is_sound packet buffer =
    of_a_packet packet 0
    (when buffer is_not buffer_length then refused buffer_size 0
    else when not is_sound then refused state_not_sound 0
    else payload_behind packet)

-- an answer that speaks of packets and not of what the host handed back: neither 5 nor 25
pub record NotTheHosts (answer : ℕ) : Type 0 where
  pub not5 : answer ≡ buffer_size → ⊥
  pub not25 : answer ≡ state_not_sound → ⊥
