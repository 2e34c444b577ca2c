-- "And at any time a delivered section is exactly the first 3 plus section_length payload bytes fed from its start on, leaving out later pointer bytes and what
-- lies at or behind a later pointer's target, with CRC remainder zero in the two forms that test it." All of it is said from the packets fed, the section and the
-- form: no reader's state or buffer comes into it.
use Rattle.std.specs.Prelude.{ℕ, ◌+◌, ◌≤◌, ◌≡◌, Bool, true, false, not, List, [], ◌∷◌, ◌++◌, length, take, drop}
use Rattle.fields.specs.Choice.{when◌then◌else◌, ◌and◌, ◌is◌}
use Rattle.packet.specs.Payload.{payload_of}
use Rattle.mpegts_crc.specs.Crc.{crc_of}
use Rattle.psi.specs.Header.{section_length}
use Rattle.memory.specs.declared.Form.{Form}
use Rattle.reader.specs.Pointer.{unit_start, pointer, rest}

-- ---- of one packet: its unit start is the bit of its header, the pointer is the payload's first byte, the rest what follows it

-- a packet with a place for its payload (of the payload call the number is 0 and the value is the start), and the payload
abbrev pub has_payload : List ℕ → Bool
has_payload packet = (payload_of packet).number is 0

abbrev pub payload : List ℕ → List ℕ
payload packet = drop (payload_of packet).values packet

-- a packet in which a section may start: it has a payload, and a unit start
abbrev pub may_start : List ℕ → Bool
may_start packet = has_payload packet and unit_start packet

-- what it feeds to the section that starts in it: its payload from the pointer's target on
abbrev pub from_target : List ℕ → List ℕ
from_target packet = drop (pointer (payload packet)) (rest (payload packet))

-- what a later packet feeds: nothing without a payload; with a unit start what lies between the pointer byte and the pointer's target, "leaving out later
-- pointer bytes and what lies at or behind a later pointer's target"; else the whole payload
unfoldable pub continuing : List ℕ → List ℕ
continuing packet =
    when not (has_payload packet) then []
    else when unit_start packet then take (pointer (payload packet)) (rest (payload packet))
    else payload packet

-- ---- of packets

unfoldable pub all_continuing : List (List ℕ) → List ℕ
all_continuing [] = []
all_continuing (packet ∷ packets) = continuing packet ++ all_continuing packets

-- "payload bytes fed from its start on": by the packet in which the section starts, and by the later ones
unfoldable pub fed_from : List ℕ → List (List ℕ) → List ℕ
fed_from start later = from_target start ++ all_continuing later

unfoldable pub NoneMayStart : List (List ℕ) → Type 0
NoneMayStart [] = Unit {0}
NoneMayStart (packet ∷ packets) = (may_start packet ≡ false) × NoneMayStart packets

-- "its start": the last packet of a history in which a section may start, with the later ones. A history without such a packet has none
pub record LastStart (history : List (List ℕ)) : Type 0 where
  pub before : List (List ℕ)
  pub start : List ℕ
  pub later : List (List ℕ)
  pub lies : history ≡ before ++ start ∷ later
  pub starts : may_start start ≡ true
  pub last : NoneMayStart later

-- ---- a delivered section

-- "in the two forms that test it"
pub data TestsCrc : Form → Type 0 where
  full : TestsCrc Form.Full
  once : TestsCrc Form.Once

-- "exactly the first 3 plus section_length" of the bytes fed, whose second and third byte have the length: so many were fed, and these are the section;
-- "with CRC remainder zero"
pub record IsFirstOf (fed : List ℕ) (form : Form) (section : List ℕ) : Type 0 where
  pub enough : 3 + section_length fed ≤ length fed
  pub exactly : section ≡ take (3 + section_length fed) fed
  pub crc_zero : TestsCrc form → crc_of section ≡ 0

-- by the tail step of a packet: the section started in the history, and the packet is the last that fed it
pub record ByTail (form : Form) (history : List (List ℕ)) (packet section : List ℕ) : Type 0 where
  pub started : LastStart history
  pub is_first : IsFirstOf (fed_from started.start (started.later ++ packet ∷ [])) form section

-- by the head step: the section starts in the packet itself
pub record ByHead (form : Form) (packet section : List ℕ) : Type 0 where
  pub starts : may_start packet ≡ true
  pub is_first : IsFirstOf (fed_from packet []) form section
