-- The packets that the cases speak of.
use Rattle.std.specs.Prelude.{ℕ, ◌-◌, List, [], ◌∷◌, ◌++◌, length, replicate}
use Rattle.packet.specs.Header.{size}

-- a packet that begins with these bytes, filled up
abbrev pub packet_from : List ℕ → List ℕ
packet_from bytes = bytes ++ replicate (size - length bytes) 0xff

-- a packet of control 11 with this adaptation field length
abbrev pub with_length : ℕ → List ℕ
with_length n = packet_from (0x47 ∷ 0x00 ∷ 0x00 ∷ 0x30 ∷ n ∷ [])

-- a packet with unit start, whose payload is a pointer 0 and a section that starts with these bytes
abbrev pub starting : List ℕ → List ℕ
starting bytes = packet_from ((0x47 ∷ 0x40 ∷ 0x00 ∷ 0x10 ∷ 0x00 ∷ []) ++ bytes)

-- a packet with unit start and one payload byte
abbrev pub one_payload_byte : ℕ → List ℕ
one_payload_byte byte = (0x47 ∷ 0x40 ∷ 0x00 ∷ 0x30 ∷ 182 ∷ replicate 182 0xff) ++ byte ∷ []
