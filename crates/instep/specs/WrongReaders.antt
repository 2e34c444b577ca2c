-- Two readers that the sentence on delivered sections (`Fed`) excludes, each by what one of its steps delivers.
use Rattle.std.specs.Prelude.{ℕ, List, [], ◌∷◌, ◌++◌, replicate}
use Rattle.memory.specs.declared.Form.{Form}
use Rattle.instep.specs.Fed.{ByTail, ByHead}

-- a packet that has three bytes behind its pointer byte, the header 00 30 FF of a section of 258 bytes; a COMPACT reader's head step delivers these three
abbrev pub of_three_bytes : List ℕ
of_three_bytes =
    (0x47 ∷ 0x40 ∷ 0x00 ∷ 0x30 ∷ 179 ∷ 0x00 ∷ []) ++ replicate 178 0xff ++ (0x00 ∷ 0x00 ∷ 0x30 ∷ 0xff ∷ [])

abbrev pub ShortDelivery : Type 0
ShortDelivery = ByHead Form.Compact of_three_bytes (0x00 ∷ 0x30 ∷ 0xff ∷ [])

-- a packet without a unit start, the first that is fed; the tail step delivers the first four bytes of its payload, which read as a section
abbrev pub without_unit_start : List ℕ
without_unit_start = (0x47 ∷ 0x00 ∷ 0x00 ∷ 0x10 ∷ 0x00 ∷ 0x30 ∷ 0x01 ∷ []) ++ replicate 181 0x00

abbrev pub DeliveryWithoutStart : Type 0
DeliveryWithoutStart = ByTail Form.Compact [] without_unit_start (0x00 ∷ 0x30 ∷ 0x01 ∷ 0x00 ∷ [])
