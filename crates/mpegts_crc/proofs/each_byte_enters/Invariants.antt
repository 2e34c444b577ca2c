-- `mpegts_crc::each_byte_enters` meets its contract: what the bytes left make of the register is what all of them make of the first one. Assumes nothing.
use mathlib.Core.Path.{◌≡◌}
use lib.ListN.{drop}
use Rattle.mpegts_crc.specs.Crc.{crc_from}
use Rattle.mpegts_crc.proofs.each_byte_enters.Given as goal

abbrev pub invariant-loop-byte : goal.invariant-loop-byte
invariant-loop-byte l = crc_from l.register (drop l.byte-index l.bytes) ≡ crc_from l.fn.register l.bytes
