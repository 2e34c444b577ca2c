-- `mpegts_crc::sum32` meets its contract: at each turn the CRC of the bytes left, from the register, is the CRC of all. Assumes nothing.
use mathlib.Core.Path.{◌≡◌}
use Rattle.mpegts_crc.specs.Crc.{crc_from, crc_of}
use Rattle.mpegts_crc.proofs.Bytes.{Left}
use Rattle.mpegts_crc.proofs.sum32.Given as goal

abbrev pub invariant-loop-eight : goal.invariant-loop-eight
invariant-loop-eight l =
    record {
      size : l.eight-iterator.size ≡ 8;
      left : Left l.data l.eight-iterator.rest.now;
      crc : crc_from l.register l.eight-iterator.rest.now ≡ crc_of l.data;
    }
