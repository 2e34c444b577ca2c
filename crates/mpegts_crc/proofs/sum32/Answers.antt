-- `mpegts_crc::sum32` meets its contract: at each turn the CRC of the bytes left, from the register, is the CRC of all. Assumes nothing.
use mathlib.Core.Path.{ap, ap₂, ◌∙◌}
use native.Mathlib.Omega.{arith}
use Rattle.crc_steps.specs.BitSteps.{bits_enter}
use Rattle.mpegts_crc.specs.Crc.{crc_from}
use Rattle.mpegts_crc.proofs.Bytes.{eight_less, eight_turn}
use Rattle.mpegts_crc.proofs.sum32.Goals as goal

pub loop-eight-preserved : goal.loop-eight-preserved
loop-eight-preserved c =
    let bytes = c.args.data.now in
    let eight = c.in-Some.eight.now in
    let before = c.loop-eight.invariant in
    let step = c.in-Some.ensures.steps in
    let l = step.1.1 ∙ before.size in
    let left = rw step.1.0 at before.left in
    record {
      size = step.0 ∙ before.size;
      left = eight_less bytes eight _ left l;
      crc =
          ap (λ r. crc_from r c.next.new.self.rest.now)
          (c.eight_bytes_enter-register.ensures
          ∙ ap₂ (λ first second. bits_enter 32 (bits_enter 32 c.loop-eight.register first) second) c.word.ensures c.word-in-loop-eight.ensures)
          ∙ eight_turn bytes eight _ left l c.loop-eight.register (λ i. omega (arith, c.type_inv.data i)) (rw step.1.0 at before.crc);
    }
