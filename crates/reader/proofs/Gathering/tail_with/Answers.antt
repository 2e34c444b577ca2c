-- `reader::Gathering::tail_with` meets its contract: the checks, and then the tail from the payload. Assumes nothing.
use mathlib.Core.Path.{sym, ap, ◌∙◌}
use Rattle.memory_words.specs.Words.{memory_in}
use Rattle.reader.specs.Tail.{tail_of}
use Rattle.reader.specs.Gathering.{gathered_of}
use Rattle.reader.proofs.Soundness.{counts_sound}
use Rattle.reader.proofs.Checking.{refusal_returned, step_from, place_passed}
use Rattle.reader.proofs.Gathering.tail_with.Goals as goal

pub returns-in_default : goal.returns-in_default
unfolding tail_of
returns-in_default c =
    let a = c.args in
    refusal_returned _ a.self a.packet.now a.buffer.now _ c.is_sound.ensures _ c.checked-payload.ensures _ _ c.in_default.is _ _ c.and.ensures

pub tail_from-requires : goal.tail_from-requires
tail_from-requires c =
    let a = c.args in
    let p = place_passed _ a.self a.packet.now a.buffer.now _ c.is_sound.ensures _ c.checked-payload.ensures _ c.in-Ok.is in
    (p.sized, p.within, p.lent, counts_sound _ p.sound_state)

pub returns : goal.returns
unfolding tail_of
returns c =
    let a = c.args in
    let goes = step_from _ a.self a.packet.now a.buffer.now _ c.is_sound.ensures _ c.checked-payload.ensures _ _ c.in-Ok.is in
    c.tail_from.ensures (memory_in a.memory.now) ∙ sym (ap gathered_of goes)
