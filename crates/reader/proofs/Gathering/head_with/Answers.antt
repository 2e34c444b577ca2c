-- `reader::Gathering::head_with` meets its contract: the checks, and then the head from the payload. Assumes nothing.
use mathlib.Core.Path.{sym, ap, ◌∙◌}
use Rattle.reader.specs.Head.{head_of}
use Rattle.reader.specs.Gathering.{gathered_of}
use Rattle.reader.proofs.Checking.{refusal_returned, step_from, place_passed}
use Rattle.reader.proofs.Gathering.head_with.Goals as goal

pub returns-in_default : goal.returns-in_default
unfolding head_of
returns-in_default c =
    let a = c.args in
    refusal_returned _ a.self a.packet.now a.buffer.now _ c.is_sound.ensures _ c.checked-payload.ensures _ _ c.in_default.is _ _ c.and.ensures

pub head_from-requires : goal.head_from-requires
head_from-requires c =
    let a = c.args in
    let p = place_passed _ a.self a.packet.now a.buffer.now _ c.is_sound.ensures _ c.checked-payload.ensures _ c.in-Ok.is in
    (p.sized, p.within, p.lent)

pub returns : goal.returns
unfolding head_of
returns c =
    let a = c.args in
    let goes = step_from _ a.self a.packet.now a.buffer.now _ c.is_sound.ensures _ c.checked-payload.ensures _ _ c.in-Ok.is in
    c.head_from.ensures ∙ sym (ap gathered_of goes)
