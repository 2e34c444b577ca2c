-- Any two answers that a contract allows are equal. Assumes nothing.
use mathlib.Core.Path.{sym, ◌∙◌}
use Rattle.fields.specs.Determines.{Determines}
use Rattle.memory.proofs.Memory.none.Reads as none
use Rattle.memory.proofs.Memory.after.Reads as after
use Rattle.memory.proofs.Memory.is_sound.Reads as is_sound

pub none_determined : Determines none.Post
none_determined κs arguments x y x_exit y_exit p q = p ∙ sym q

pub after_determined : Determines after.Post
after_determined κs arguments x y x_exit y_exit p q = p ∙ sym q

pub is_sound_determined : Determines is_sound.Post
is_sound_determined κs arguments x y x_exit y_exit p q = p ∙ sym q
