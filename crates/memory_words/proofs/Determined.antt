-- Any two answers that a contract allows are equal, and so are the words after them. Assumes nothing.
use mathlib.Core.Path.{refl, sym, ◌∙◌}
use Rattle.fields.specs.Determines.{Determines, DeterminesBoth}
use Rattle.memory_words.proofs.memory_of.Reads as memory_of
use Rattle.memory_words.proofs.words_of.Reads as words_of
use Rattle.memory_words.proofs.are_sound.Reads as are_sound
use Rattle.memory_words.proofs.repeats.Reads as repeats
use Rattle.memory_words.proofs.remembers.Reads as remembers
use Rattle.memory_words.proofs.remember.Reads as remember

pub memory_of_determined : Determines memory_of.Post
memory_of_determined κs arguments x y x_exit y_exit p q = p ∙ sym q

pub words_of_determined : Determines words_of.Post
words_of_determined κs arguments x y x_exit y_exit p q = p ∙ sym q

pub are_sound_determined : Determines are_sound.Post
are_sound_determined κs arguments x y x_exit y_exit p q = p ∙ sym q

pub repeats_determined : Determines repeats.Post
repeats_determined κs arguments x y x_exit y_exit p q = p ∙ sym q

pub remembers_determined : Determines remembers.Post
remembers_determined κs arguments x y x_exit y_exit p q = p ∙ sym q

pub remember_determined : DeterminesBoth remember.Post (λ κs exit. exit.0.now)
remember_determined κs arguments x y x_exit y_exit p q = (refl, p ∙ sym q)
