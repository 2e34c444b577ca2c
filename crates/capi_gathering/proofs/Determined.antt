-- Any two answers that a contract allows are equal, and so is what memory and buffer hold after them. Assumes nothing.
use mathlib.Core.Path.{sym, ap, ◌∙◌}
use mathlib.Core.List.{[], ◌∷◌}
use Rattle.fields.specs.Determines.{Determines, DeterminesBoth}
use Rattle.capi_gathering.specs.Gathering.{OutcomeForC}
use Rattle.capi_gathering.proofs.jambpepper_fresh.Reads as fresh
use Rattle.capi_gathering.proofs.jambpepper_is_sound.Reads as is_sound
use Rattle.capi_gathering.proofs.jambpepper_tail.Reads as tail
use Rattle.capi_gathering.proofs.jambpepper_head.Reads as head
use Rattle.capi_gathering.proofs.jambpepper_sum32.Reads as sum32

pub jambpepper_fresh_determined : Determines fresh.Post
jambpepper_fresh_determined κs arguments x y x_exit y_exit p q = p ∙ sym q

pub jambpepper_is_sound_determined : Determines is_sound.Post
jambpepper_is_sound_determined κs arguments x y x_exit y_exit p q = p ∙ sym q

pub jambpepper_tail_determined : DeterminesBoth tail.Post (λ κs exit. exit.1.0.now ∷ exit.1.1.1.0.now ∷ [])
jambpepper_tail_determined κs arguments x y x_exit y_exit p q =
    (ap (λ (left : OutcomeForC). left.step) (p ∙ sym q), ap (λ (left : OutcomeForC). left.memory ∷ left.buffer ∷ []) (p ∙ sym q))

pub jambpepper_head_determined : DeterminesBoth head.Post (λ κs exit. exit.1.0.now ∷ exit.1.1.1.0.now ∷ [])
jambpepper_head_determined κs arguments x y x_exit y_exit p q =
    (ap (λ (left : OutcomeForC). left.step) (p ∙ sym q), ap (λ (left : OutcomeForC). left.memory ∷ left.buffer ∷ []) (p ∙ sym q))

pub jambpepper_sum32_determined : Determines sum32.Post
jambpepper_sum32_determined κs arguments x y x_exit y_exit p q = p ∙ sym q
