-- What a history leaves of a fresh reader; COMPACT and FULL remember nothing. Assumes nothing.
use Prim.Native.Nat.{ℕ}
use mathlib.Core.Path.{◌≡◌, refl, ◌∙◌}
use mathlib.Core.Bool.{true}
use mathlib.Core.List.{List, [], ◌∷◌}
use lib.ListN.{length}
use Rattle.memory.specs.declared.Form.{Form}
use Rattle.memory.specs.Memory.{no_memory, sound_memory}
use Rattle.memory.proofs.Remembering.{nothing_where_none_may}
use Rattle.gathering_rules.specs.Checks.{buffer_length}
use Rattle.reader.specs.declared.Reader.{Reader}
use Rattle.reader.specs.State.{sound, fresh}
use Rattle.reader.specs.Run.{Left, after, worked}
use Rattle.reader.proofs.Forms.{tail_form, head_form}
use Rattle.reader.proofs.Soundness.{memory_sound}
use Rattle.reader.proofs.Keeping.{fresh_sound, tail_keeps, head_keeps}

-- what a fresh reader of this form is left with: its form, a sound state, and 1,024 bytes
pub record Kept (form : Form) (left : Left) : Type 0 where
  pub formed : left.reader.form ≡ form
  pub sound_state : sound left.reader ≡ true
  pub lent : length left.buffer ≡ buffer_length

after_kept : (form : Form) (reader : Reader) (buffer : List ℕ) (history : List (List ℕ)) → reader.form ≡ form → sound reader
    ≡ true
    → length buffer ≡ buffer_length → Kept form (after reader buffer history)
unfolding after worked
after_kept form reader buffer [] f s l = record { formed = f; sound_state = s; lent = l }
after_kept form reader buffer (packet ∷ history) f s l =
    let t = tail_keeps reader packet buffer s l in
    let h = head_keeps _ packet _ t.sound_state t.lent in
    let head = (worked reader buffer packet).head in
    after_kept form head.step.reader head.buffer history (head_form _ packet _ ∙ tail_form reader packet buffer ∙ f) h.sound_state h.lent

pub history_kept : (form : Form) (buffer : List ℕ) (history : List (List ℕ)) → length buffer ≡ buffer_length
    → Kept form (after (fresh form) buffer history)
history_kept form buffer history l = after_kept form (fresh form) buffer history refl (fresh_sound form) l

-- ---- COMPACT and FULL never remember

pub data Forgetful : Form → Type 0 where
  compact : Forgetful Form.Compact
  full : Forgetful Form.Full

pub remembers_nothing : (reader : Reader) → Forgetful reader.form → sound reader ≡ true → reader.memory ≡ no_memory
remembers_nothing reader f s = by_form reader.form f (memory_sound reader s)
  where
    by_form : (form : Form) → Forgetful form → sound_memory form reader.memory ≡ true → reader.memory ≡ no_memory
    by_form form compact h = nothing_where_none_may form (λ version. refl) reader.memory h
    by_form form full h = nothing_where_none_may form (λ version. refl) reader.memory h
