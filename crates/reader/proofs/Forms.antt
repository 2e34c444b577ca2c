-- "The form never changes." Assumes nothing.
use Prim.Native.Nat.{ℕ}
use mathlib.Core.Path.{◌≡◌, refl}
use mathlib.Core.List.{List}
use lib.ListN.{drop}
use Rattle.fields.proofs.Choices.{of_both}
use Rattle.memory.specs.declared.Form.{Form}
use Rattle.memory.specs.declared.Memory.{Memory}
use Rattle.delivered.specs.declared.Place.{Place}
use Rattle.reader.specs.declared.Reader.{Reader}
use Rattle.reader.specs.Outcome.{Step}
use Rattle.reader.specs.Outcome.{Outcome}
use Rattle.reader.specs.Checks.{from_a_place, from_the_payload}
use Rattle.reader.specs.Whole.{whole}
use Rattle.reader.specs.Tail.{continued, tail_from, tail_of}
use Rattle.reader.specs.Head.{begun, started, head_from, head_of}

module _ (form : Form) where
  whole_form : (memory : Memory) (place : Place) (section : List ℕ) → (whole form memory place section).reader.form ≡ form
  unfolding whole
  whole_form memory place section = of_both (λ (s : Step). s.reader.form ≡ form) _ _ _ refl refl

  begun_form : (memory : Memory) (bytes : List ℕ) (at : ℕ) (buffer : List ℕ)
      → (begun form memory bytes at buffer).step.reader.form ≡ form
  unfolding begun
  begun_form memory bytes at buffer = of_both (λ (o : Outcome). o.step.reader.form ≡ form) _ _ _ (whole_form memory _ _) refl

  started_form : (memory : Memory) (bytes : List ℕ) (at : ℕ) (buffer : List ℕ)
      → (started form memory bytes at buffer).step.reader.form ≡ form
  unfolding started
  started_form memory bytes at buffer =
      of_both (λ (o : Outcome). o.step.reader.form ≡ form) _ _ _
      (begun_form _ bytes at buffer) refl

module _ (reader : Reader) where
  abbrev SameForm : Outcome → Type 0
  SameForm left = left.step.reader.form ≡ reader.form

  continued_form : (bytes buffer : List ℕ) → SameForm (continued reader bytes buffer)
  unfolding continued
  continued_form bytes buffer =
      of_both SameForm _ _ _ refl (of_both SameForm _ _ _ refl (whole_form reader.form reader.memory _ _))

  from_the_payload_form : (packet buffer : List ℕ) (go_on : ℕ → Outcome) → ((start : ℕ) → SameForm (go_on start))
      → SameForm (from_the_payload reader packet buffer go_on)
  unfolding from_the_payload from_a_place
  from_the_payload_form packet buffer go_on each = of_both SameForm _ _ _ (each _) refl

  tail_from_form : (packet payload buffer : List ℕ) → SameForm (tail_from reader packet payload buffer)
  unfolding tail_from
  tail_from_form packet payload buffer =
      of_both SameForm _ _ _ (continued_form payload buffer)
      (of_both SameForm _ _ _ refl (of_both SameForm _ _ _ refl (continued_form _ buffer)))

  pub tail_form : (packet buffer : List ℕ) → SameForm (tail_of reader packet buffer)
  unfolding tail_of
  tail_form packet buffer = from_the_payload_form packet buffer _ (λ start. tail_from_form packet (drop start packet) buffer)

  head_from_form : (packet : List ℕ) (start : ℕ) (buffer : List ℕ) → SameForm (head_from reader packet start buffer)
  unfolding head_from
  head_from_form packet start buffer =
      of_both SameForm _ _ _ refl (of_both SameForm _ _ _ refl (started_form reader.form reader.memory _ _ buffer))

  pub head_form : (packet buffer : List ℕ) → SameForm (head_of reader packet buffer)
  unfolding head_of
  head_form packet buffer = from_the_payload_form packet buffer _ (λ start. head_from_form packet start buffer)
