-- The head step by what the pointer says. Assumes nothing.
use Prim.Native.Nat.{ℕ, ◌+◌}
use mathlib.Core.Path.{◌≡◌, ap, ◌∙◌}
use mathlib.Core.Bool.{true, false, not}
use mathlib.Core.List.{List}
use lib.ListN.{drop}
use Rattle.fields.proofs.Choices.{test_holds, test_fails}
use Rattle.answers.specs.Numbers.{nothing_for_this_step, pointer_beyond_rest}
use Rattle.reader.specs.Outcome.{outcome, answered, forgotten}
use Rattle.reader.specs.Pointer.{unit_start, points_beyond}
use Rattle.reader.specs.Head.{started, head_from}
use Rattle.reader.specs.declared.Reader.{Reader}
use Rattle.reader.proofs.Pointers.{PointsTo}

module _ (reader : Reader) (packet : List ℕ) (start : ℕ) (buffer : List ℕ) where
  pub head_without_unit_start : unit_start packet ≡ false → head_from reader packet start buffer
      ≡ outcome (answered nothing_for_this_step reader) buffer
  unfolding head_from
  head_without_unit_start none = test_holds _ _ _ (ap not none)

  pub head_at : (to : ℕ) → PointsTo packet start to
      → head_from reader packet start buffer
      ≡ started reader.form reader.memory (drop (start + 1 + to) packet) (start + 1 + to) buffer
  unfolding head_from
  head_at to points =
      test_fails _ _ _ (ap not points.started) ∙ test_fails _ _ _ points.within
      ∙ ap (λ (n : ℕ). started reader.form reader.memory (drop (start + 1 + n) packet) (start + 1 + n) buffer)
      points.target

  pub head_beyond : unit_start packet ≡ true → points_beyond (drop start packet) ≡ true
      → head_from reader packet start buffer ≡ outcome (forgotten pointer_beyond_rest reader) buffer
  unfolding head_from
  head_beyond unit beyond = test_fails _ _ _ (ap not unit) ∙ test_holds _ _ _ beyond
