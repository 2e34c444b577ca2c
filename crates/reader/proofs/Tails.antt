-- The tail step by what the pointer says. Assumes nothing.
use Prim.Native.Nat.{ℕ, ◌+◌}
use mathlib.Core.Path.{◌≡◌, sym, ap, ◌∙◌}
use mathlib.Core.Bool.{true, false, not}
use mathlib.Core.List.{List}
use lib.ListN.{take, drop}
use lib.Seq.{drop-drop}
use borrow.Author.Tests.{eq-eqb, ne_eqb}
use Rattle.fields.proofs.Choices.{test_holds, test_fails}
use Rattle.answers.specs.Numbers.{nothing_for_this_step, pointer_beyond_rest}
use Rattle.reader.specs.Outcome.{outcome, answered, forgotten}
use Rattle.reader.specs.Pointer.{unit_start, points_beyond}
use Rattle.reader.specs.Tail.{continued, tail_from}
use Rattle.reader.specs.declared.Reader.{Reader}
use Rattle.reader.proofs.Pointers.{PointsTo, beyond_is_not_0}

module _ (reader : Reader) (packet : List ℕ) (start : ℕ) (buffer : List ℕ) where
  pub tail_without_unit_start : unit_start packet ≡ false
      → tail_from reader packet (drop start packet) buffer ≡ continued reader (drop start packet) buffer
  unfolding tail_from
  tail_without_unit_start none = test_holds _ _ _ (ap not none)

  pub tail_at_0 : PointsTo packet start 0 → tail_from reader packet (drop start packet) buffer
      ≡ outcome (answered nothing_for_this_step reader) buffer
  unfolding tail_from
  tail_at_0 points = test_fails _ _ _ (ap not points.started) ∙ test_holds _ _ _ (eq-eqb _ _ points.target)

  pub tail_up_to : (to : ℕ) → PointsTo packet start to → (to ≡ 0 → ⊥)
      → tail_from reader packet (drop start packet) buffer ≡ continued reader (take to (drop (start + 1) packet)) buffer
  unfolding tail_from
  tail_up_to to points above =
      test_fails _ _ _ (ap not points.started)
      ∙ test_fails _ _ _ (ne_eqb _ _ (λ e. above (sym points.target ∙ e)))
      ∙ test_fails _ _ _ points.within
      ∙ rw points.target (ap (λ (bytes : List ℕ). continued reader (take to bytes) buffer) (drop-drop 1 start packet))

  pub tail_beyond : unit_start packet ≡ true → points_beyond (drop start packet) ≡ true
      → tail_from reader packet (drop start packet) buffer ≡ outcome (forgotten pointer_beyond_rest reader) buffer
  unfolding tail_from
  tail_beyond unit beyond =
      test_fails _ _ _ (ap not unit)
      ∙ test_fails _ _ _ (ne_eqb _ _ (beyond_is_not_0 (drop start packet) beyond))
      ∙ test_holds _ _ _ beyond
