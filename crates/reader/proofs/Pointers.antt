-- What the code found of the pointer, said of the payload. Assumes nothing.
use Prim.Native.Nat.{ℕ, ◌+◌, ◌<◌, ◌≤◌}
use mathlib.Core.Path.{◌≡◌, refl, sym, ◌∙◌}
use mathlib.Core.Bool.{Bool, true, false}
use mathlib.Core.List.{List}
use native.Mathlib.Omega.{arith}
use lib.ListN.{length, drop, length-drop}
use borrow.Author.Tests.{eqb-true, eqb-false, ltb-true, leb-false, lt-ltb, not-true, not-false}
use Rattle.fields.specs.Choice.{when◌then◌else◌, ◌is◌, ◌is_above◌}
use Rattle.fields.proofs.Choices.{and_holds, test_holds, first_chosen, second_chosen, either_way}
use Rattle.packet.specs.Header.{size}
use Rattle.reader.specs.Pointer.{unit_start, pointer, rest, points_beyond, pointer_of}
use Rattle.reader.specs.declared.Pointer.{Pointer}

module _ (packet : List ℕ) (start : ℕ) where
  pub no_unit_start : pointer_of packet start ≡ Pointer.NoUnitStart → unit_start packet ≡ false
  unfolding pointer_of
  no_unit_start e =
      either_way _ _ _ _ e
      (λ none f. not-true _ none)
      (λ unit f. absurd (either_way _ _ _ _ f
      (λ beyond g. let z : ◌≡◌ {A = ℕ} 0 1 = cc in omega arith)
      (λ within g. let z : ◌≡◌ {A = ℕ} 0 1 = cc in omega arith)))

  pub record PointsTo (to : ℕ) : Type 0 where
    pub started : unit_start packet ≡ true
    pub within : points_beyond (drop start packet) ≡ false
    pub target : pointer (drop start packet) ≡ to

  pub points_to : (to : ℕ) → pointer_of packet start ≡ Pointer.To to → PointsTo to
  unfolding pointer_of
  points_to to e =
      let unit = second_chosen _ _ _ _ e (λ f. let z : ◌≡◌ {A = ℕ} 0 1 = cc in omega arith) in
      let within = second_chosen _ _ _ _ unit.1 (λ f. let z : ◌≡◌ {A = ℕ} 0 1 = cc in omega arith) in
      record { started = not-false _ unit.0; within = within.0; target = let e : pointer (drop start packet) ≡ to = cc in e }

  pub points_beyond_lem : pointer_of packet start ≡ Pointer.BeyondRest → (unit_start packet ≡ true)
      × (points_beyond (drop start packet) ≡ true)
  unfolding pointer_of
  points_beyond_lem e =
      let unit = second_chosen _ _ _ _ e (λ f. let z : ◌≡◌ {A = ℕ} 0 1 = cc in omega arith) in
      let beyond = first_chosen _ _ _ _ unit.1 (λ f. let z : ◌≡◌ {A = ℕ} 0 1 = cc in omega arith) in
      (not-false _ unit.0, beyond.0)

-- a pointer that is not beyond the rest, and not 0, points into it
pub points_within : (payload : List ℕ) → points_beyond payload ≡ false → 0 < pointer payload
    → pointer payload < length (rest payload)
unfolding when◌then◌else◌
points_within payload within above = leb-false _ _ (sym (test_holds (pointer payload is_above 0) _ _ (lt-ltb _ _ above))
    ∙ within)

pub beyond_is_not_0 : (payload : List ℕ) → points_beyond payload ≡ true → pointer payload ≡ 0 → ⊥
beyond_is_not_0 payload beyond e = let above = ltb-true 0 (pointer payload) (and_holds _ _ beyond).0 in omega arith

-- then the bytes up to its target lie in the packet
pub end_within : (packet : List ℕ) (start to : ℕ) → PointsTo packet start to → length packet ≡ size → (to ≡ 0 → ⊥)
    → start + 1 + to < size
end_within packet start to points sized above =
    let into = points_within (drop start packet) points.within (rw points.target (omega arith)) in
    omega (arith, simp (length-drop, points.target) at into)

-- and its target lies in it, or just behind
pub target_within : (packet : List ℕ) (start to : ℕ) → PointsTo packet start to → length packet ≡ size → start < size
    → start + 1 + to ≤ size
target_within packet start to points sized inside = by_cases (to is 0) refl
  where
    by_cases : (t : Bool) → (to is 0) ≡ t → start + 1 + to ≤ size
    by_cases true e = let none = eqb-true to 0 e in omega arith
    by_cases false e = let end = end_within packet start to points sized (eqb-false to 0 e) in omega arith
