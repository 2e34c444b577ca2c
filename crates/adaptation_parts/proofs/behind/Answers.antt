-- `adaptation_parts::behind` meets its contract: a set flag counts its part's bytes once, a clear one not at all. Assumes
-- nothing.
use Prim.Native.Nat.{ℕ, ◌*◌, ◌≤◌}
use mathlib.Core.Path.{◌≡◌}
use mathlib.Core.Bool.{Bool, true, false}
use native.Mathlib.Nat.{mul-one, mul-zero}
use native.Mathlib.Omega.{arith}
use mir.Val.{bool_byte}
use Rattle.fields.specs.Choice.{when◌then◌else◌}
use Rattle.adaptation_parts.proofs.behind.Goals as goal

at-most-once : (flag : Bool) → bool_byte flag ≤ 1
at-most-once true = omega arith
at-most-once false = omega arith

counted : (n : ℕ) (flag : Bool) → n * bool_byte flag ≡ (when flag then n else 0)
unfolding when◌then◌else◌
counted n true = mul-one n
counted n false = mul-zero n

pub overflow_mul-result : goal.overflow_mul-result
overflow_mul-result c = omega (arith, at-most-once c.args.pcr)

pub overflow_add-result : goal.overflow_add-result
overflow_add-result c = omega (arith, at-most-once c.args.pcr)

pub overflow_mul-result-2 : goal.overflow_mul-result-2
overflow_mul-result-2 c = omega (arith, at-most-once c.args.opcr)

pub overflow_add-result-2 : goal.overflow_add-result-2
overflow_add-result-2 c = omega (arith, at-most-once c.args.pcr, at-most-once c.args.opcr)

pub overflow_add-result-3 : goal.overflow_add-result-3
overflow_add-result-3 c =
    let a = c.args in
    omega (arith, at-most-once a.pcr, at-most-once a.opcr, at-most-once a.countdown)

pub returns : goal.returns
returns c =
    let a = c.args in (
      omega (arith, counted 6 a.pcr, counted 6 a.opcr, counted 1 a.countdown),
      omega (arith, at-most-once a.pcr, at-most-once a.opcr, at-most-once a.countdown),
    )
