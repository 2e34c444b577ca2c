-- Parts of a list, as a part of a slice writes them. Assumes nothing.
use Prim.Native.Nat.{ℕ, ◌+◌, ◌-◌}
use mathlib.Core.Path.{◌≡◌, ap}
use mathlib.Core.List.{List}
use native.Mathlib.Omega.{arith}
use lib.ListN.{length, take, drop, length-drop}
use lib.Seq.{take_all}

-- from a place to the end
pub part_to_end : (list : List ℕ) (from : ℕ) → take (length list - from) (drop from list) ≡ drop from list
part_to_end list from = take_all (length list - from) (drop from list) (simp length-drop (omega arith))

-- so many from a place on
pub part_of_lem : (list : List ℕ) (from count : ℕ) → take (from + count - from) (drop from list) ≡ take count (drop from list)
part_of_lem list from count = ap (λ (n : ℕ). take n (drop from list)) (let e : from + count - from ≡ count = omega arith in e)
