-- Text that is at least so wide.
use Rattle.std.specs.Prelude.{ℕ, ◌-◌, List, ◌++◌, length, replicate}

-- what is missing of the width is filled, before the text or behind it
abbrev pub filled_before : ℕ → ℕ → List ℕ → List ℕ
filled_before filler width text = replicate (width - length text) filler ++ text

abbrev pub filled_behind : ℕ → ℕ → List ℕ → List ℕ
filled_behind filler width text = text ++ replicate (width - length text) filler
