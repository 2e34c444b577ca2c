-- `fields::gathered` meets its contract: before each turn `word` is the number in the bytes passed. Assumes nothing.
use Prim.Native.Nat.{◌*◌}
use mathlib.Core.Path.{◌≡◌}
use Rattle.fields.specs.BitString.{number_at}
use Rattle.fields.proofs.gathered.Given as goal

abbrev pub invariant-loop-byte : goal.invariant-loop-byte
invariant-loop-byte l = l.word ≡ number_at 0 (l.byte-index * 8) l.bytes
