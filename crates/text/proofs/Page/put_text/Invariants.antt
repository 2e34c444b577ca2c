-- `Page::put_text` meets its contract: before each turn the bytes before the turn's are put. Assumes nothing.
use mathlib.Core.Path.{◌≡◌}
use Rattle.std.proofs.Common.{take}
use Rattle.text.specs.Page.{lent, with_text_put}
use Rattle.text.proofs.Page.put_text.Given as goal

abbrev pub invariant-loop-byte : goal.invariant-loop-byte
invariant-loop-byte l = lent l.self ≡ with_text_put (lent l.initial.self) (take l.byte-index l.text)
