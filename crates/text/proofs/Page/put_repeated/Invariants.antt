-- `Page::put_repeated` meets its contract: before each turn the byte is put as often as there were turns. Assumes nothing.
use mathlib.Core.Path.{◌≡◌}
use Rattle.std.proofs.Common.{replicate}
use Rattle.text.specs.Page.{lent, with_text_put}
use Rattle.text.proofs.Page.put_repeated.Given as goal

abbrev pub invariant-loop : goal.invariant-loop
invariant-loop l = lent l.self ≡ with_text_put (lent l.initial.self) (replicate l.counter l.byte)
