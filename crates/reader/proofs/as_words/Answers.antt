-- `reader::as_words` meets its contract: the words are read as the memory again. Assumes nothing.
use mathlib.Core.Path.{ap, ◌∙◌}
use native.Mathlib.Omega.{arith}
use Rattle.memory_words.specs.Words.{memory_in}
use Rattle.memory_words.proofs.Words.{memory_again}
use Rattle.std.proofs.Common.{rules}
use Rattle.reader.proofs.as_words.Goals as goal

pub returns : goal.returns
returns c =
    ap memory_in c.words_of.ensures
    ∙ memory_again c.args.memory
    (record { byte = omega arith; bytes = omega arith; version = omega arith; four = search rules })
