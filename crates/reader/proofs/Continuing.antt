-- How bytes continue an open section, by how many there are. Assumes nothing.
use Prim.Native.Nat.{ℕ, ◌+◌, ◌-◌, ◌≤◌, ◌<◌}
use mathlib.Core.Path.{◌≡◌, ap, ◌∙◌}
use mathlib.Core.Bool.{true, false, not}
use mathlib.Core.List.{List}
use native.Mathlib.Omega.{arith}
use lib.ListN.{length, take}
use lib.Seq.{take_all, length-take-le}
use borrow.Author.Tests.{lt-ltb, le-ltb}
use Rattle.fields.specs.Laid.{laid}
use Rattle.fields.proofs.Choices.{test_holds, test_fails}
use Rattle.answers.specs.Numbers.{bytes_kept, no_section_open}
use Rattle.reader.specs.State.{idle, opened}
use Rattle.reader.specs.Outcome.{outcome, answered, in_buffer}
use Rattle.reader.specs.Whole.{whole}
use Rattle.reader.specs.Tail.{continued}
use Rattle.reader.specs.declared.Reader.{Reader}

module _ (reader : Reader) (bytes buffer : List ℕ) where
  pub continued_idle : reader.is_open ≡ false
      → continued reader bytes buffer ≡ outcome (answered no_section_open (idle reader.form reader.memory)) buffer
  unfolding continued
  continued_idle is_idle = test_holds _ _ _ (ap not is_idle)

  module _ (is_open : reader.is_open ≡ true) where
    -- fewer than are wanted
    pub continued_short : length bytes < reader.wanted - reader.held
        → continued reader bytes buffer
        ≡ outcome (answered bytes_kept (opened reader.form reader.memory (reader.held + length bytes) reader.wanted))
        (laid buffer reader.held bytes)
    unfolding continued
    continued_short short =
        let all : take (reader.wanted - reader.held) bytes ≡ bytes = take_all (reader.wanted - reader.held) bytes
        (omega arith) in
        let wants : reader.held + length bytes < reader.wanted = omega arith in
        test_fails _ _ _ (ap not is_open) ∙ rw all (test_holds _ _ _ (lt-ltb _ _ wants))

    -- as many as are wanted, or more
    pub continued_whole : reader.held < reader.wanted → reader.wanted - reader.held ≤ length bytes
        → continued reader bytes buffer
        ≡ outcome
        (whole reader.form reader.memory (in_buffer reader.wanted)
        (take reader.wanted (laid buffer reader.held (take (reader.wanted - reader.held) bytes))))
        (laid buffer reader.held (take (reader.wanted - reader.held) bytes))
    unfolding continued
    continued_whole below enough =
        let l : length (take (reader.wanted - reader.held) bytes)
        ≡ reader.wanted - reader.held = length-take-le _ bytes enough in
        let none : reader.wanted ≤ reader.held + length (take (reader.wanted - reader.held) bytes) = omega arith in
        test_fails _ _ _ (ap not is_open) ∙ test_fails _ _ _ (le-ltb _ _ none)
