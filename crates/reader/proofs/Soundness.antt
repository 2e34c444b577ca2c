-- What a sound state says. Assumes nothing.
use Prim.Native.Nat.{◌≤◌, ◌<◌}
use mathlib.Core.Path.{◌≡◌, sym, ◌∙◌}
use mathlib.Core.Bool.{true}
use borrow.Author.Tests.{leb-true, ltb-true}
use Rattle.fields.proofs.Choices.{and_holds, test_holds}
use Rattle.memory.specs.Memory.{sound_memory}
use Rattle.gathering_rules.specs.Checks.{buffer_length}
use Rattle.gathering_rules.specs.Start.{least_held}
use Rattle.reader.specs.State.{sound_counts, gathering_of, sound}
use Rattle.reader.specs.declared.Reader.{Reader}
use Rattle.reader.specs.declared.Gathering.{Gathering}

-- an open state that is sound
pub record OpenSound (gathering : Gathering) : Type 0 where
  pub least : least_held gathering.form ≤ gathering.held
  pub below : gathering.held < gathering.wanted
  pub fits : gathering.wanted ≤ buffer_length

pub open_counts : (gathering : Gathering) → sound_counts gathering ≡ true → gathering.is_open ≡ true → OpenSound gathering
unfolding sound_counts
open_counts gathering is_sound is_open =
    let counts = sym (test_holds _ _ _ is_open) ∙ is_sound in
    let least = and_holds _ _ counts in
    let below = and_holds _ _ least.1 in
    record { least = leb-true _ _ least.0; below = ltb-true _ _ below.0; fits = leb-true _ _ below.1 }

-- the memory of a sound state, and its counts
pub memory_sound : (reader : Reader) → sound reader ≡ true → sound_memory reader.form reader.memory ≡ true
unfolding sound
memory_sound reader is_sound = (and_holds _ _ is_sound).0

pub counts_sound : (reader : Reader) → sound reader ≡ true → sound_counts (gathering_of reader) ≡ true
unfolding sound
counts_sound reader is_sound = (and_holds _ _ is_sound).1

pub open_sound : (reader : Reader) → sound reader ≡ true → reader.is_open ≡ true → OpenSound (gathering_of reader)
open_sound reader is_sound is_open = open_counts (gathering_of reader) (counts_sound reader is_sound) is_open
