-- `adaptation::flags_of` meets its contract: the flags of their table, cut out of the field's first byte. Assumes nothing.
use Prim.Native.Nat.{ℕ, ◌+◌, ◌/◌, ◌%◌, ◌^◌, ◌≤◌, ◌<◌}
use Prim.Native.String.{String}
use mathlib.Core.Path.{◌≡◌, refl, sym, ap, ◌∙◌}
use mathlib.Core.List.{List}
use native.Mathlib.Nat.{div-one}
use native.Mathlib.Omega.{arith}
use lib.ListN.{length, take, drop, length-take, length-drop, take-append-drop}
use Rattle.fields.specs.Choice.{when◌then◌else◌}
use Rattle.fields.specs.BitString.{number_at}
use Rattle.fields.specs.SyntaxTable.{size, behind, width, value_of}
use Rattle.fields.specs.Word.{word_of}
use Rattle.fields.proofs.BitStrings.{number_at_front}
use Rattle.fields.proofs.SyntaxTables.{word_there, field_of_word}
use Rattle.adaptation.specs.Syntax.{adaptation_field_flags}
use Rattle.adaptation.specs.AdaptationField.{start, flags_of}
use Rattle.adaptation.proofs.flags_of.Goals as goal

-- a flag of a field of n bytes, from the word read where the field begins in its packet
flag-of-word : (packet : List ℕ) (n word : ℕ) → 0 < n → start + n ≤ length packet → word ≡ word_of packet start 1 → (name : String)
    → value_of adaptation_field_flags name (take n (drop start packet))
    ≡ word / 2 ^ behind adaptation_field_flags name % 2 ^ width adaptation_field_flags name
unfolding size
flag-of-word packet n word some within is =
    let behind_start = drop start packet in
    let bytes = take n behind_start in
    let there : 1 ≤ length bytes = simp (length-take, length-drop) (omega arith) in
    field_of_word adaptation_field_flags bytes 0 1 word (omega arith) refl
    (is ∙ word_there packet start 1 (omega arith) (omega arith) ∙ ap (number_at 0 8) (sym (take-append-drop n behind_start))
    ∙ number_at_front bytes (drop n behind_start) 0 8 (omega arith) ∙ sym (word_there bytes 0 1 (omega arith) (omega arith)))

pub returns : goal.returns
unfolding flags_of when◌then◌else◌ size behind width
returns c =
    let n = c.args.n in
    simp (
      ← c.requires.1,
      flag-of-word c.args.packet.now n c.word-bits.result (omega arith) (omega arith) c.word-bits.ensures,
      div-one,
    )
