-- The start of a PMT's body, from the word of its four bytes, and what it says of the body. Assumes nothing.
use Prim.Native.Nat.{ℕ, ◌/◌, ◌%◌, ◌^◌, ◌≤◌}
use Prim.Native.String.{String}
use mathlib.Core.Path.{◌≡◌, refl, sym, ap}
use mathlib.Core.List.{List}
use native.Mathlib.Omega.{arith}
use borrow.Author.Tests.{ltb-false}
use lib.ListN.{length}
use Rattle.fields.specs.SyntaxTable.{size, behind, width, value_of}
use Rattle.fields.specs.Word.{word_of}
use Rattle.fields.proofs.Choices.{second_chosen}
use Rattle.fields.proofs.SyntaxTables.{field_of_word}
use Rattle.answers.specs.Says.{Says}
use Rattle.pmt.specs.Syntax.{map_header}
use Rattle.pmt.specs.Start.{Start, started, too_short, streams_start, section_of, start_of}
use Rattle.pmt.specs.declared.PmtSection.{PmtSection}

pub header_field : (body : List ℕ) (word : ℕ) → 4 ≤ length body → word ≡ word_of body 0 4
    → (name : String) → value_of map_header name body ≡ word / 2 ^ behind map_header name % 2 ^ width map_header name
unfolding size
header_field body word l e name = field_of_word map_header body 0 4 word (omega arith) refl e name

-- a start that is given says that the streams start within the body, behind its first four bytes
pub record Starts (body : List ℕ) (section : PmtSection) : Type 0 where
  pub four : 4 ≤ length body
  pub within : streams_start body ≤ length body
  pub is : section ≡ section_of body

pub not_short : {section : PmtSection} {needed actual : ℕ} → too_short needed actual ≡ started section → ⊥
not_short e = let z : ◌≡◌ {A = ℕ} 22 0 = ap (λ (s : Says Start). s.number) e in omega arith

pub start_given : (body : List ℕ) (section : PmtSection) → started section ≡ start_of body → Starts body section
unfolding start_of
start_given body section e =
    let four = second_chosen _ _ _ _ (sym e) not_short in
    let within = second_chosen _ _ _ _ four.1 not_short in
    record {
      four = ltb-false _ _ four.0;
      within = ltb-false _ _ within.0;
      is = ap (λ (s : Says Start). s.values.section) (sym within.1);
    }
