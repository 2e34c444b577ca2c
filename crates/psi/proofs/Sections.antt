-- What the calls on a section say of its bytes. Assumes nothing.
use Prim.Native.Nat.{ℕ, ◌+◌, ◌-◌, ◌/◌, ◌%◌, ◌^◌, ◌≤◌, ◌<◌}
use Prim.Native.String.{String}
use mathlib.Core.Path.{◌≡◌, refl, sym, ap, ap₂, ◌∙◌}
use mathlib.Core.List.{List, ◌++◌}
use native.Mathlib.Omega.{arith}
use borrow.Author.Tests.{ltb-true, ltb-false}
use lib.ListN.{length, take, drop, length-drop, take-append-drop}
use lib.Seq.{take-add}
use Rattle.fields.specs.Choice.{when◌then◌else◌, ◌is_below◌}
use Rattle.fields.specs.SyntaxTable.{size, offset, width, behind, value_of}
use Rattle.fields.specs.Word.{word_of}
use Rattle.fields.proofs.Choices.{first_chosen, second_chosen}
use Rattle.fields.proofs.BitStrings.{number_at_lt, number_at_front}
use Rattle.fields.proofs.SyntaxTables.{field_of_word}
use Rattle.answers.specs.Says.{Says, given, refused}
use Rattle.answers.specs.Refusals.{number_of}
use Rattle.answers.specs.declared.Refusal.{Refusal}
use Rattle.answers.proofs.Saying.{same_values, same_refusal, given_is_not_refused}
use Rattle.psi.specs.Syntax.{section_header, table_header}
use Rattle.psi.specs.Header.{section_length, wanted, version_number, fields_of, no_header, header_of, table_fields_of, no_table_header, table_header_of}
use Rattle.psi.specs.Place.{from_up_to, no_place, part_at}
use Rattle.psi.specs.Body.{body_of}
use Rattle.psi.specs.declared.Place.{Place}
use Rattle.psi.specs.declared.SectionCommonHeader.{SectionCommonHeader}
use Rattle.psi.specs.declared.TableSyntaxHeader.{TableSyntaxHeader}

-- ---- every field of a header, from the word of its bytes

pub header_field : (bytes : List ℕ) (word : ℕ) → 3 ≤ length bytes → word ≡ word_of bytes 0 3
    → (name : String) → value_of section_header name bytes ≡ word / 2 ^ behind section_header name % 2 ^ width section_header name
unfolding size
header_field bytes word l e name = field_of_word section_header bytes 0 3 word (omega arith) refl e name

pub table_header_field : (section : List ℕ) (word : ℕ) → 8 ≤ length section → word ≡ word_of section 3 5
    → (name : String)
    → value_of table_header name (drop 3 section) ≡ word / 2 ^ behind table_header name % 2 ^ width table_header name
unfolding size
table_header_field section word l e name = field_of_word table_header section 3 5 word (omega arith) refl e name

-- ---- section_length has 12 bits, version_number 5

pub section_length_below_4096 : (bytes : List ℕ) → 3 ≤ length bytes → section_length bytes < 4096
unfolding value_of offset width when◌then◌else◌
section_length_below_4096 bytes l = number_at_lt bytes 12 12 (omega arith)

pub version_number_below_32 : (section : List ℕ) → 8 ≤ length section → version_number section < 32
unfolding value_of offset width when◌then◌else◌
version_number_below_32 section l = number_at_lt (drop 3 section) 18 5 (simp length-drop (omega arith))

-- three bytes tell how many a section has, whatever follows them
pub wanted_by_front : (bytes behind : List ℕ) → 3 ≤ length bytes → wanted (bytes ++ behind) ≡ wanted bytes
unfolding value_of offset width when◌then◌else◌
wanted_by_front bytes behind l = ap (λ (n : ℕ). 3 + n) (number_at_front bytes behind 12 12 (omega arith))

-- ---- a call that refuses fewer than n bytes

module _ {Values : Type 0} (bytes : List ℕ) (n : ℕ) (refusal : Refusal) (none asked : Values) where
  said : Says Values
  said = when length bytes is_below n then refused (number_of refusal) none else given asked

  -- what it gives is what was asked of so many bytes
  enough : (values : Values) → given values ≡ said → (n ≤ length bytes) × (values ≡ asked)
  unfolding said
  enough values e =
      let chosen = second_chosen _ _ _ _ (sym e) (λ f. given_is_not_refused refusal (sym f)) in
      (ltb-false _ _ chosen.0, sym (same_values chosen.1))

  -- and it refuses fewer with one refusal
  too_few : (other : Refusal) → refused (number_of other) none ≡ said → (length bytes < n) × (other ≡ refusal)
  unfolding said
  too_few other e =
      let chosen = first_chosen _ _ _ _ (sym e) (λ f. given_is_not_refused other f) in
      (ltb-true _ _ chosen.0, sym (same_refusal refusal other chosen.1))

-- the header of three bytes or more, or 10
pub header_given : (bytes : List ℕ) (header : SectionCommonHeader) → given header ≡ header_of bytes
    → (3 ≤ length bytes) × (header ≡ fields_of bytes)
unfolding header_of said
header_given bytes header e = enough bytes 3 Refusal.Under3Bytes no_header (fields_of bytes) header e

pub header_refused : (bytes : List ℕ) (refusal : Refusal) → refused (number_of refusal) no_header ≡ header_of bytes
    → (length bytes < 3) × (refusal ≡ Refusal.Under3Bytes)
unfolding header_of said
header_refused bytes refusal e = too_few bytes 3 Refusal.Under3Bytes no_header (fields_of bytes) refusal e

-- the table header of eight bytes or more, or 12
pub table_header_given : (section : List ℕ) (header : TableSyntaxHeader) → given header ≡ table_header_of section
    → (8 ≤ length section) × (header ≡ table_fields_of section)
unfolding table_header_of said
table_header_given section header e = enough section 8 Refusal.Under8Bytes no_table_header (table_fields_of section) header e

pub table_header_refused : (section : List ℕ) (refusal : Refusal) → refused (number_of refusal) no_table_header ≡ table_header_of section
    → (length section < 8) × (refusal ≡ Refusal.Under8Bytes)
unfolding table_header_of said
table_header_refused section refusal e = too_few section 8 Refusal.Under8Bytes no_table_header (table_fields_of section) refusal e

-- ---- the body

-- the body of twelve bytes or more
pub body_given : (section : List ℕ) (place : Place) → given place ≡ body_of section
    → (12 ≤ length section) × (place ≡ from_up_to 8 (length section - 4))
unfolding body_of said
body_given section place e = enough section 12 Refusal.SectionUnder12 no_place (from_up_to 8 (length section - 4)) place e

-- a section is its headers, its body and its last four bytes
pub headers_body_crc : (section : List ℕ) → 12 ≤ length section
    → take 8 section ++ part_at (from_up_to 8 (length section - 4)) section ++ drop (length section - 4) section ≡ section
unfolding part_at
headers_body_crc section l =
    let len = length section - 4 - 8 in
    let end : length section - 4 ≡ 8 + len = omega arith in
    ap₂ (λ (front : List ℕ) (n : ℕ). front ++ drop n section) (sym (take-add 8 len section)) end ∙ take-append-drop (8 + len) section
