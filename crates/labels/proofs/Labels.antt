-- How large the numbers of a label are. Assumes nothing.
use Prim.Native.Nat.{ℕ, ◌≤◌, ◌<◌}
use native.Mathlib.Omega.{arith}
use mathlib.Core.List.{List}
use lib.ListN.{length, drop, length-drop}
use borrow.Author.Tests.{ltb-false}
use Rattle.fields.specs.Choice.{when◌then◌else◌}
use Rattle.fields.specs.SyntaxTable.{field, offset, width, value_of}
use Rattle.fields.proofs.BitStrings.{number_at_lt}
use Rattle.fields.proofs.Choices.{of_either}
use Rattle.answers.specs.Says.{Says}
use Rattle.psi.specs.Syntax.{section_header, table_header}
use Rattle.psi.specs.Header.{fields_of, header_of, table_fields_of, table_header_of}
use Rattle.psi.specs.declared.SectionCommonHeader.{SectionCommonHeader}
use Rattle.psi.specs.declared.TableSyntaxHeader.{TableSyntaxHeader}
use Rattle.psi.proofs.Sections.{version_number_below_32}
use Rattle.labels.specs.Label.{table_id_of, table_of}

-- each has the bits of its field, and is 0 where there is none
table_id_has_8_bits : (section : List ℕ) → 3 ≤ length section → field section_header "table_id" section < 256
unfolding value_of offset width when◌then◌else◌
table_id_has_8_bits section l = number_at_lt section 0 8 (omega arith)

id_has_16_bits : (section : List ℕ) → 8 ≤ length section → field table_header "table_id_extension" (drop 3 section) < 65536
unfolding value_of offset width when◌then◌else◌
id_has_16_bits section l = number_at_lt (drop 3 section) 0 16 (simp length-drop (omega arith))

section_number_has_8_bits : (section : List ℕ) → 8 ≤ length section → field table_header "section_number" (drop 3 section) < 256
unfolding value_of offset width when◌then◌else◌
section_number_has_8_bits section l = number_at_lt (drop 3 section) 24 8 (simp length-drop (omega arith))

pub table_id_below_256 : (section : List ℕ) → table_id_of section < 256
unfolding header_of fields_of
table_id_below_256 section =
    of_either (λ (s : Says SectionCommonHeader). s.values.table_id < 256) _ _ _ (λ short. omega arith)
    (λ long. table_id_has_8_bits section (ltb-false _ _ long))

pub id_below_65536 : (section : List ℕ) → (table_of section).id < 65536
unfolding table_header_of table_fields_of
id_below_65536 section =
    of_either (λ (s : Says TableSyntaxHeader). s.values.id < 65536) _ _ _ (λ short. omega arith)
    (λ long. id_has_16_bits section (ltb-false _ _ long))

pub version_below_32 : (section : List ℕ) → (table_of section).version < 32
unfolding table_header_of table_fields_of
version_below_32 section =
    of_either (λ (s : Says TableSyntaxHeader). s.values.version < 32) _ _ _ (λ short. omega arith)
    (λ long. version_number_below_32 section (ltb-false _ _ long))

pub section_number_below_256 : (section : List ℕ) → (table_of section).section_number < 256
unfolding table_header_of table_fields_of
section_number_below_256 section =
    of_either (λ (s : Says TableSyntaxHeader). s.values.section_number < 256) _ _ _ (λ short. omega arith)
    (λ long. section_number_has_8_bits section (ltb-false _ _ long))
