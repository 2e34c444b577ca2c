-- The answers of a part, and where the next one begins. Assumes nothing.
use Prim.Native.Nat.{ℕ, zero, suc, ◌+◌, ◌*◌, ◌≤◌, ◌<◌}
use Prim.Native.String.{String}
use mathlib.Core.Path.{◌≡◌, refl, sym, ap, ◌∙◌}
use mathlib.Core.Bool.{Bool, true, false, not}
use mathlib.Core.List.{List, []}
use native.Mathlib.Nat.{add-zero}
use native.Mathlib.Omega.{arith}
use borrow.Author.Tests.{lt-ltb, le-ltb}
use lib.ListN.{get_or, length, drop, replicate, length-drop}
use lib.Seq.{get_or-drop}
use Rattle.fields.specs.BitString.{number_at}
use Rattle.fields.specs.Choice.{when◌then◌else◌}
use Rattle.fields.specs.SyntaxTable.{Table, size, offset, width, value_of, field}
use Rattle.fields.proofs.BitStrings.{first_byte}
use Rattle.fields.proofs.Choices.{test_holds, test_fails}
use Rattle.fields.proofs.SyntaxTables.{size_append}
use Rattle.answers.specs.Numbers.{flag_clear, field_ends_before}
use Rattle.answers.specs.Says.{given, refused}
use Rattle.adaptation.specs.declared.AdaptationField.{AdaptationField}
use Rattle.adaptation_parts.specs.Syntax.{program_clock_reference, original_program_clock_reference, splice_countdown}
use Rattle.adaptation_parts.specs.Syntax.{transport_private_data_length, transport_private_data, size_in_bytes}
use Rattle.adaptation_parts.specs.Syntax.{before_pcr, before_opcr, before_splice_countdown, before_transport_private_data}
use Rattle.adaptation_parts.specs.Parts.{part, no_clock, pcr_from, opcr_from}

module _ {Values : Type 0} (flag : Bool) (rows : Table) (bytes : List ℕ) (none : Values) (read : List ℕ → Values) where
  pub flag_is_clear : flag ≡ false → part flag rows bytes none read ≡ refused flag_clear none
  unfolding part
  flag_is_clear f = test_holds _ _ _ (ap not f)

  pub field_ends_before_lem : flag ≡ true → length bytes * 8 < size rows
      → part flag rows bytes none read ≡ refused field_ends_before none
  unfolding part
  field_ends_before_lem f l = test_fails _ _ _ (ap not f) ∙ test_holds _ _ _ (lt-ltb _ _ l)

  pub part_is_there : flag ≡ true → size rows ≤ length bytes * 8 → part flag rows bytes none read ≡ given (read bytes)
  unfolding part
  part_is_there f l = test_fails _ _ _ (ap not f) ∙ test_fails _ _ _ (le-ltb _ _ l)

-- a part takes its bytes where its flag is set
size_of_a_part : (flag : Bool) (rows : Table) (n : ℕ) → size rows ≡ n * 8
    → size (when flag then rows else []) ≡ (when flag then n else 0) * 8
unfolding when◌then◌else◌ size
size_of_a_part true rows n e = e
size_of_a_part false rows n e = refl

-- where each part begins, by the flags of those before it
module _ (flags : AdaptationField) where
  bits_before_opcr : size (before_opcr flags) ≡ (1 + (when flags.pcr_flag then 6 else 0)) * 8
  unfolding before_opcr size
  bits_before_opcr =
      let pcr = when flags.pcr_flag then program_clock_reference else [] in
      omega (arith, size_append before_pcr pcr, size_of_a_part flags.pcr_flag program_clock_reference 6 refl)

  bits_before_countdown : size (before_splice_countdown flags)
      ≡ (1 + (when flags.pcr_flag then 6 else 0) + (when flags.opcr_flag then 6 else 0)) * 8
  unfolding before_splice_countdown size
  bits_before_countdown =
      let opcr = when flags.opcr_flag then original_program_clock_reference else [] in
      omega (
        arith,
        bits_before_opcr,
        size_append (before_opcr flags) opcr,
        size_of_a_part flags.opcr_flag original_program_clock_reference 6 refl,
      )

  module _ {at : ℕ} where
    pub opcr_begins : at ≡ 1 + (when flags.pcr_flag then 6 else 0) + (when false then 6 else 0) + (when false then 1 else 0)
        → at ≡ size_in_bytes (before_opcr flags)
    unfolding when◌then◌else◌
    opcr_begins e = omega (arith, e, bits_before_opcr)

    pub splice_countdown_begins :
        at ≡ 1 + (when flags.pcr_flag then 6 else 0) + (when flags.opcr_flag then 6 else 0) + (when false then 1 else 0)
        → at ≡ size_in_bytes (before_splice_countdown flags)
    unfolding when◌then◌else◌
    splice_countdown_begins e = omega (arith, e, bits_before_countdown)

    pub transport_private_data_begins :
        at
        ≡ 1 + (when flags.pcr_flag then 6 else 0) + (when flags.opcr_flag then 6 else 0)
        + (when flags.splicing_point_flag then 1 else 0)
        → at ≡ size_in_bytes (before_transport_private_data flags)
    unfolding before_transport_private_data size
    transport_private_data_begins e =
        let countdown = when flags.splicing_point_flag then splice_countdown else [] in
        omega (
          arith,
          e,
          bits_before_countdown,
          size_append (before_splice_countdown flags) countdown,
          size_of_a_part flags.splicing_point_flag splice_countdown 1 refl,
        )

-- a row of eight bits is its byte
pub byte_of_its_row : (bytes : List ℕ) (at : ℕ) → at < length bytes → get_or bytes at 0 < 256
    → get_or bytes at 0 ≡ number_at 0 8 (drop at bytes)
byte_of_its_row bytes at l u =
    let first : get_or (drop at bytes) 0 0 ≡ get_or bytes at 0 = rw (get_or-drop, add-zero) in
    sym (first_byte (drop at bytes) (simp length-drop (omega arith)) (rw first u) ∙ first)

-- the rows of an OPCR are those of a PCR, under names of its own
pub opcr_as_pcr : (flag : Bool) (bytes : List ℕ)
    → part flag program_clock_reference bytes no_clock pcr_from ≡ part flag original_program_clock_reference bytes no_clock opcr_from
unfolding when◌then◌else◌ size offset width value_of part
opcr_as_pcr flag bytes = refl

-- n rows of eight bits
rows_of_bytes : (n : ℕ) (name : String) → size (replicate n (name, 8)) ≡ n * 8
unfolding size
rows_of_bytes zero name = refl
rows_of_bytes (suc n) name = omega (arith, rows_of_bytes n name)

-- private data is a length byte and that many bytes
pub size_of_private_data : (bytes : List ℕ)
    → size (transport_private_data bytes) ≡ (1 + field transport_private_data_length "transport_private_data_length" bytes) * 8
unfolding size
size_of_private_data bytes =
    let n = field transport_private_data_length "transport_private_data_length" bytes in
    omega (arith, rows_of_bytes n "private_data_byte")
