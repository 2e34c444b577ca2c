-- What refuses the start of a section, and what is known where nothing does. Assumes nothing.
use Prim.Native.Nat.{ℕ, ◌≤◌, ◌<◌}
use mathlib.Core.Path.{◌≡◌, refl, sym, ap, ◌∙◌}
use mathlib.Core.Bool.{Bool, true, false, not}
use mathlib.Core.List.{List}
use native.Mathlib.Omega.{arith}
use lib.ListN.{length}
use borrow.Author.Tests.{lt-ltb, le-ltb, ltb-false}
use Rattle.fields.specs.Choice.{when◌then◌else◌, ◌is_below◌, ◌is_above◌}
use Rattle.fields.proofs.Choices.{test_holds, test_fails, second_chosen}
use Rattle.answers.specs.Numbers.{under3_bytes, syntax_indicator, under8_bytes, length_above1021, already_delivered}
use Rattle.answers.specs.Says.{given, refused}
use Rattle.answers.specs.Refusals.{number_of}
use Rattle.answers.specs.declared.Refusal.{Refusal}
use Rattle.psi.specs.Header.{section_length, length_limit, fields_of, no_header, header_of}
use Rattle.psi.specs.declared.SectionCommonHeader.{SectionCommonHeader}
use Rattle.psi.proofs.Sections.{header_given, header_refused}
use Rattle.memory.specs.Memory.{repeats}
use Rattle.memory.specs.declared.Form.{Form}
use Rattle.memory.specs.declared.Memory.{Memory}
use Rattle.gathering_rules.specs.Start.{least_held, takes_syntax, header_refusal, start_refusal}

-- three tests before a last answer: one of them refuses, or the last answer is given
abbrev chosen : Bool → Bool → Bool → ℕ → ℕ
chosen syntax few long last =
    when syntax then syntax_indicator else when few then under8_bytes else when long then length_above1021 else last

refused_before : (syntax few long : Bool) (last : ℕ) → (chosen syntax few long 0 ≡ 0 → ⊥)
    → chosen syntax few long 0 ≡ chosen syntax few long last
unfolding when◌then◌else◌
refused_before true few long last refuses = refl
refused_before false true long last refuses = refl
refused_before false false true last refuses = refl
refused_before false false false last refuses = absurd (refuses refl)

left_to_last : (syntax few long : Bool) (last : ℕ) → chosen syntax few long 0 ≡ 0 → chosen syntax few long last ≡ last
unfolding when◌then◌else◌
left_to_last true few long last none = absurd (let n = none in omega arith)
left_to_last false true long last none = absurd (let n = none in omega arith)
left_to_last false false true last none = absurd (let n = none in omega arith)
left_to_last false false false last none = refl

module _ (form : Form) (memory : Memory) (bytes : List ℕ) where
  pub start_without_header : (refusal : Refusal) → refused (number_of refusal) no_header ≡ header_of bytes
      → start_refusal form memory bytes ≡ number_of refusal
  unfolding start_refusal
  start_without_header refusal e =
      let refused_so = header_refused bytes refusal e in test_holds _ _ _ (lt-ltb _ _ refused_so.0) ∙ sym (ap number_of refused_so.1)

  -- the same by the bytes alone
  pub start_under_three_bytes : length bytes < 3 → under3_bytes ≡ start_refusal form memory bytes
  unfolding start_refusal
  start_under_three_bytes short = sym (test_holds _ _ _ (lt-ltb _ _ short))

  -- the header, where there is one, and then what is remembered
  start_with_header : (header : SectionCommonHeader) → given header ≡ header_of bytes
      → start_refusal form memory bytes
      ≡ (when not (takes_syntax form header.section_syntax_indicator) then syntax_indicator
      else when length bytes is_below least_held form then under8_bytes
      else when header.section_length is_above length_limit then length_above1021
      else when repeats form memory bytes then already_delivered
      else 0)
  unfolding start_refusal fields_of
  start_with_header header is =
      let known = header_given bytes header is in
      test_fails _ _ _ (le-ltb _ _ known.0)
      ∙ ap
      (λ (h : SectionCommonHeader). when not (takes_syntax form h.section_syntax_indicator) then syntax_indicator
      else when length bytes is_below least_held form then under8_bytes
      else when h.section_length is_above length_limit then length_above1021
      else when repeats form memory bytes then already_delivered else 0)
      (sym known.1)

  pub three_bytes : (header : SectionCommonHeader) → given header ≡ header_of bytes → 3 ≤ length bytes
  three_bytes header is = (header_given bytes header is).0

  pub start_refused_by_header : (header : SectionCommonHeader) → given header ≡ header_of bytes
      → (header_refusal form header (length bytes) ≡ 0 → ⊥) → start_refusal form memory bytes
      ≡ header_refusal form header (length bytes)
  unfolding header_refusal
  start_refused_by_header header is refuses = start_with_header header is ∙ sym (refused_before _ _ _ _ refuses)

  pub start_left_to_memory : (header : SectionCommonHeader) → given header ≡ header_of bytes
      → header_refusal form header (length bytes) ≡ 0 → start_refusal form memory bytes
      ≡ (when repeats form memory bytes then already_delivered else 0)
  unfolding header_refusal
  start_left_to_memory header is none = start_with_header header is ∙ left_to_last _ _ _ _ none

  -- a section starts with these bytes
  pub record Starts : Type 0 where
    pub three : 3 ≤ length bytes
    pub least : least_held form ≤ length bytes
    pub limit : section_length bytes ≤ length_limit

  pub starts : start_refusal form memory bytes ≡ 0 → Starts
  unfolding start_refusal
  starts e =
      let three = second_chosen _ under3_bytes _ 0 e (λ f. omega arith) in
      let syntax = second_chosen _ syntax_indicator _ 0 three.1 (λ f. omega arith) in
      let least = second_chosen _ under8_bytes _ 0 syntax.1 (λ f. omega arith) in
      let limit = second_chosen _ length_above1021 _ 0 least.1 (λ f. omega arith) in
      record { three = ltb-false _ _ three.0; least = ltb-false _ _ least.0; limit = ltb-false _ _ limit.0 }
