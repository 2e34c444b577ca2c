-- `reader::wanted` meets its contract: three bytes have a header. Assumes nothing.
use Prim.Native.Nat.{◌+◌}
use mathlib.Core.Path.{sym, ap, ◌∙◌}
use native.Mathlib.Omega.{arith}
use Rattle.psi.specs.Header.{header_says, fields_of}
use Rattle.psi.proofs.Sections.{header_given, header_refused, section_length_below_4096}
use Rattle.reader.proofs.wanted.Goals as goal

pub overflow_add-result : goal.overflow_add-result
unfolding fields_of
overflow_add-result c =
    let known = sym (ap header_says c.in-Ok.is) ∙ c.header.ensures in
    let is = header_given _ _ known in
    omega (
      arith,
      section_length_below_4096 c.args.section.now is.0,
      ap (λ h. h.section_length) is.1,
    )

pub returns-in-Ok : goal.returns-in-Ok
unfolding fields_of
returns-in-Ok c =
    let known = sym (ap header_says c.in-Ok.is) ∙ c.header.ensures in
    ap (λ h. 3 + h.section_length) (header_given _ _ known).1

pub returns-in-Err : goal.returns-in-Err
returns-in-Err c =
    let known = sym (ap header_says c.in-Err.is) ∙ c.header.ensures in
    let few = (header_refused _ c.in-Err.field-0 known).0 in
    absurd (omega arith)
