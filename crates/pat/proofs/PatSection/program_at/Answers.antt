-- `pat::PatSection::program_at` meets its contract: each way out is what the walk finds there. Assumes nothing.
use mathlib.Core.Path.{sym, ◌∙◌}
use native.Mathlib.Omega.{arith}
use Rattle.walks.proofs.Walks.{left_given, refused_as_its_left}
use Rattle.pat.specs.Programs.{program_kind}
use Rattle.pat.proofs.Programs.{tail_found, network_found, program_found, refused_there}
use Rattle.pat.proofs.PatSection.program_at.Goals as goal

pub returns-in_err-left : goal.returns-in_err-left
returns-in_err-left c =
    refused_there _ _ c.from_residual.ensures
    ∙ sym (refused_as_its_left program_kind _ _ c.in_err-left.was c.left_at.ensures)

pub returns-then-left-lt-SIZE : goal.returns-then-left-lt-SIZE
returns-then-left-lt-SIZE c =
    let left = left_given _ _ c.in_ok-left.was c.left_at.ensures in
    sym (tail_found c.args.body.now c.args.position left.0 (omega (arith, left.0, left.1)))

pub overflow_add-next : goal.overflow_add-next
overflow_add-next c =
    let left = left_given _ _ c.in_ok-left.was c.left_at.ensures in
    omega (arith, left.0, left.1)

pub returns-then-program_number-eq0 : goal.returns-then-program_number-eq0
returns-then-program_number-eq0 c =
    let left = left_given _ _ c.in_ok-left.was c.left_at.ensures in
    let bits = c.word-bits in
    sym (network_found c.args.body.now c.args.position bits.result (omega (arith, left.0, left.1)) bits.ensures c.if-program_number-eq0.true)

pub returns : goal.returns
returns c =
    let left = left_given _ _ c.in_ok-left.was c.left_at.ensures in
    let bits = c.word-bits in
    sym (program_found c.args.body.now c.args.position bits.result (omega (arith, left.0, left.1)) bits.ensures c.if-program_number-eq0.false)
