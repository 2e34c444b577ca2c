-- `pmt::PmtSection::stream_at` meets its contract: each way out is what the walk finds there. Assumes nothing.
use mathlib.Core.Path.{sym, ◌∙◌}
use native.Mathlib.Omega.{arith}
use Rattle.walks.proofs.Walks.{left_given, refused_as_its_left}
use Rattle.pmt.specs.Streams.{stream_kind}
use Rattle.pmt.proofs.Streams.{under_5_found, info_past_end_found, stream_found, refused_there}
use Rattle.pmt.proofs.PmtSection.stream_at.Goals as goal

pub returns-in_err-left : goal.returns-in_err-left
returns-in_err-left c =
    refused_there _ _ c.from_residual.ensures ∙ sym (refused_as_its_left stream_kind _ _ c.in_err-left.was c.left_at.ensures)

pub returns-then-left-lt-HEADER_SIZE : goal.returns-then-left-lt-HEADER_SIZE
returns-then-left-lt-HEADER_SIZE c =
    let left = left_given _ _ c.in_ok-left.was c.left_at.ensures in
    sym (under_5_found c.args.body.now c.args.position (omega (arith, left.0)) (omega (arith, left.0, left.1)))

pub returns-then-left-es_info_length : goal.returns-then-left-es_info_length
returns-then-left-es_info_length c =
    let left = left_given _ _ c.in_ok-left.was c.left_at.ensures in
    let bits = c.word-bits in
    sym (info_past_end_found c.args.body.now c.args.position bits.result (omega (arith, left.0, left.1)) bits.ensures (omega (arith, left.0, left.1)))

pub overflow_add-start : goal.overflow_add-start
overflow_add-start c =
    let left = left_given _ _ c.in_ok-left.was c.left_at.ensures in omega (arith, left.0, left.1)

pub overflow_add-next : goal.overflow_add-next
overflow_add-next c =
    let left = left_given _ _ c.in_ok-left.was c.left_at.ensures in omega (arith, left.0, left.1)

pub returns : goal.returns
returns c =
    let left = left_given _ _ c.in_ok-left.was c.left_at.ensures in
    let bits = c.word-bits in
    sym (stream_found c.args.body.now c.args.position bits.result (omega (arith, left.0, left.1)) bits.ensures (omega (arith, left.0, left.1)))
