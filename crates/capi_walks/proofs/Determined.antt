-- Any two answers that a contract allows are equal. Assumes nothing.
use mathlib.Core.Path.{sym, ◌∙◌}
use Rattle.fields.specs.Determines.{Determines}
use Rattle.capi_walks.proofs.jambpepper_program_at.Reads as program_at
use Rattle.capi_walks.proofs.jambpepper_pmt_start.Reads as pmt_start
use Rattle.capi_walks.proofs.jambpepper_stream_at.Reads as stream_at

pub jambpepper_program_at_determined : Determines program_at.Post
jambpepper_program_at_determined κs arguments x y x_exit y_exit p q = p ∙ sym q

pub jambpepper_pmt_start_determined : Determines pmt_start.Post
jambpepper_pmt_start_determined κs arguments x y x_exit y_exit p q = p ∙ sym q

pub jambpepper_stream_at_determined : Determines stream_at.Post
jambpepper_stream_at_determined κs arguments x y x_exit y_exit p q = p ∙ sym q
