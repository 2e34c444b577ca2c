-- Any two answers that a contract allows are equal. Assumes nothing.
use mathlib.Core.Path.{sym, ◌∙◌}
use Rattle.fields.specs.Determines.{Determines}
use Rattle.capi_sections.proofs.jambpepper_section_header.Reads as section_header
use Rattle.capi_sections.proofs.jambpepper_table_header.Reads as table_header
use Rattle.capi_sections.proofs.jambpepper_body.Reads as body

pub jambpepper_section_header_determined : Determines section_header.Post
jambpepper_section_header_determined κs arguments x y x_exit y_exit p q = p ∙ sym q

pub jambpepper_table_header_determined : Determines table_header.Post
jambpepper_table_header_determined κs arguments x y x_exit y_exit p q = p ∙ sym q

pub jambpepper_body_determined : Determines body.Post
jambpepper_body_determined κs arguments x y x_exit y_exit p q = p ∙ sym q
