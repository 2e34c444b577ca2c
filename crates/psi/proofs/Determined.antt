-- Any two answers that a contract allows are equal. Assumes nothing.
use mathlib.Core.Path.{sym, ◌∙◌}
use Rattle.fields.specs.Determines.{Determines}
use Rattle.answers.proofs.Saying.{same_answer}
use Rattle.psi.proofs.Section.header.Reads as header
use Rattle.psi.proofs.Section.table_header.Reads as table_header
use Rattle.psi.proofs.Section.body.Reads as body

pub header_determined : Determines header.Post
header_determined κs arguments x y x_exit y_exit p q = same_answer _ x y (p ∙ sym q)

pub table_header_determined : Determines table_header.Post
table_header_determined κs arguments x y x_exit y_exit p q = same_answer _ x y (p ∙ sym q)

pub body_determined : Determines body.Post
body_determined κs arguments x y x_exit y_exit p q = same_answer _ x y (p ∙ sym q)
