-- Any two answers that a contract allows are equal, and so is what the page holds after them. Assumes nothing.
use mathlib.Core.Path.{refl, sym, ap, ◌∙◌}
use Rattle.fields.specs.Determines.{DeterminesBoth, DeterminesBytes}
use Rattle.text.specs.Page.{Lent, paged_of}
use Rattle.text.proofs.Page.put_text.Reads as put_text
use Rattle.text.proofs.Page.put_repeated.Reads as put_repeated
use Rattle.text.proofs.Page.put_decimal.Reads as put_decimal
use Rattle.text.proofs.Page.put_decimal_left.Reads as put_decimal_left
use Rattle.text.proofs.Page.put_hexadecimal.Reads as put_hexadecimal
use Rattle.text.proofs.Page.front.Reads as page_front
use Rattle.text.proofs.front.Reads as front

pub put_text_determined : DeterminesBoth put_text.Post (λ κs exit. paged_of exit.0.now)
put_text_determined κs arguments x y x_exit y_exit p q = (refl, ap (λ (page : Lent). page.page) (p ∙ sym q))

pub put_repeated_determined : DeterminesBoth put_repeated.Post (λ κs exit. paged_of exit.0.now)
put_repeated_determined κs arguments x y x_exit y_exit p q = (refl, ap (λ (page : Lent). page.page) (p ∙ sym q))

pub put_decimal_determined : DeterminesBoth put_decimal.Post (λ κs exit. paged_of exit.0.now)
put_decimal_determined κs arguments x y x_exit y_exit p q = (refl, ap (λ (page : Lent). page.page) (p ∙ sym q))

pub put_decimal_left_determined : DeterminesBoth put_decimal_left.Post (λ κs exit. paged_of exit.0.now)
put_decimal_left_determined κs arguments x y x_exit y_exit p q = (refl, ap (λ (page : Lent). page.page) (p ∙ sym q))

pub put_hexadecimal_determined : DeterminesBoth put_hexadecimal.Post (λ κs exit. paged_of exit.0.now)
put_hexadecimal_determined κs arguments x y x_exit y_exit p q = (refl, ap (λ (page : Lent). page.page) (p ∙ sym q))

pub front_determined : DeterminesBytes front.Post (λ κs part. part.now)
front_determined κs arguments x y x_exit y_exit p q = p ∙ sym q

pub page_front_determined : DeterminesBytes page_front.Post (λ κs part. part.now)
page_front_determined κs arguments x y x_exit y_exit p q = p ∙ sym q
