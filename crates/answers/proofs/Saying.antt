-- What is said tells the answer: what was given from what was refused, and each refusal from the others. Assumes nothing.
use mathlib.Core.Path.{◌≡◌, refl, sym, ap}
use Rattle.std.specs.Prelude.{Result, Ok, Err}
use Rattle.std.specs.Result.{IsErr, IsErrAnd}
use Rattle.answers.specs.Says.{Says, given, refused, says, answer_number}
use Rattle.answers.specs.Refusals.{number_of}
use Rattle.answers.specs.declared.Refusal.{Refusal}
use Rattle.answers.proofs.RefusalNumbers.{one_number_one_refusal, no_refusal_is_0}

module _ {Values : Type 0} where
  pub same_values : {v w : Values} → given v ≡ given w → v ≡ w
  same_values e = ap (λ (s : Says Values). s.values) e

  pub same_refusal : {none : Values} (r s : Refusal) → refused (number_of r) none ≡ refused (number_of s) none → r ≡ s
  same_refusal {none} r s e = one_number_one_refusal r s (ap (λ (s : Says Values). s.number) e)

  pub given_is_not_refused : {v none : Values} (r : Refusal) → given v ≡ refused (number_of r) none → ⊥
  given_is_not_refused {v} {none} r e = no_refusal_is_0 r (sym (ap (λ (s : Says Values). s.number) e))

  -- so an answer is told by its number and its values
  pub same_answer : (none : Values) (x y : Result Values Refusal) → says none x ≡ says none y → x ≡ y
  same_answer none (Ok v) (Ok w) e = ap Ok (same_values e)
  same_answer none (Ok v) (Err s) e = absurd (given_is_not_refused s e)
  same_answer none (Err r) (Ok w) e = absurd (given_is_not_refused r (sym e))
  same_answer none (Err r) (Err s) e = ap Err (same_refusal r s e)

  -- what the way out of a `?` answers: the refusal that it met
  pub passed_on : (none : Values) (answer : Result Values Refusal) (refusal : Refusal)
      → IsErr answer × IsErrAnd answer (λ r. r ≡ refusal) → says none answer ≡ refused (number_of refusal) none
  passed_on none (Ok v) refusal e = absurd e.1
  passed_on none (Err r) refusal e = ap (λ r. refused (number_of r) none) e.1

-- an answer that gives nothing but leave is told by its number
pub same_leave : (x y : Result Unit Refusal) → answer_number x ≡ answer_number y → x ≡ y
same_leave (Ok v) (Ok w) e = refl
same_leave (Ok v) (Err s) e = absurd (no_refusal_is_0 s (sym e))
same_leave (Err r) (Ok w) e = absurd (no_refusal_is_0 r e)
same_leave (Err r) (Err s) e = ap Err (one_number_one_refusal r s e)

-- the same of what the way out of a `?` answers
pub passed_on_number : {Values : Type 0} (answer : Result Values Refusal) (refusal : Refusal)
    → IsErr answer × IsErrAnd answer (λ r. r ≡ refusal) → answer_number answer ≡ number_of refusal
passed_on_number (Ok v) refusal e = absurd e.1
passed_on_number (Err r) refusal e = ap number_of e.1
