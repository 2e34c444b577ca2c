-- What a call says: a number of the table of answers, and the values that were asked. "All other numbers in a refused answer are 0, and its
-- parts are empty": the values of a refusal are those that the caller of `refused` names as none, with what 22, 24, 27 and 28 tell.
use Rattle.std.specs.Prelude.{ℕ, Result, Ok, Err}
use Rattle.answers.specs.Refusals.{number_of}
use Rattle.answers.specs.declared.Refusal.{Refusal}

pub record Says (Values : Type 0) : Type 0 where
  pub number : ℕ
  pub values : Values

-- what was asked; its number is 0, which refuses nothing
abbrev pub given : {Values : Type 0} → Values → Says Values
given values = record { number = 0; values = values }

-- a refusal: its number, and what stands for no values
abbrev pub refused : {Values : Type 0} → ℕ → Values → Says Values
refused n none = record { number = n; values = none }

-- the number and the values of a call's answer, which is what was asked or a refusal; `none` stands for the values of a refused one
abbrev pub says : {Values : Type 0} → Values → Result Values Refusal → Says Values
says none (Ok values) = given values
says none (Err refusal) = refused (number_of refusal) none

-- its number alone: 0 where nothing refuses
abbrev pub answer_number : {Values : Type 0} → Result Values Refusal → ℕ
answer_number (Ok values) = 0
answer_number (Err refusal) = number_of refusal
