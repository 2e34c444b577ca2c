-- The digits of a number, as ASCII writes them.
use Rattle.std.specs.Prelude.{ℕ, zero, suc, ◌+◌, ◌-◌, ◌/◌, ◌%◌, List, [], ◌∷◌, ◌++◌}
use Rattle.fields.specs.Choice.{when◌then◌else◌, ◌is_below◌}

abbrev pub blank : ℕ
blank = 32

-- the characters 0 and a
abbrev pub zero_character : ℕ
zero_character = 48

abbrev pub letter_a : ℕ
letter_a = 97

-- 0 to 9 for the digits below ten, a to f for those above
unfoldable pub character : ℕ → ℕ
character digit = when digit is_below 10 then zero_character + digit else letter_a + (digit - 10)

-- the digits of n, the most significant first: a number below the base is one digit, any other the digits of n / base and then the digit
-- n % base. `most` counts them down, so that they are seen to end
unfoldable pub digits_within : ℕ → ℕ → ℕ → List ℕ
digits_within zero base n = []
digits_within (suc most) base n =
    (when n is_below base then [] else digits_within most base (n / base)) ++ character (n % base) ∷ []

-- n has at most n + 1 digits, whatever the base (above 1)
abbrev pub digits : ℕ → ℕ → List ℕ
digits base n = digits_within (suc n) base n
