-- Numbers as a script spells them.
use Rattle.std.specs.Prelude.{ℕ, ◌+◌, ◌-◌, ◌*◌, ◌/◌, ◌%◌, ◌^◌, ◌≤◌, nat_lt, if◌then◌else◌, List, [], ◌∷◌, length, All}
use Rattle.std.specs.Char.{IsAsciiDigit}

-- one decimal digit or more
abbrev pub IsNumeral : List ℕ → Type 0
IsNumeral word = (1 ≤ length word) × All IsAsciiDigit word

-- the number that decimal digits stand for
abbrev pub decimal : List ℕ → ℕ
decimal [] = 0
decimal (digit ∷ digits) = (digit - 48) * 10 ^ length digits + decimal digits

-- a lower case hexadecimal digit
abbrev pub hex_digit : ℕ → ℕ
hex_digit n = if nat_lt n 10 then 48 + n else 87 + n

-- a byte's two digits
abbrev pub hex_text : ℕ → List ℕ
hex_text byte = hex_digit (byte / 16) ∷ hex_digit (byte % 16) ∷ []
