-- The two digits that a byte is written with.
use Rattle.std.proofs.Common.{◌≡◌, ◌∙◌, ℕ, ◌<◌, List, [], Option, ap, Some, false}
use Rattle.std.specs.Prelude.{option_map}
use Rattle.std.specs.Fmt.{digits, format_spec, padded_integral}
use Rattle.std.proofs.lemmas.Fmt.{hex_byte}
use Rattle.program_script.specs.Numeral.{hex_text}

-- two places, filled up with zeros, and lower case letters
pub two_digits : (numeral : Option (List ℕ)) (byte : ℕ) → byte < 256 → numeral ≡ Some (digits 16 false byte)
    → option_map (padded_integral (format_spec 32 0 4 2 18446744073709551615) false []) numeral ≡ Some (hex_text byte)
two_digits numeral byte small is = ap (option_map (padded_integral (format_spec 32 0 4 2 18446744073709551615) false [])) is ∙ ap Some (hex_byte false byte small)
