-- The client's flags.
use Rattle.std.specs.Prelude.{◌+◌, ◌*◌, ℕ, Bool, true, false}
use Rattle.nbd_words.specs.declared.greeting.ClientFlags.{ClientFlags}

abbrev pub bit_of : Bool → ℕ
bit_of true = 1
bit_of false = 0

-- FIXED_NEWSTYLE (1) and NO_ZEROES (2)
abbrev pub flags_of : ClientFlags → ℕ
flags_of flags = bit_of flags.fixed_newstyle + 2 * bit_of flags.no_zeroes
