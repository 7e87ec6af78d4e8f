-- The numbers of errors.
use Rattle.std.specs.Prelude.{ℕ, ⊤, Result, Ok, Err}
use Rattle.nbd_words.specs.declared.error_number.ErrorNumber.{ErrorNumber}
use Rattle.nbd_words.specs.declared.error_number.ErrorNumber.TheVariants.{NotPermitted, InputOutput, NoMemory, Invalid, NoSpace, ShuttingDown}

abbrev pub error_number : ErrorNumber → ℕ
error_number NotPermitted = 1
error_number InputOutput = 5
error_number NoMemory = 12
error_number Invalid = 22
error_number NoSpace = 28
error_number ShuttingDown = 108

-- 0 where a request was done
abbrev pub outcome_number : Result ⊤ ErrorNumber → ℕ
outcome_number (Ok _) = 0
outcome_number (Err error) = error_number error
