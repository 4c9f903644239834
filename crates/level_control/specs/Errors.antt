-- The error that ends a task: the source's ErrorCode, by number.
use Rattle.std.specs.Prelude.{ℕ}
use Rattle.level_control.specs.declared.errors.ErrorCode.{ErrorCode}
use Rattle.level_control.specs.declared.errors.ErrorCode.TheVariants.{InvalidInState, Failure}

abbrev pub error_number : ErrorCode → ℕ
error_number InvalidInState = 11
error_number Failure = 15
