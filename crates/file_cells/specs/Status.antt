-- The segments that a status counts.
use Rattle.std.specs.Prelude.{ℕ, ◌+◌}
use Rattle.file_cells.specs.declared.status.Status.{Status}

-- all of them together
abbrev pub all : Status → ℕ
all s = s.free + s.prefree + s.opened + s.sealed
