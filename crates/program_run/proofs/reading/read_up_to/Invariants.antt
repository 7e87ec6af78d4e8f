use Rattle.std.proofs.Common.{◌≤◌, length}
use Rattle.std.specs.Io.KnownBytes.{Consumes}
use Rattle.program_run.proofs.reading.read_up_to.Given as goal

abbrev pub invariant-loop-turn : goal.invariant-loop-turn
invariant-loop-turn g l = (length l.read.items ≤ l.most) × Consumes (g.R.Read.remaining l.fn.input) (g.R.Read.remaining l.input) l.read.items
