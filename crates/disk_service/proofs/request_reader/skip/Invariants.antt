use Rattle.std.proofs.Common.{ℕ, List}
use Rattle.std.specs.Io.KnownBytes.{Consumes}
use Rattle.disk_service.proofs.request_reader.skip.Given as goal

-- some bytes were read so far
abbrev pub invariant-skipped : goal.invariant-skipped
invariant-skipped g l = (bytes : List ℕ) × Consumes (g.I.Read.remaining l.fn.input) (g.I.Read.remaining l.input) bytes

abbrev pub decreases-skipped : goal.decreases-skipped
decreases-skipped g l = l.left
