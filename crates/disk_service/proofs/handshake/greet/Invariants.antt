use Rattle.std.proofs.Common.{ℕ, List}
use Rattle.std.specs.Io.KnownBytes.{Consumes}
use Rattle.disk_service.proofs.handshake.greet.Given as goal

-- some bytes were read so far
abbrev pub invariant-loop : goal.invariant-loop
invariant-loop g l = (front : List ℕ) × Consumes (g.I.Read.remaining l.fn.input) (g.I.Read.remaining l.input) front
