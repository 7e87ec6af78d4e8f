use Rattle.std.proofs.Common.{◌≡◌}
use Rattle.rights_permits.proofs.turnstile.Turnstile.receive.Given as goal

abbrev pub invariant-loop : goal.invariant-loop
invariant-loop g l = l.token ≡ l.initial.token
