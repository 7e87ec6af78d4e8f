use Rattle.std.proofs.Common.{subst}
use Rattle.volume.specs.Leaving.{IsLeftOut}
use Rattle.volume.proofs.volume.Volume.abandon.Goals as goal

pub returns-in-Some-clause-error : goal.returns-in-Some-clause-error
returns-in-Some-clause-error g c = rw c.of.ensures.error (subst (λ n. IsLeftOut n c.in-Some.error) c.as_slice.ensures.len c.in-Some.ensures.some)
