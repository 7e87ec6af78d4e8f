use Rattle.std.proofs.Common.{arith, None, ◌∙◌, sym, refl}
use Rattle.nodes.proofs.changing.TicketChanging.erase.Goals as goal

pub returns-in-Some-clause-change : goal.returns-in-Some-clause-change
returns-in-Some-clause-change g c =
    rw (c.take.ensures.after, sym c.take.ensures.value ∙ c.in-Some.is)
    (λ w. w.ticket c.in-Some.ticket, λ w. refl, ((None, tt, λ w. omega arith), λ no. cc))
