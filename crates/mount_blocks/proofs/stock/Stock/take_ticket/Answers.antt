use Rattle.mount_blocks.proofs.Stocks.{stood}
use Rattle.mount_blocks.proofs.stock.Stock.take_ticket.Goals as goal

pub invariant_of-self : goal.invariant_of-self
invariant_of-self g c = rw c.take.ensures.after (
  λ k x e. c.self.invariant.0 k x (stood c.self.inside.tickets.items c.args.address k x e),
  c.self.invariant.1,
)
