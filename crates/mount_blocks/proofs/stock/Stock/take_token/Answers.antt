use Rattle.mount_blocks.proofs.Stocks.{stood}
use Rattle.mount_blocks.proofs.stock.Stock.take_token.Goals as goal

pub invariant_of-self : goal.invariant_of-self
invariant_of-self g c = rw c.take.ensures.after (
  c.self.invariant.0,
  λ k x e. c.self.invariant.1 k x (stood c.self.inside.tokens.items c.args.number k x e),
)
