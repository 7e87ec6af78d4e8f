use Rattle.std.proofs.Common.{subst}
use Rattle.sit.specs.NextValid.{IsNextValid}
use Rattle.sit.proofs.ValidLemmas.{next_valid}
use Rattle.sit.proofs.valid.ValidBlocks.next_set.Goals as goal

pub returns : goal.returns
returns c =
    let v = c.self.inside in
    subst (λ ss. IsNextValid ss c.args.from c.next_set.result) c.self.view_is
    (next_valid v.bits v.summaries.items v.count c.self.invariant c.args.from c.next_set.result c.next_set.ensures)
