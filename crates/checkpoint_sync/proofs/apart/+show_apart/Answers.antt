use Rattle.checkpoint_sync.proofs.Turns.{last_apart}
use Rattle.checkpoint_sync.proofs.apart.+show_apart.Goals as goal

pub returns-in-Some-clause-apart : goal.returns-in-Some-clause-apart
returns-in-Some-clause-apart g t c =
    last_apart c.args.logs.now.items c.pop.new.self.items c.show_one_apart.new.others.items c.in-Some.last c.in-Some.ensures.items c.show_one_apart.ensures.same c.show_one_apart.ensures.apart c.show_apart.ensures.apart
