use Rattle.program_run.proofs.remounting.seen_law.Goals as goal

pub returns : goal.returns
returns g c = g.met.M.Meta.seen_is_left
