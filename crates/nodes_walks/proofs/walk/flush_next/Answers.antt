use Rattle.nodes_walks.proofs.Keeping.{kept_unmarked, kept_same}
use Rattle.nodes_walks.proofs.walk.flush_next.Goals as goal

pub returns-in-Ok-clause-kept : goal.returns-in-Ok-clause-kept
returns-in-Ok-clause-kept g c =
    let done = c.in-Ok.ensures in rw done.clean (kept_unmarked c.args.file.now c.requires.file c.write_inode.new.file.token done.number)

pub returns-in-Err-clause-kept : goal.returns-in-Err-clause-kept
returns-in-Err-clause-kept g c = kept_same c.args.file.now c.requires.file c.write_inode.new.file c.in-Err.ensures.same
