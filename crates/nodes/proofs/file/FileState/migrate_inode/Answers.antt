use Rattle.nodes.specs.Places.{OfTickets}
use Rattle.nodes.proofs.Placing.{swapped}
use Rattle.nodes.proofs.file.FileState.migrate_inode.Goals as goal

pub returns-in-Ok-clause-swaps : goal.returns-in-Ok-clause-swaps
returns-in-Ok-clause-swaps g c =
    let done = c.in-Ok.ensures in
    swapped c.args.self.now c.requires.file OfTickets c.swap.new.self (rw c.inode_entries-slots.ensures at done.shaped) c.in-Ok.before c.args.ticket done.swaps done.namer done.useful done.change
