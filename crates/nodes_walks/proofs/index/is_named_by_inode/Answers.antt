use Rattle.nodes_walks.proofs.Finding.{named_inside, named_by_inode}
use Rattle.nodes_walks.proofs.index.is_named_by_inode.Goals as goal

pub returns-clause-inside : goal.returns-clause-inside
returns-clause-inside g c = λ named.
    named_inside c.args.file.now c.requires.file c.args.from c.requires.address c.args.at
    (named_by_inode c.args.file.now c.requires.file c.args.from c.requires.address c.args.at (c.is_named_at.ensures.0 named))

pub returns-clause-there : goal.returns-clause-there
returns-clause-there g c = λ named.
    named_by_inode c.args.file.now c.requires.file c.args.from c.requires.address c.args.at (c.is_named_at.ensures.0 named)
