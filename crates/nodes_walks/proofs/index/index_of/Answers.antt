use Rattle.std.proofs.Common.{arith}
use Rattle.nodes_walks.proofs.Finding.{named_inside}
use Rattle.nodes_walks.proofs.index.index_of.Goals as goal

pub overflow_cast-result : goal.overflow_cast-result
overflow_cast-result g c =
    let inside = named_inside c.args.file.now c.requires.file c.args.from c.requires.address c.in-Some.index c.in-Some.ensures.there in
    omega arith

pub returns-in-Some-clause-inside : goal.returns-in-Some-clause-inside
returns-in-Some-clause-inside g c =
    named_inside c.args.file.now c.requires.file c.args.from c.requires.address c.in-Some.index c.in-Some.ensures.there
