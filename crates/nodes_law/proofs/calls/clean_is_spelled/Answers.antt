use Rattle.nodes_law.proofs.Listing.{unmarked_each, written_where_clean}
use Rattle.nodes_law.proofs.calls.clean_is_spelled.Goals as goal

pub returns-clause-spelled : goal.returns-clause-spelled
returns-clause-spelled g c = λ n m. c.requires.law n m (unmarked_each c.args.file.now c.requires.clean n m)

pub returns-clause-written : goal.returns-clause-written
returns-clause-written g c = written_where_clean c.args.file.now c.requires.law c.requires.clean
