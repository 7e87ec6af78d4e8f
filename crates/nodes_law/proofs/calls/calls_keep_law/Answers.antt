use Rattle.nodes_law.proofs.Lasting.{law_new, law_put, law_migrate, law_cut, law_resized, law_plant, own_planted, own_prepared}
use Rattle.nodes_law.proofs.Keeping.{spells_written}
use Rattle.nodes_law.proofs.calls.calls_keep_law.Goals as goal

pub returns-clause-start : goal.returns-clause-start
returns-clause-start g c = λ files bare marked is. law_new files c.args.new.now bare marked is

pub returns-clause-put : goal.returns-clause-put
returns-clause-put g c = λ files index before ticket law some change. law_put files c.args.old.now c.args.new.now law c.requires.shape index before ticket change some

pub returns-clause-migrate : goal.returns-clause-migrate
returns-clause-migrate g c = λ files before ticket law some change. law_migrate files c.args.old.now c.args.new.now law c.requires.shape before ticket change some

pub returns-clause-cut : goal.returns-clause-cut
returns-clause-cut g c = λ files spare out law is change. law_cut files c.args.old.now c.args.new.now law c.requires.shape spare out is change

pub returns-clause-end : goal.returns-clause-end
returns-clause-end g c = λ files length law same inode token. law_resized files c.args.old.now c.args.new.now law c.requires.shape length same inode token

pub returns-clause-plant : goal.returns-clause-plant
returns-clause-plant g c = λ files n law own fresh spares change.
    law_plant files c.args.old.now c.args.new.now law c.requires.shape c.args.had.now c.args.has.now own n fresh spares change

pub returns-clause-planted : goal.returns-clause-planted
returns-clause-planted g c = λ files n own spares. own_planted files c.args.old.now.shape c.args.old.now.token.number c.args.had.now c.args.has.now own n spares

pub returns-clause-prepare : goal.returns-clause-prepare
returns-clause-prepare g c = λ files token own all is high.
    own_prepared files c.args.old.now.shape c.args.old.now.token.number c.args.had.now c.args.has.now token own all is high

pub returns-clause-write : goal.returns-clause-write
returns-clause-write g c = λ n token one written number spelled.
    spells_written c.args.old.now c.args.new.now n token one written c.requires.shape number spelled
