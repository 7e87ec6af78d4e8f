use Rattle.checkpoint_image.proofs.RowPlaces.{is_put}
use Rattle.checkpoint_image.proofs.placing.put_row.Goals as goal

pub returns-clause-put : goal.returns-clause-put
returns-clause-put c = is_put c.args.base c.args.number c.args.row.now c.args.body.now.bytes.items c.put.new.self.bytes.items c.requires.within c.put.ensures.bytes
