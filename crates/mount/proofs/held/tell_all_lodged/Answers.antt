use Rattle.image.specs.View.{image_view}
use Rattle.mount.proofs.Accounted.{all_tickets, all_tokens}
use Rattle.mount.proofs.held.tell_all_lodged.Goals as goal

pub returns-clause-tickets : goal.returns-clause-tickets
returns-clause-tickets g c =
    all_tickets c.args.geometry.now (image_view c.args.image.now) c.requires.lawful c.requires.goods.0 c.args.stock.now.all c.requires.goods.1 c.args.files.now c.requires.files c.requires.all

pub returns-clause-tokens : goal.returns-clause-tokens
returns-clause-tokens g c =
    all_tokens c.args.geometry.now (image_view c.args.image.now) c.requires.lawful c.requires.goods.0 c.args.stock.now.all c.requires.goods.1 c.args.files.now c.requires.files c.requires.all
