use Rattle.std.proofs.Common.{⊎_elim}
use Rattle.area.proofs.Putting.{put_into_reserve, put_into_ordinary, keeps}
use Rattle.area.proofs.slips.put_or_keep.Goals as goal

pub returns-in-Ok-clause-put : goal.returns-in-Ok-clause-put
returns-in-Ok-clause-put g c = ⊎_elim
    (λ put. put_into_reserve c.args.pass.now c.put.new.pass c.args.slip.segment c.args.kept.now.items put)
    (λ put. put_into_ordinary c.args.pass.now c.put.new.pass c.args.slip.segment c.args.kept.now.items put.0)
    c.in-Ok.ensures.put

pub returns-in-Err-clause-put : goal.returns-in-Err-clause-put
returns-in-Err-clause-put g c =
    keeps c.args.pass.now c.put.new.pass c.args.slip c.in-Err.back c.args.kept.now.items c.push_reserved.new.self.items c.in-Err.ensures.unchanged c.in-Err.ensures.back c.push_reserved.ensures.items
