use Rattle.std.proofs.Common.{refl, sym}
use Rattle.checkpoint_image.proofs.Rows.{found_entry, found_free}
use Rattle.checkpoint_image.proofs.shard.entry_of.Goals as goal

pub returns-in-Some : goal.returns-in-Some
returns-in-Some g c =
    let number = c.args.number in
    sym (found_entry number _ c.args.shard.now.taken (c.requires.own.nodes.once number) c.in-Some.ensures.2 refl)

pub returns-in-None : goal.returns-in-None
returns-in-None g c = found_free c.args.number c.args.shard.now.taken c.in-None.ensures
