use Rattle.std.proofs.Common.{None, arith}
use Rattle.rights_books.proofs.PartRows.{unnoted}
use Rattle.nat.specs.Noted.{shard_row}
use Rattle.nat.proofs.Shards.{new_law}
use Rattle.nat.proofs.shard.Shard.new.Goals as goal

pub invariant_of-result : goal.invariant_of-result
invariant_of-result g c =
    let end = c.loop-place.auto in
    let test = c.loop-place-test.false in (
      new_law c.args.nodes c.args.number c.loop-place._place c.loop-place.slots.items c.args.account c.requires.number (omega arith) c.loop-place.invariant.0 c.requires.empty,
      unnoted c.new.result None (shard_row c.args.account.taken) c.new.ensures,
    )
