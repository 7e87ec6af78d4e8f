-- A token in hand is an entry that the shard has taken, so its slot holds the node: slot and account both get the new
-- block, and the one before comes out with its ticket.
use Rattle.std.proofs.Common.{◌/◌, ap, sym, ◌∙◌, arith}
use Rattle.rights_books.proofs.PartRows.{unnoted}
use Rattle.nat.specs.Noted.{shard_row}
use Rattle.nat.proofs.Shards.{own_nodes, read_at, stands_within, not_none, slot_spells, swap_law, lodged_fits, placed_lodged, moved_spells}
use Rattle.nat.proofs.shard.Shard.swap.Goals as goal

pub index_mut-requires : goal.index_mut-requires
index_mut-requires g c =
    let s = c.self.inside in
    let w = stands_within s.nodes s.number s.slots.items s.account c.self.invariant.0 c.args.token.now c.number.result c.number.ensures c.give_block-block.ensures.taken in omega arith

pub unreachable-requires : goal.unreachable-requires
unreachable-requires g c =
    let s = c.self.inside in
    let w = stands_within s.nodes s.number s.slots.items s.account c.self.invariant.0 c.args.token.now c.number.result c.number.ensures c.give_block-block.ensures.taken in
    not_none s.nodes s.number s.slots.items s.account c.self.invariant.0 c.args.token.now c.number.result c.number.ensures c.give_block-block.ensures.taken
    (read_at s.slots.items (c.number.result / 16) c.index_mut.result.now c.index_mut.ensures.value w ∙ c.in-None.is)

pub swap-requires : goal.swap-requires
swap-requires g c =
    let s = c.self.inside in
    let w = stands_within s.nodes s.number s.slots.items s.account c.self.invariant.0 c.args.token.now c.number.result c.number.ensures c.give_block-block.ensures.taken in
    let at = read_at s.slots.items (c.number.result / 16) c.index_mut.result.now c.index_mut.ensures.value w ∙ c.in-Some.is in
    let spells = slot_spells s.nodes s.number s.slots.items s.account c.self.invariant.0 c.args.token.now c.number.result c.number.ensures c.give_block-block.ensures.taken c.in-Some.slot at in
    record { before = lodged_fits c.args.token.now c.give_block-block.result.1 c.in-Some.slot.address c.give_block-block.ensures.before (ap (λ e. e.address) spells) }

pub invariant_of-self : goal.invariant_of-self
invariant_of-self g c =
    let s = c.self.inside in
    let w = stands_within s.nodes s.number s.slots.items s.account c.self.invariant.0 c.args.token.now c.number.result c.number.ensures c.give_block-block.ensures.taken in
    let at = read_at s.slots.items (c.number.result / 16) c.index_mut.result.now c.index_mut.ensures.value w ∙ c.in-Some.is in
    let spells = slot_spells s.nodes s.number s.slots.items s.account c.self.invariant.0 c.args.token.now c.number.result c.number.ensures c.give_block-block.ensures.taken c.in-Some.slot at in (
      swap_law s.nodes s.number s.slots.items s.account c.self.invariant.0 c.args.token.now c.number.result c.number.ensures c.give_block-block.ensures.taken c.in-Some.slot at c.swap.new.self c.give_block-block.new.token c.give_block-block.new.shard
          (moved_spells c.args.token.now c.give_block-block.new.token c.args.ticket.mark.address c.args.ticket.content c.number.result c.in-Some.slot c.swap.new.self _ _ c.give_block-block.ensures.token spells c.swap.ensures.slot c.give_block-block.ensures.address c.give_block-block.ensures.content) c.give_block-block.ensures.shard,
      unnoted c.change.new.self s.row.part (shard_row c.give_block-block.new.shard.taken) c.change.ensures,
    )

pub returns-clause-before : goal.returns-clause-before
returns-clause-before g c =
    let s = c.self.inside in
    let w = stands_within s.nodes s.number s.slots.items s.account c.self.invariant.0 c.args.token.now c.number.result c.number.ensures c.give_block-block.ensures.taken in
    let at = read_at s.slots.items (c.number.result / 16) c.index_mut.result.now c.index_mut.ensures.value w ∙ c.in-Some.is in
    let spells = slot_spells s.nodes s.number s.slots.items s.account c.self.invariant.0 c.args.token.now c.number.result c.number.ensures c.give_block-block.ensures.taken c.in-Some.slot at in
    c.swap.ensures.before ∙ placed_lodged c.args.token.now c.give_block-block.result.1 c.in-Some.slot.bytes c.give_block-block.ensures.before (sym (ap (λ e. e.bytes) spells))

pub returns-clause-own : goal.returns-clause-own
returns-clause-own g c = own_nodes c.self.inside.nodes c.self.inside.number _ c.give_block-block.new.shard (invariant_of-self g c).0
