-- A token in hand is an entry that the shard has taken, so its slot holds the node: slot and account lose it together,
-- and the block comes out with the ticket that was lodged.
use Rattle.std.proofs.Common.{◌/◌, ap, sym, ◌∙◌, arith}
use Rattle.rights_books.proofs.PartRows.{unnoted}
use Rattle.nat.specs.Noted.{shard_row}
use Rattle.nat.proofs.Shards.{own_nodes, read_at, stands_within, not_none, slot_spells, give_law, lodged_fits, placed_lodged}
use Rattle.nat.proofs.shard.Shard.give.Goals as goal

pub index_mut-requires : goal.index_mut-requires
index_mut-requires g c =
    let s = c.self.inside in
    let w = stands_within s.nodes s.number s.slots.items s.account c.self.invariant.0 c.args.token c.number.result c.number.ensures c.give-claimed.ensures.taken in omega arith

pub unreachable-requires : goal.unreachable-requires
unreachable-requires g c =
    let s = c.self.inside in
    let w = stands_within s.nodes s.number s.slots.items s.account c.self.invariant.0 c.args.token c.number.result c.number.ensures c.give-claimed.ensures.taken in
    not_none s.nodes s.number s.slots.items s.account c.self.invariant.0 c.args.token c.number.result c.number.ensures c.give-claimed.ensures.taken
    (read_at s.slots.items (c.number.result / 16) c.index_mut.result.now c.index_mut.ensures.value w ∙ (sym c.take.ensures.value ∙ c.in-None.is))

pub into_ticket-requires : goal.into_ticket-requires
into_ticket-requires g c =
    let s = c.self.inside in
    let w = stands_within s.nodes s.number s.slots.items s.account c.self.invariant.0 c.args.token c.number.result c.number.ensures c.give-claimed.ensures.taken in
    let at = read_at s.slots.items (c.number.result / 16) c.index_mut.result.now c.index_mut.ensures.value w ∙ (sym c.take.ensures.value ∙ c.in-Some.is) in
    let spells = slot_spells s.nodes s.number s.slots.items s.account c.self.invariant.0 c.args.token c.number.result c.number.ensures c.give-claimed.ensures.taken c.in-Some.slot at in
    lodged_fits c.args.token c.give-claimed.result c.in-Some.slot.address c.give-claimed.ensures.ticket (ap (λ e. e.address) spells)

pub invariant_of-self : goal.invariant_of-self
invariant_of-self g c =
    let s = c.self.inside in
    let w = stands_within s.nodes s.number s.slots.items s.account c.self.invariant.0 c.args.token c.number.result c.number.ensures c.give-claimed.ensures.taken in
    let at = read_at s.slots.items (c.number.result / 16) c.index_mut.result.now c.index_mut.ensures.value w ∙ (sym c.take.ensures.value ∙ c.in-Some.is) in (
      give_law s.nodes s.number s.slots.items s.account c.self.invariant.0 c.args.token c.number.result c.number.ensures c.give-claimed.ensures.taken c.in-Some.slot at c.take.new.self c.give-claimed.new.shard c.take.ensures.after c.give-claimed.ensures.shard,
      unnoted c.change.new.self s.row.part (shard_row c.give-claimed.new.shard.taken) c.change.ensures,
    )

pub returns-clause-ticket : goal.returns-clause-ticket
returns-clause-ticket g c =
    let s = c.self.inside in
    let w = stands_within s.nodes s.number s.slots.items s.account c.self.invariant.0 c.args.token c.number.result c.number.ensures c.give-claimed.ensures.taken in
    let at = read_at s.slots.items (c.number.result / 16) c.index_mut.result.now c.index_mut.ensures.value w ∙ (sym c.take.ensures.value ∙ c.in-Some.is) in
    let spells = slot_spells s.nodes s.number s.slots.items s.account c.self.invariant.0 c.args.token c.number.result c.number.ensures c.give-claimed.ensures.taken c.in-Some.slot at in
    c.into_ticket.ensures ∙ placed_lodged c.args.token c.give-claimed.result c.in-Some.slot.bytes c.give-claimed.ensures.ticket (sym (ap (λ e. e.bytes) spells))

pub returns-clause-own : goal.returns-clause-own
returns-clause-own g c = own_nodes c.self.inside.nodes c.self.inside.number _ c.give-claimed.new.shard (invariant_of-self g c).0
