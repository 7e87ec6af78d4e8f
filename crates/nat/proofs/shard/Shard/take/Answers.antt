-- A number's slot tells whether it is taken, and it is this shard's: where it is clear the account takes the number and
-- the slot the node, so both agree again.
use Rattle.std.proofs.Common.{◌/◌, ap, sym, ◌∙◌, arith}
use Rattle.nat.specs.Slots.{entry_of}
use Rattle.rights_books.proofs.PartRows.{unnoted}
use Rattle.nat.specs.Noted.{shard_row}
use Rattle.nat.proofs.Shards.{has_place, is_taken, is_free, own_nodes, take_law, some_of, none_of, read_at}
use Rattle.nat.proofs.shard.Shard.take.Goals as goal

pub index_mut-slot-requires : goal.index_mut-slot-requires
index_mut-slot-requires g c =
    let s = c.self.inside in
    let p = has_place s.nodes s.number s.slots.items s.account c.self.invariant.0 c.args.self.now c.self.view_is c.args.number c.requires.home c.requires.range.1 in omega arith

pub returns-then-is_some-clause-before : goal.returns-then-is_some-clause-before
returns-then-is_some-clause-before g c =
    let s = c.self.inside in
    let n = c.args.number in
    let within = has_place s.nodes s.number s.slots.items s.account c.self.invariant.0 c.args.self.now c.self.view_is n c.requires.home c.requires.range.1 in
    let some = some_of c.index_mut-slot.result.now (sym c.is_some.ensures ∙ c.if-is_some.true) in
    is_taken s.nodes s.number s.slots.items s.account c.self.invariant.0 c.args.self.now c.self.view_is n c.requires.home some.0
    (read_at s.slots.items (n / 16) c.index_mut-slot.result.now c.index_mut-slot.ensures.value within ∙ some.1)

pub returns-then-is_some-clause-own : goal.returns-then-is_some-clause-own
returns-then-is_some-clause-own g c = own_nodes c.self.inside.nodes c.self.inside.number c.self.inside.slots.items c.self.inside.account c.self.invariant.0

pub returns-clause-before : goal.returns-clause-before
returns-clause-before g c =
    let s = c.self.inside in
    let n = c.args.number in
    let within = has_place s.nodes s.number s.slots.items s.account c.self.invariant.0 c.args.self.now c.self.view_is n c.requires.home c.requires.range.1 in
    is_free s.nodes s.number s.slots.items s.account c.self.invariant.0 c.args.self.now c.self.view_is n c.requires.home
    (read_at s.slots.items (n / 16) c.index_mut-slot.result.now c.index_mut-slot.ensures.value within ∙ none_of c.index_mut-slot.result.now (sym c.is_some.ensures ∙ c.if-is_some.false))

pub invariant_of-self-2 : goal.invariant_of-self-2
invariant_of-self-2 g c =
    let s = c.self.inside in
    let n = c.args.number in
    let within = has_place s.nodes s.number s.slots.items s.account c.self.invariant.0 c.args.self.now c.self.view_is n c.requires.home c.requires.range.1 in
    let clear = read_at s.slots.items (n / 16) c.index_mut-slot.result.now c.index_mut-slot.ensures.value within ∙ none_of c.index_mut-slot.result.now (sym c.is_some.ensures ∙ c.if-is_some.false) in (
      take_law s.nodes s.number s.slots.items s.account c.self.invariant.0 c.args.self.now c.self.view_is n c.requires.home c.new.result c.take-token.new.shard c.take-token.result c.requires.range.0 c.requires.range.1 clear
          (c.take-token.ensures.token ∙ sym (ap (entry_of n) c.new.ensures)) c.take-token.ensures.shard,
      unnoted c.change.new.self s.row.part (shard_row c.take-token.new.shard.taken) c.change.ensures,
    )

pub returns-clause-own : goal.returns-clause-own
returns-clause-own g c =
    own_nodes c.self.inside.nodes c.self.inside.number _ c.take-token.new.shard (invariant_of-self-2 g c).0
