-- A token in hand is an entry that the shard has taken, so its slot holds the node, with the bytes that the token
-- shows; nothing changes.
use Rattle.std.proofs.Common.{◌/◌, length, ap, sym, ◌∙◌, subst, arith}
use Rattle.std.proofs.lemmas.Result.{on_ok_weaker}
use Rattle.rights_books.specs.Accounts.{ShardView}
use Rattle.rights_books.specs.declared.claim.TakenNumber.{TakenNumber}
use Rattle.nat.specs.Shard.{HasOwnNodes}
use Rattle.nat.proofs.Shards.{own_nodes, read_at, stands_within, not_none, slot_spells}
use Rattle.nat.proofs.shard.Shard.read.Goals as goal

pub index_mut-requires : goal.index_mut-requires
index_mut-requires g c =
    let s = c.self.inside in
    let w = stands_within s.nodes s.number s.slots.items s.account c.self.invariant.0 c.args.token.now c.number.result c.number.ensures c.find.ensures.taken in omega arith

pub unreachable-requires : goal.unreachable-requires
unreachable-requires g c =
    let s = c.self.inside in
    let w = stands_within s.nodes s.number s.slots.items s.account c.self.invariant.0 c.args.token.now c.number.result c.number.ensures c.find.ensures.taken in
    not_none s.nodes s.number s.slots.items s.account c.self.invariant.0 c.args.token.now c.number.result c.number.ensures c.find.ensures.taken
    (read_at s.slots.items (c.number.result / 16) c.index_mut.result.now c.index_mut.ensures.value w ∙ c.in-None.is)

pub read-requires : goal.read-requires
read-requires g c =
    let s = c.self.inside in
    let w = stands_within s.nodes s.number s.slots.items s.account c.self.invariant.0 c.args.token.now c.number.result c.number.ensures c.find.ensures.taken in
    let at = read_at s.slots.items (c.number.result / 16) c.index_mut.result.now c.index_mut.ensures.value w ∙ c.in-Some.is in
    let spells = slot_spells s.nodes s.number s.slots.items s.account c.self.invariant.0 c.args.token.now c.number.result c.number.ensures c.find.ensures.taken c.in-Some.slot at in
    c.requires.out ∙ ap (λ (e : TakenNumber). length e.bytes) spells

pub returns-clause-bytes : goal.returns-clause-bytes
returns-clause-bytes g c =
    let s = c.self.inside in
    let w = stands_within s.nodes s.number s.slots.items s.account c.self.invariant.0 c.args.token.now c.number.result c.number.ensures c.find.ensures.taken in
    let at = read_at s.slots.items (c.number.result / 16) c.index_mut.result.now c.index_mut.ensures.value w ∙ c.in-Some.is in
    let spells = slot_spells s.nodes s.number s.slots.items s.account c.self.invariant.0 c.args.token.now c.number.result c.number.ensures c.find.ensures.taken c.in-Some.slot at in
    on_ok_weaker c.read.result (λ bytes. bytes ∙ sym (ap (λ (e : TakenNumber). e.bytes) spells)) c.read.ensures.bytes

pub returns-clause-own : goal.returns-clause-own
returns-clause-own g c =
    let s = c.self.inside in
    subst (λ (a : ShardView). HasOwnNodes (record { book = a.book; shard = s.number; nodes = s.nodes; taken = a.taken; part = s.row.part })) (sym c.find.ensures.kept.0)
    (own_nodes s.nodes s.number s.slots.items s.account c.self.invariant.0)
