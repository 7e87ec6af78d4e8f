use Rattle.std.proofs.Common.{◌/◌, Some, None, subst, sym, ◌∙◌, arith}
use Rattle.std.proofs.lemmas.List.{get_or_past}
use Rattle.nat.specs.Taken.{IsLocated}
use Rattle.nat.proofs.Shards.{is_free, is_located, read_at}
use Rattle.nat.proofs.shard.Shard.locate.Goals as goal

pub returns-then-place-len : goal.returns-then-place-len
returns-then-place-len g c =
    let s = c.self.inside in
    let past = c.if-place-len.true in
    let len = c.len.ensures in
    is_free s.nodes s.number s.slots.items s.account c.self.invariant.0 c.args.self.now c.self.view_is c.args.number c.requires.home
    (get_or_past s.slots.items (c.args.number / 16) None (omega arith))

pub returns-in-Some : goal.returns-in-Some
returns-in-Some g c =
    let s = c.self.inside in
    let few = c.if-place-len.false in
    let len = c.len.ensures in
    let at = read_at s.slots.items (c.args.number / 16) c.index.result.now c.index.ensures (omega arith) ∙ c.in-Some.is in
    subst (λ i. IsLocated c.args.number c.args.self.now.taken (Some (i, c.address.result))) (sym c.inode.ensures)
    (subst (λ a. IsLocated c.args.number c.args.self.now.taken (Some (c.in-Some.slot.inode, a))) (sym c.address.ensures)
    (is_located s.nodes s.number s.slots.items s.account c.self.invariant.0 c.args.self.now c.self.view_is c.args.number c.requires.home c.in-Some.slot at))

pub returns-in-None : goal.returns-in-None
returns-in-None g c =
    let s = c.self.inside in
    let few = c.if-place-len.false in
    let len = c.len.ensures in
    is_free s.nodes s.number s.slots.items s.account c.self.invariant.0 c.args.self.now c.self.view_is c.args.number c.requires.home
    (read_at s.slots.items (c.args.number / 16) c.index.result.now c.index.ensures (omega arith) ∙ c.in-None.is)
