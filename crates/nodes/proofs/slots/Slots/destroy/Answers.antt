use Rattle.std.proofs.Common.{arith, ◌≡◌, ◌<◌, ◌++◌, ◌∷◌, None, [], subst, sym, ap, ◌∙◌, length}
use Rattle.std.proofs.Math.Seq.{get_or-append_seam}
use Rattle.nodes.specs.Tree.{entry_at}
use Rattle.nodes.proofs.Padding.{stored-nothing}
use Rattle.nodes.proofs.slots.Slots.destroy.Goals as goal

pub loop-slot-init : goal.loop-slot-init
loop-slot-init g c =
    let inside = c.self.inside in
    let some : 0 < length inside.stored.items = omega (arith, c.self.invariant.0, inside.stored.ok.0) in
    stored-nothing inside.count inside.stored.items some c.self.invariant.3 (λ k. ap (λ s. entry_at s.items k) c.self.view_is ∙ c.requires k)

pub unreachable-requires : goal.unreachable-requires
unreachable-requires g c =
    let last = c.pop.new.self.items in
    let there : entry_at (last ++ c.in-Some.slot ∷ []) (length last) ≡ None = subst (λ xs. entry_at xs (length last) ≡ None) c.in-Some.ensures.items (c.loop-slot.invariant (length last)) in
    let no : c.in-Some.slot ≡ None = sym (get_or-append_seam last c.in-Some.slot [] None) ∙ there in
    cc
