use Rattle.std.proofs.Common.{◌≡◌, ◌<◌, ◌↔◌, false, length, None, sym, ap, subst, ◌∙◌}
use Rattle.std.proofs.lemmas.List.{get_or-set_same, length-set}
use Rattle.nodes.specs.Tree.{entry_at}
use Rattle.nodes.specs.Change.{each_marked}
use Rattle.nodes.proofs.Changes.{entry_is}
use Rattle.nodes.proofs.Counting.{recounts}
use Rattle.nodes.proofs.entries.Entries.recount.Goals as goal

pub returns-clause-counted : goal.returns-clause-counted
returns-clause-counted g c = λ e before slot shaped set_at tells counted.
    let xs = c.args.self.now.slots.items in
    let at = c.args.at in
    let long : length xs ≡ length before = ap length set_at ∙ length-set before at slot in
    let inside : at < length before = subst (λ n. at < n) long c.requires.at in
    let here : c.index.result.now ≡ slot = sym (entry_is xs at c.index.result.now c.requires.at c.index.ensures) ∙ ap (λ l. entry_at l at) set_at ∙ get_or-set_same before at slot None inside in
    let is = subst (λ s. (c.has_mark-is.result ≡ false) ↔ (g.C.Subtree.weight each_marked s ≡ 0)) here (c.has_mark-is.ensures e (subst (g.C.Subtree.shaped e) (sym here) shaped)) in
    rw set_at (recounts g.C.Subtree.weight before at slot c.args.was c.has_mark-is.result c.args.self.now.marked c.counted-self.result c.len.result inside
    (c.len.ensures ∙ long) tells is c.counted-self.ensures.step counted)
