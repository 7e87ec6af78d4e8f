-- A node below this entry is one below all, so the writer is ready for it; what is written, clean or refused here is so
-- in the whole, and no other entry changes. The entry was marked, so where it is as it was it is counted as it was.
use Rattle.std.proofs.Common.{◌≡◌, ◌↔◌, true, false, None, refl, sym, subst, ◌∙◌, ap}
use Rattle.std.proofs.Math.Seq.{map-set_same}
use Rattle.std.proofs.lemmas.List.{get_or-set_same}
use Rattle.nodes.specs.Tree.{entry_at}
use Rattle.nodes.specs.Change.{each_marked}
use Rattle.nodes.proofs.Changes.{entry_is}
use Rattle.nodes.proofs.TreeResults.{if_ok}
use Rattle.nodes.proofs.Same.{with_slot-same}
use Rattle.nodes_walks.proofs.Results.{if_err}
use Rattle.nodes_walks.proofs.Walks.{among_entries, writes_entry}
use Rattle.nodes_walks.proofs.marked_entries.flush_at.Given as given
use Rattle.nodes_walks.proofs.marked_entries.flush_at.Goals as goal

pub flush_next-found-requires-clause-ready : goal.flush_next-found-requires-clause-ready
flush_next-found-requires-clause-ready g c =
    λ n marked among. c.requires.ready n marked
    (among_entries g.C.Subtree.weight c.args.below.now.slots.items c.args.place c.index_mut.result.now c.requires.at c.index_mut.ensures.value n among)

pub returns-then-not-has_mark-clause-clean : goal.returns-then-not-has_mark-clause-clean
returns-then-not-has_mark-clause-clean g c =
    let is = entry_is c.args.below.now.slots.items c.args.place c.index.result.now c.requires.at c.index.ensures in
    λ _. (λ _. rw is ((c.has_mark.ensures c.args.entries (rw is at c.requires.shaped)).0 c.if-not-has_mark.true), refl, refl)

module _ (g : given.Over) (c : goal.After-recount g) where
  marked_before : (true ≡ false) ↔ (g.C.Subtree.weight each_marked (entry_at c.args.below.now.slots.items c.args.place) ≡ 0)
  marked_before =
      let is = entry_is c.args.below.now.slots.items c.args.place c.index.result.now c.requires.at c.index.ensures in
      let tells : (c.has_mark.result ≡ false) ↔ (g.C.Subtree.weight each_marked (entry_at c.args.below.now.slots.items c.args.place) ≡ 0) =
      rw is (c.has_mark.ensures c.args.entries (rw is at c.requires.shaped)) in
      subst (λ b. (b ≡ false) ↔ (g.C.Subtree.weight each_marked (entry_at c.args.below.now.slots.items c.args.place) ≡ 0)) c.if-not-has_mark.false tells

  unchanged : c.flush_next-found.new.slot ≡ c.index_mut.result.now → c.recount.new.self ≡ c.args.below.now
  unchanged stays =
      let xs = c.args.below.now.slots.items in
      let at = c.args.place in
      let is = entry_is xs at c.index_mut.result.now c.requires.at c.index_mut.ensures.value in
      let here = get_or-set_same xs at c.flush_next-found.new.slot None c.requires.at ∙ stays ∙ sym is in
      let same = with_slot-same c.args.below.now.slots at _ _ stays c.index_mut.ensures.value in
      c.recount.ensures.same c.args.entries (subst (g.C.Subtree.shaped c.args.entries) (sym here) c.requires.shaped)
      (subst (λ s. (true ≡ false) ↔ (g.C.Subtree.weight each_marked s ≡ 0)) (sym here) marked_before)
      ∙ (λ k. record { dirty = c.args.below.now.dirty; slots = same k; marked = c.args.below.now.marked })

pub returns-clause-wrote : goal.returns-clause-wrote
returns-clause-wrote g c =
    if_ok c.flush_next-found.result c.flush_next-found.ensures.wrote (λ found all yes. let one = all yes in (
      one.0,
      one.1,
      rw c.recount.ensures.rest (
          writes_entry g.C.Subtree.weight c.args.below.now.slots.items c.args.place c.index_mut.result.now c.requires.at c.index_mut.ensures.value c.flush_next-found.new.slot one.0 one.1 one.2),
      one.3,
    ))

pub returns-clause-clean : goal.returns-clause-clean
returns-clause-clean g c =
    let is = entry_is c.args.below.now.slots.items c.args.place c.index_mut.result.now c.requires.at c.index_mut.ensures.value in
    if_ok c.flush_next-found.result c.flush_next-found.ensures.clean (λ found all no. let clean = all no in (
      λ front. ap (g.C.Subtree.weight each_marked) is ∙ clean.0 front,
      unchanged g c clean.1,
      clean.2,
    ))

pub returns-clause-refused : goal.returns-clause-refused
returns-clause-refused g c =
    let xs = c.args.below.now.slots.items in
    if_err c.flush_next-found.result c.flush_next-found.ensures.refused (λ e no. (
      unchanged g c no.0,
      no.1,
      no.2,
      among_entries g.C.Subtree.weight xs c.args.place c.index_mut.result.now c.requires.at c.index_mut.ensures.value no.1 no.3,
      no.4,
    ))

pub returns-clause-numbers : goal.returns-clause-numbers
returns-clause-numbers g c =
    let value = c.index_mut.ensures.value in
    rw c.recount.ensures.rest (
    map-set_same g.C.Subtree.number c.args.below.now.slots.items c.args.place c.flush_next-found.new.slot c.index_mut.result.now
    (c.flush_next-found.ensures.number ∙ ap g.C.Subtree.number value))

pub returns-clause-counted : goal.returns-clause-counted
returns-clause-counted g c = λ before.
    rw c.recount.ensures.rest (
    c.recount.ensures.counted c.args.entries c.args.below.now.slots.items c.flush_next-found.new.slot c.flush_next-found.ensures.shaped refl (marked_before g c) before)
