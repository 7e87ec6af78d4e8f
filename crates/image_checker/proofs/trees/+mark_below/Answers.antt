-- A node is marked only after all below it was walked, so one that is met again with its mark needs no second walk; a
-- child that does not fit is a misfit of the whole.
use Rattle.std.proofs.Common.{◌≡◌, ◌≢◌, ◌-◌, [], sym, ◌∙◌, ap, subst, true, length, get_or, arith}
use Rattle.std.specs.List.{flat_map}
use Rattle.std.proofs.lemmas.List.{take_all}
use Rattle.image.specs.Walk.{fits, names_below, misfits_below}
use Rattle.image_checker.specs.Marks.{Walked}
use Rattle.image.specs.View.{image_view}
use Rattle.image_checker.proofs.TreeLemmas.{walked_before, walked_direct, walked_children, child_lost, children_more, taken_within, fits_taken}
use Rattle.image_checker.proofs.trees.+mark_below.Goals as goal

pub returns-then-marks-nid-clause-walked : goal.returns-then-marks-nid-clause-walked
returns-then-marks-nid-clause-walked t c = λ yes.
    walked_before (image_view c.args.image.now) c.args.inode c.args.level c.args.nid c.args.marks.now c.requires.low
    (sym c.fits.ensures ∙ c.if-not-fits.false) c.if-marks-nid.true c.requires.sound

pub returns-then-level-eq0-clause-walked : goal.returns-then-level-eq0-clause-walked
returns-then-level-eq0-clause-walked t c = λ yes.
    let fit : fits (image_view c.args.image.now) c.args.inode c.args.level c.args.nid ≡ true = sym c.fits.ensures ∙ c.if-not-fits.false in
    let within = taken_within (image_view c.args.image.now) c.args.nid (fits_taken (image_view c.args.image.now) c.args.inode c.args.level c.args.nid fit) in
    walked_direct (image_view c.args.image.now) c.args.inode c.args.level c.args.nid c.args.marks.now
    c.if-level-eq0.true c.if-nid-eq0.false fit (omega arith) c.requires.sound

pub returns-then-not-mark_below-clause-lost : goal.returns-then-not-mark_below-clause-lost
returns-then-not-mark_below-clause-lost t c = λ no.
    let items_are = c.loop-child.invariant.children in
    let lost = c.mark_below.ensures.lost (λ (y : c.mark_below.result ≡ true). let n = c.if-not-mark_below.true in cc) in
    child_lost (image_view c.args.image.now) c.args.inode c.args.level c.args.nid c.loop-child.child-index 0 c.loop-child.invariant.deep
    c.if-nid-eq0.false c.loop-child.invariant.fit
    (let e = ap length items_are in omega arith)
    (subst (λ xs. misfits_below (image_view c.args.image.now) c.args.inode (c.args.level - 1) (get_or xs c.loop-child.child-index 0) ≢ []) items_are lost)

pub loop-child-preserved : goal.loop-child-preserved
loop-child-preserved t c = record {
  so_far = children_more (image_view c.args.image.now) c.args.inode (c.args.level - 1) c.deref-child-items.result.now c.loop-child.child-index 0
      c.args.marks.now c.loop-child.marks c.mark_below.new.marks c.loop-child-test.true c.loop-child.invariant.so_far
      (c.mark_below.ensures.walked c.if-not-mark_below.false);
  children = c.loop-child.invariant.children;
  fit = c.loop-child.invariant.fit;
  deep = c.loop-child.invariant.deep;
}

pub returns-after-loop-child-clause-walked : goal.returns-after-loop-child-clause-walked
returns-after-loop-child-clause-walked t c = λ yes.
    let fit = c.loop-child.invariant.fit in
    let within = taken_within (image_view c.args.image.now) c.args.nid (fits_taken (image_view c.args.image.now) c.args.inode c.args.level c.args.nid fit) in
    let so_far = c.loop-child.invariant.so_far in
    let size : length c.loop-child.marks ≡ length c.args.marks.now = so_far.sized in
    let whole = take_all c.loop-child.child-index c.deref-child-items.result.now c.loop-child-test.false ∙ c.loop-child.invariant.children in
    walked_children (image_view c.args.image.now) c.args.inode c.args.level c.args.nid c.args.marks.now c.loop-child.marks
    c.loop-child.invariant.deep c.if-nid-eq0.false fit (omega arith)
    (subst (λ xs. Walked (image_view c.args.image.now) c.args.marks.now c.loop-child.marks
    (flat_map (misfits_below (image_view c.args.image.now) c.args.inode (c.args.level - 1)) xs)
    (flat_map (names_below (image_view c.args.image.now) c.args.inode (c.args.level - 1)) xs)) whole so_far)
