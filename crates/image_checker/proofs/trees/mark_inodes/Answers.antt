use Rattle.std.proofs.Common.{◌≡◌, ◌+◌, [], length, sym, subst, true}
use Rattle.std.specs.Prelude.{filter, replicate}
use Rattle.std.specs.List.{flat_map}
use Rattle.image.specs.Walk.{misfits, walk, is_taken, up_to}
use Rattle.image_checker.specs.Marks.{Walked}
use Rattle.image.specs.View.{image_view}
use Rattle.image.proofs.NameLemmas.{taken_of, not_taken_of}
use Rattle.image_checker.proofs.TreeLemmas.{walked_start, inode_more, inode_no_more, inode_in, all_at}
use Rattle.image_checker.proofs.trees.mark_inodes.Goals.{then-entry-ne0+else-not-mark_walk, else-entry-ne0}
use Rattle.image_checker.proofs.trees.mark_inodes.Goals as goal

pub loop-k-init : goal.loop-k-init
loop-k-init c =
    subst (λ marks. Walked (image_view c.args.image.now) (replicate (length c.args.image.now.nat.items + 1) 0) marks [] []) (sym c.requires.empty)
    (walked_start (image_view c.args.image.now) (length c.args.image.now.nat.items + 1))

pub mark_walk-requires-clause-sound : goal.mark_walk-requires-clause-sound
mark_walk-requires-clause-sound c = c.loop-k.invariant.sound

pub returns-then-not-mark_walk-clause-lost : goal.returns-then-not-mark_walk-clause-lost
returns-then-not-mark_walk-clause-lost c = λ no all.
    let i = image_view c.args.image.now in
    let taken = taken_of i (c.loop-k.k + 1) c.entry.result c.entry.ensures c.if-entry-ne0.true in
    let lost = c.mark_walk.ensures.lost (λ (y : c.mark_walk.result ≡ true). let n = c.if-not-mark_walk.true in cc) in
    lost (all_at (λ inode. misfits i inode ≡ []) _ (c.loop-k.k + 1) all (inode_in i c.args.files c.loop-k.k c.loop-k-test.true taken))

pub loop-k-preserved : goal.loop-k-preserved
loop-k-preserved c =
    let i = image_view c.args.image.now in
    let k = c.loop-k.k in
    elim c.if-entry-ne0.branch [
      | then-entry-ne0+else-not-mark_walk w ↦
          subst (λ marks. Walked i (replicate (length c.args.image.now.nat.items + 1) 0) marks (flat_map (misfits i) (filter (is_taken i) (up_to (k + 1)))) (flat_map (walk i) (filter (is_taken i) (up_to (k + 1))))) (sym w.marks-is)
          (inode_more i k _ c.loop-k.marks _ (taken_of i (k + 1) c.entry.result c.entry.ensures w.if-entry-ne0.true) c.loop-k.invariant
          (w.mark_walk.ensures.walked w.if-not-mark_walk.false))
      | else-entry-ne0 w ↦
          subst (λ marks. Walked i (replicate (length c.args.image.now.nat.items + 1) 0) marks (flat_map (misfits i) (filter (is_taken i) (up_to (k + 1)))) (flat_map (walk i) (filter (is_taken i) (up_to (k + 1))))) (sym w.marks-is)
          (inode_no_more i k _ c.loop-k.marks (not_taken_of i (k + 1) c.entry.result c.entry.ensures w.if-entry-ne0.false) c.loop-k.invariant)
    ]
