-- An inode's five places are walked in order, each from the marks that the last one left: so the walks join into the
-- inode's, and a misfit below one place is one of the whole.
use Rattle.std.proofs.Common.{◌≡◌, refl, true, arith}
use Rattle.image.specs.View.{image_view}
use Rattle.image_checker.proofs.TreeLemmas.{walked_inode, walked_walk, taken_within, second_lost, third_lost, fourth_lost}
use Rattle.image_checker.proofs.trees.mark_walk.Goals as goal

pub mark_below-requires-clause-sound : goal.mark_below-requires-clause-sound
mark_below-requires-clause-sound c =
    let within = taken_within (image_view c.args.image.now) c.args.inode c.requires.taken in
    (walked_inode (image_view c.args.image.now) c.args.inode 4 c.args.marks.now refl (omega arith) c.requires.sound).sound

pub mark_below-requires-2-clause-sound : goal.mark_below-requires-2-clause-sound
mark_below-requires-2-clause-sound c = (c.mark_below.ensures.walked c.if-not-mark_below.false).sound

pub mark_below-requires-3-clause-sound : goal.mark_below-requires-3-clause-sound
mark_below-requires-3-clause-sound c = (c.mark_below-2.ensures.walked c.if-not-mark_below-2.false).sound

pub mark_below-requires-4-clause-sound : goal.mark_below-requires-4-clause-sound
mark_below-requires-4-clause-sound c = (c.mark_below-3.ensures.walked c.if-not-mark_below-3.false).sound

pub mark_below-requires-5-clause-sound : goal.mark_below-requires-5-clause-sound
mark_below-requires-5-clause-sound c = (c.mark_below-4.ensures.walked c.if-not-mark_below-4.false).sound

pub returns-then-not-mark_below-2-clause-lost : goal.returns-then-not-mark_below-2-clause-lost
returns-then-not-mark_below-2-clause-lost c = λ no.
    let i = image_view c.args.image.now in
    let lost = c.mark_below-2.ensures.lost (λ (y : c.mark_below-2.result ≡ true). let n = c.if-not-mark_below-2.true in cc) in
    second_lost i c.args.inode c.child-2.result c.child-2.ensures lost

pub returns-then-not-mark_below-3-clause-lost : goal.returns-then-not-mark_below-3-clause-lost
returns-then-not-mark_below-3-clause-lost c = λ no.
    let i = image_view c.args.image.now in
    let lost = c.mark_below-3.ensures.lost (λ (y : c.mark_below-3.result ≡ true). let n = c.if-not-mark_below-3.true in cc) in
    third_lost i c.args.inode c.child-3.result c.child-3.ensures lost

pub returns-then-not-mark_below-4-clause-lost : goal.returns-then-not-mark_below-4-clause-lost
returns-then-not-mark_below-4-clause-lost c = λ no.
    let i = image_view c.args.image.now in
    let lost = c.mark_below-4.ensures.lost (λ (y : c.mark_below-4.result ≡ true). let n = c.if-not-mark_below-4.true in cc) in
    fourth_lost i c.args.inode c.child-4.result c.child-4.ensures lost

pub returns-clause-walked : goal.returns-clause-walked
returns-clause-walked c = λ yes.
    let within = taken_within (image_view c.args.image.now) c.args.inode c.requires.taken in
    walked_walk (image_view c.args.image.now) c.args.inode c.child.result c.child-2.result c.child-3.result c.child-4.result c.child-5.result
    c.args.marks.now _ c.mark_below.new.marks c.mark_below-2.new.marks c.mark_below-3.new.marks c.mark_below-4.new.marks _
    c.child.ensures c.child-2.ensures c.child-3.ensures c.child-4.ensures c.child-5.ensures
    (walked_inode (image_view c.args.image.now) c.args.inode 4 c.args.marks.now refl (omega arith) c.requires.sound)
    (c.mark_below.ensures.walked c.if-not-mark_below.false)
    (c.mark_below-2.ensures.walked c.if-not-mark_below-2.false)
    (c.mark_below-3.ensures.walked c.if-not-mark_below-3.false)
    (c.mark_below-4.ensures.walked c.if-not-mark_below-4.false)
    (c.mark_below-5.ensures.walked yes)
