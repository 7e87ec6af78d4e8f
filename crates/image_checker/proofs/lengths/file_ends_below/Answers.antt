-- The inode's own entries and its five places reach ranges of indexes one behind another: so all of the file is below
-- the length where each range is below what is left of it.
use Rattle.std.proofs.Common.{◌≡◌, ◌+◌, ◌-◌, ◌*◌, sym, arith}
use Rattle.geometry.specs.Path.{node_entries, inode_entries}
use Rattle.image.specs.View.{image_view}
use Rattle.image.specs.Walk.{child}
use Rattle.image_checker.proofs.LengthLemmas.{ends_at, own_at}
use Rattle.image_checker.proofs.lengths.file_ends_below.Goals as goal

pub returns-then-not-own_end_below : goal.returns-then-not-own_end_below
returns-then-not-own_end_below c = (
  λ e. absurd cc,
  λ ends.
      let i = image_view c.args.image.now in
      let yes = c.own_end_below.ensures.1 (own_at i c.args.inode c.args.length _ _ (sym c.inode_entries-direct.ensures) ends.own) in
      let no = c.if-not-own_end_below.true in cc,
)

pub returns-then-not-ends_below : goal.returns-then-not-ends_below
returns-then-not-ends_below c = (
  λ e. absurd cc,
  λ ends.
      let l1 : c.saturating_sub-left.result ≡ c.args.length - (inode_entries c.args.geometry.now.shape) = let a = c.saturating_sub-left.ensures in let b = c.from.ensures in let d = c.inode_entries-direct.ensures in omega arith in
      let yes = c.ends_below.ensures.1
      (ends_at (image_view c.args.image.now) (node_entries c.args.geometry.now.shape) 0 (child (image_view c.args.image.now) c.args.inode 0) c.child.result _ c.saturating_sub-left.result (sym c.child.ensures) (sym l1) ends.first) in
      let no = c.if-not-ends_below.true in cc,
)

pub returns-then-not-ends_below-2 : goal.returns-then-not-ends_below-2
returns-then-not-ends_below-2 c = (
  λ e. absurd cc,
  λ ends.
      let l1 : c.saturating_sub-left.result ≡ c.args.length - (inode_entries c.args.geometry.now.shape) = let a = c.saturating_sub-left.ensures in let b = c.from.ensures in let d = c.inode_entries-direct.ensures in omega arith in
      let l2 : c.saturating_sub-left-2.result ≡ c.args.length - (inode_entries c.args.geometry.now.shape + node_entries c.args.geometry.now.shape) = let a = c.saturating_sub-left-2.ensures in let b = c.from-entries.ensures in let d = c.node_entries.ensures in omega arith in
      let yes = c.ends_below-2.ensures.1
      (ends_at (image_view c.args.image.now) (node_entries c.args.geometry.now.shape) 0 (child (image_view c.args.image.now) c.args.inode 1) c.child-2.result _ c.saturating_sub-left-2.result (sym c.child-2.ensures) (sym l2) ends.second) in
      let no = c.if-not-ends_below-2.true in cc,
)

pub returns-then-not-ends_below-3 : goal.returns-then-not-ends_below-3
returns-then-not-ends_below-3 c = (
  λ e. absurd cc,
  λ ends.
      let l1 : c.saturating_sub-left.result ≡ c.args.length - (inode_entries c.args.geometry.now.shape) = let a = c.saturating_sub-left.ensures in let b = c.from.ensures in let d = c.inode_entries-direct.ensures in omega arith in
      let l2 : c.saturating_sub-left-2.result ≡ c.args.length - (inode_entries c.args.geometry.now.shape + node_entries c.args.geometry.now.shape) = let a = c.saturating_sub-left-2.ensures in let b = c.from-entries.ensures in let d = c.node_entries.ensures in omega arith in
      let l3 : c.saturating_sub-left-3.result ≡ c.args.length - (inode_entries c.args.geometry.now.shape + 2 * node_entries c.args.geometry.now.shape) = let a = c.saturating_sub-left-3.ensures in let b = c.from-entries.ensures in let d = c.node_entries.ensures in omega arith in
      let yes = c.ends_below-3.ensures.1
      (ends_at (image_view c.args.image.now) (node_entries c.args.geometry.now.shape) 1 (child (image_view c.args.image.now) c.args.inode 2) c.child-3.result _ c.saturating_sub-left-3.result (sym c.child-3.ensures) (sym l3) ends.third) in
      let no = c.if-not-ends_below-3.true in cc,
)

pub returns-then-not-ends_below-4 : goal.returns-then-not-ends_below-4
returns-then-not-ends_below-4 c = (
  λ e. absurd cc,
  λ ends.
      let l1 : c.saturating_sub-left.result ≡ c.args.length - (inode_entries c.args.geometry.now.shape) = let a = c.saturating_sub-left.ensures in let b = c.from.ensures in let d = c.inode_entries-direct.ensures in omega arith in
      let l2 : c.saturating_sub-left-2.result ≡ c.args.length - (inode_entries c.args.geometry.now.shape + node_entries c.args.geometry.now.shape) = let a = c.saturating_sub-left-2.ensures in let b = c.from-entries.ensures in let d = c.node_entries.ensures in omega arith in
      let l3 : c.saturating_sub-left-3.result ≡ c.args.length - (inode_entries c.args.geometry.now.shape + 2 * node_entries c.args.geometry.now.shape) = let a = c.saturating_sub-left-3.ensures in let b = c.from-entries.ensures in let d = c.node_entries.ensures in omega arith in
      let l4 : c.saturating_sub-left-4.result ≡ c.args.length - (inode_entries c.args.geometry.now.shape + 2 * node_entries c.args.geometry.now.shape + node_entries c.args.geometry.now.shape * node_entries c.args.geometry.now.shape) = let a = c.saturating_sub-left-4.ensures in let b = c.indirect_span-span.ensures.span in omega arith in
      let yes = c.ends_below-4.ensures.1
      (ends_at (image_view c.args.image.now) (node_entries c.args.geometry.now.shape) 1 (child (image_view c.args.image.now) c.args.inode 3) c.child-4.result _ c.saturating_sub-left-4.result (sym c.child-4.ensures) (sym l4) ends.fourth) in
      let no = c.if-not-ends_below-4.true in cc,
)

pub returns : goal.returns
returns c =
    let s = c.args.geometry.now.shape in
    let i = image_view c.args.image.now in
    let l1 : c.saturating_sub-left.result ≡ c.args.length - (inode_entries c.args.geometry.now.shape) = let a = c.saturating_sub-left.ensures in let b = c.from.ensures in let d = c.inode_entries-direct.ensures in omega arith in
    let l2 : c.saturating_sub-left-2.result ≡ c.args.length - (inode_entries c.args.geometry.now.shape + node_entries c.args.geometry.now.shape) = let a = c.saturating_sub-left-2.ensures in let b = c.from-entries.ensures in let d = c.node_entries.ensures in omega arith in
    let l3 : c.saturating_sub-left-3.result ≡ c.args.length - (inode_entries c.args.geometry.now.shape + 2 * node_entries c.args.geometry.now.shape) = let a = c.saturating_sub-left-3.ensures in let b = c.from-entries.ensures in let d = c.node_entries.ensures in omega arith in
    let l4 : c.saturating_sub-left-4.result ≡ c.args.length - (inode_entries c.args.geometry.now.shape + 2 * node_entries c.args.geometry.now.shape + node_entries c.args.geometry.now.shape * node_entries c.args.geometry.now.shape) = let a = c.saturating_sub-left-4.ensures in let b = c.indirect_span-span.ensures.span in omega arith in
    let l5 : c.saturating_sub-left-5.result ≡ c.args.length - (inode_entries c.args.geometry.now.shape + 2 * node_entries c.args.geometry.now.shape + 2 * (node_entries c.args.geometry.now.shape * node_entries c.args.geometry.now.shape)) = let a = c.saturating_sub-left-5.ensures in let b = c.indirect_span-span.ensures.span in omega arith in (
      λ yes. record {
        own = own_at i c.args.inode c.args.length _ _ c.inode_entries-direct.ensures (c.own_end_below.ensures.0 c.if-not-own_end_below.false);
        first = ends_at i (node_entries s) 0 c.child.result (child i c.args.inode 0) c.saturating_sub-left.result _ c.child.ensures l1 (c.ends_below.ensures.0 c.if-not-ends_below.false);
        second = ends_at i (node_entries s) 0 c.child-2.result (child i c.args.inode 1) c.saturating_sub-left-2.result _ c.child-2.ensures l2 (c.ends_below-2.ensures.0 c.if-not-ends_below-2.false);
        third = ends_at i (node_entries s) 1 c.child-3.result (child i c.args.inode 2) c.saturating_sub-left-3.result _ c.child-3.ensures l3 (c.ends_below-3.ensures.0 c.if-not-ends_below-3.false);
        fourth = ends_at i (node_entries s) 1 c.child-4.result (child i c.args.inode 3) c.saturating_sub-left-4.result _ c.child-4.ensures l4 (c.ends_below-4.ensures.0 c.if-not-ends_below-4.false);
        fifth = ends_at i (node_entries s) 2 c.child-5.result (child i c.args.inode 4) c.saturating_sub-left-5.result _ c.child-5.ensures l5 (c.ends_below-5.ensures.0 yes);
      },
      λ ends. c.ends_below-5.ensures.1
          (ends_at i (node_entries s) 2 (child i c.args.inode 4) c.child-5.result _ c.saturating_sub-left-5.result (sym c.child-5.ensures) (sym l5) ends.fifth),
    )
