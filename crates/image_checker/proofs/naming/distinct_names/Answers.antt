-- Each taken inode's walk is added behind those before it; where one can't be, an address is named twice whatever the
-- later ones name, and otherwise all names are there at the end.
use Rattle.std.proofs.Common.{◌≡◌, ◌++◌, ◌+◌, ◌∙◌, sym, ap, length, arith}
use Rattle.std.specs.Prelude.{filter}
use Rattle.std.specs.List.{flat_map}
use Rattle.image.specs.View.{image_view}
use Rattle.image.specs.Walk.{walk, is_taken, up_to}
use Rattle.image.proofs.NameLemmas.{inodes_more, inodes_more_none, taken_of, not_taken_of}
use Rattle.image_checker.specs.declared.naming.NamesWithAddresses.{NamesWithAddresses}
use Rattle.image_checker.proofs.NamedLemmas.{inode_stop, added_then}
use Rattle.image_checker.proofs.RoomLemmas.{has_room}
use Rattle.image_checker.proofs.naming.distinct_names.Goals.{then-entry-ne0+in_ok-more+else-not-more, else-entry-ne0}
use Rattle.image_checker.proofs.naming.distinct_names.Goals as goal

pub push_walk-requires : goal.push_walk-requires
push_walk-requires c = record {
  room = has_room c.args.geometry.now (image_view c.args.image.now) (length c.loop-k.named.map.items) c.requires.sized c.loop-k.invariant.sized;
}

pub returns-then-not-more : goal.returns-then-not-more
returns-then-not-more c =
    let i = image_view c.args.image.now in
    inode_stop i c.args.geometry.now.files c.loop-k.k c.in_ok-more.more c.loop-k.named.names.items _ c.loop-k-test.true
    (taken_of i (c.loop-k.k + 1) c.entry.result c.entry.ensures c.if-entry-ne0.true) c.if-not-more.true c.loop-k.invariant.so_far c.in_ok-more.ensures.added

pub loop-k-preserved : goal.loop-k-preserved
loop-k-preserved c =
    let i = image_view c.args.image.now in
    elim c.if-entry-ne0.branch [
      | then-entry-ne0+in_ok-more+else-not-more w ↦ record {
        so_far = ap (λ (v : NamesWithAddresses). v.names.items) w.named-is
            ∙ added_then w.in_ok-more.more c.loop-k.named.names.items (walk i (c.loop-k.k + 1)) _ w.if-not-more.false w.in_ok-more.ensures.added
            ∙ ap (λ ns. ns ++ walk i (c.loop-k.k + 1)) c.loop-k.invariant.so_far
            ∙ sym (inodes_more i c.loop-k.k (taken_of i (c.loop-k.k + 1) c.entry.result c.entry.ensures w.if-entry-ne0.true));
        sized = ap (λ (v : NamesWithAddresses). length v.map.items) w.named-is ∙ w.in_ok-more.ensures.sized ∙ c.loop-k.invariant.sized;
      }
      | else-entry-ne0 w ↦ record {
        so_far = ap (λ (v : NamesWithAddresses). v.names.items) w.named-is ∙ c.loop-k.invariant.so_far
            ∙ sym (inodes_more_none i c.loop-k.k (not_taken_of i (c.loop-k.k + 1) c.entry.result c.entry.ensures w.if-entry-ne0.false));
        sized = ap (λ (v : NamesWithAddresses). length v.map.items) w.named-is ∙ c.loop-k.invariant.sized;
      }
    ]

pub returns : goal.returns
returns c =
    let i = image_view c.args.image.now in
    let whole : c.loop-k.k ≡ c.args.geometry.now.files = omega arith in
    (c.loop-k.invariant.so_far ∙ ap (λ n. flat_map (walk i) (filter (is_taken i) (up_to n))) whole, c.loop-k.invariant.sized)
