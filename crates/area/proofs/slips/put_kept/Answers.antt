-- A turn takes one slip away and keeps it again or puts it, so there are slips enough for the turns that are left; what
-- the turns have put adds up.
use Rattle.std.proofs.Common.{◌≡◌, ◌+◌, ◌<◌, [], length, refl, ◌∙◌, arith}
use Rattle.area.proofs.Putting.{put_none, put_both, put_again, first_slip, other_slips, more_slips, as_many}
use Rattle.area.proofs.slips.put_kept.Goals as goal

pub loop-turn-init : goal.loop-turn-init
loop-turn-init g c = record {
  put = put_none c.args.pass.now c.args.kept.now.items;
  slips = c.requires.kept;
  capacity = refl;
  left = omega arith;
}

pub remove-slip-requires : goal.remove-slip-requires
remove-slip-requires g c = let left = c.loop-turn.invariant.left in omega arith

pub put_or_keep-requires-clause-words : goal.put_or_keep-requires-clause-words
put_or_keep-requires-clause-words g c =
    let left = c.loop-turn.invariant.left in
    let long = c.loop-turn.kept.ok in
    let some : 0 < length c.loop-turn.kept.items = omega arith in
    (first_slip g.W.WordsName.words c.args.segments c.loop-turn.kept.items c.remove-slip.result c.loop-turn.invariant.slips some c.remove-slip.ensures.value).0

pub loop-turn-preserved : goal.loop-turn-preserved
loop-turn-preserved g c =
    let table = g.W.WordsName.words in
    let old = c.loop-turn.kept.items in
    let rest = c.remove-slip.new.self.items in
    let slip = c.remove-slip.result in
    let left = c.loop-turn.invariant.left in
    let long = c.loop-turn.kept.ok in
    let some : 0 < length old = omega arith in
    let one = first_slip table c.args.segments old slip c.loop-turn.invariant.slips some c.remove-slip.ensures.value in
    let others = other_slips table c.args.segments old rest c.remove-slip.ensures.items c.loop-turn.invariant.slips in
    let less = c.remove-slip.ensures.len in
    let fewer : length rest + 1 ≡ length old = omega arith in
    record {
      put = put_both [] [] c.args.pass.now c.loop-turn.pass c.put_or_keep.new.pass c.args.kept.now.items old c.put_or_keep.new.kept.items c.loop-turn.invariant.put
          (put_again c.loop-turn.pass c.put_or_keep.new.pass old rest c.put_or_keep.new.kept.items slip some c.remove-slip.ensures.value c.remove-slip.ensures.items c.put_or_keep.ensures.put);
      slips = more_slips table c.args.segments rest c.put_or_keep.new.kept.items slip others one.0 one.1 c.put_or_keep.ensures.kept;
      capacity = c.put_or_keep.ensures.capacity ∙ (c.remove-slip.ensures.capacity ∙ c.loop-turn.invariant.capacity);
      left =
          let many = as_many old rest c.put_or_keep.new.kept.items slip fewer c.put_or_keep.ensures.kept in
          let there = c.put_or_keep.new.kept.ok in omega arith;
    }
