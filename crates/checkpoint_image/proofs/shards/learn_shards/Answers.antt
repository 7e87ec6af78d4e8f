-- The shards come in ascending order, so nothing is learned yet from the present one on; what is learned weighs what
-- the first shards have, and a turn adds the next.
use Rattle.std.proofs.Common.{rules, ◌≡◌, ℕ, ◌+◌, ◌∷◌, map, refl, sym, ap, ◌∙◌, subst, arith}
use Rattle.geometry.specs.Weights.{weigh}
use Rattle.rights_books.specs.Weights.{shard_copy, past}
use Rattle.rights_books.specs.Accounts.{CensusView}
use Rattle.rights_books.specs.declared.claim.Copied.TheVariants.{ShardCopy}
use Rattle.rights_books.proofs.Learning.{weigh_take_more, past_here, shards_next, no_shards}
use Rattle.nat.specs.Shard.{ShardNodes}
use Rattle.checkpoint_image.proofs.Turning.{looked_at, set_shown}
use Rattle.checkpoint_image.proofs.shards.learn_shards.Goals as goal

pub loop-i-init : goal.loop-i-init
loop-i-init g c = record {
  same = refl;
  fresh = no_shards 0 c.args.audit.now.copies c.requires.none;
  learned = record { book = refl; copies = λ h. omega arith };
}

pub learn-requires-clause-book : goal.learn-requires-clause-book
learn-requires-clause-book g c =
    let here = looked_at g.S.HoldsShard.shown c.loop-i.shards.items c.args.shards.now.items c.loop-i.i c.index_mut.result.now c.loop-i.invariant.same c.index_mut.ensures.value (search rules) in
    (c.requires.shards c.loop-i.i _ here.there).1

pub learn-requires-clause-ascending : goal.learn-requires-clause-ascending
learn-requires-clause-ascending g c =
    let here = looked_at g.S.HoldsShard.shown c.loop-i.shards.items c.args.shards.now.items c.loop-i.i c.index_mut.result.now c.loop-i.invariant.same c.index_mut.ensures.value (search rules) in
    let numbered = c.requires.shards c.loop-i.i _ here.there in
    subst (λ (n : ℕ). weigh (shard_copy (past n)) c.loop-i.audit.copies ≡ 0) (sym numbered.0) c.loop-i.invariant.fresh

pub loop-i-preserved : goal.loop-i-preserved
loop-i-preserved g c =
    let shown = g.S.HoldsShard.shown in
    let xs = c.args.shards.now.items in
    let i = c.loop-i.i in
    let x = c.index_mut.result.now in
    let here = looked_at g.S.HoldsShard.shown c.loop-i.shards.items c.args.shards.now.items c.loop-i.i c.index_mut.result.now c.loop-i.invariant.same c.index_mut.ensures.value (search rules) in
    let numbered = c.requires.shards i (shown x) here.there in
    let copies : c.learn.new.audit.copies ≡ ShardCopy (shown x).shard (shown x).taken ∷ c.loop-i.audit.copies = ap (λ (v : CensusView). v.copies) c.learn.ensures.audit in
    let before = c.loop-i.invariant.learned in
    record {
      same = set_shown shown c.loop-i.shards.items (map shown xs) i x c.learn.new.self c.loop-i.invariant.same c.index_mut.ensures.value c.learn.ensures.same;
      fresh =
          let a = shards_next i c.loop-i.audit.copies c.loop-i.invariant.fresh in
          let b = past_here i (shown x).shard numbered.0 in
          let d = ap (weigh (shard_copy (past (i + 1)))) copies in omega arith;
      learned = record {
        book = ap (λ (v : CensusView). v.book) c.learn.ensures.audit ∙ before.book;
        copies =
            λ h.
            let a = before.copies h in
            let b = weigh_take_more (λ (v : ShardNodes). h (ShardCopy v.shard v.taken)) (map shown xs) i (shown x) here.low here.is in
            let d = ap (weigh h) copies in omega arith;
      };
    }
