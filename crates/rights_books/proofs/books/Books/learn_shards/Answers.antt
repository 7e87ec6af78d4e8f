-- Accounts come in ascending order, so no shard from the present one on was learned; what the audit has is what the
-- first shards have, and a turn adds the next.
use Rattle.std.proofs.Common.{rules, ◌≡◌, ℕ, ◌+◌, ◌<◌, ◌∷◌, slice_set, length, refl, sym, ap, ◌∙◌, subst, arith}
use Rattle.std.proofs.lemmas.List.{set-get_or}
use Rattle.geometry.specs.Weights.{weigh}
use Rattle.rights_books.specs.Weights.{shard_copy, past}
use Rattle.rights_books.specs.Accounts.{ShardView, CensusView}
use Rattle.rights_books.specs.declared.claim.Copied.TheVariants.{ShardCopy}
use Rattle.rights_books.proofs.Learning.{borrowed_at, weigh_take_more, past_here, shards_next, no_shards}
use Rattle.rights_books.proofs.books.Books.learn_shards.Goals as goal

pub loop-i-init : goal.loop-i-init
loop-i-init c = record {
  book = refl;
  same = refl;
  fresh = no_shards 0 c.args.audit.now.copies c.requires.none;
  copies = λ h. omega arith;
}

pub learn_shard-requires-clause-ascending : goal.learn_shard-requires-clause-ascending
learn_shard-requires-clause-ascending c =
    let x = c.index_mut.result.now in
    let here = borrowed_at c.args.shards.now.items c.loop-i.shards.items c.loop-i.i x c.loop-i.invariant.same c.index_mut.ensures.value (search rules) in
    let numbered = c.requires.shards c.loop-i.i x here.1 in
    subst (λ (n : ℕ). weigh (shard_copy (past n)) c.loop-i.audit.copies ≡ 0) (sym numbered.0) c.loop-i.invariant.fresh

pub loop-i-preserved : goal.loop-i-preserved
loop-i-preserved c =
    let i = c.loop-i.i in
    let x = c.index_mut.result.now in
    let xs = c.args.shards.now.items in
    let within : i < length xs = search rules in
    let here = borrowed_at xs c.loop-i.shards.items i x c.loop-i.invariant.same c.index_mut.ensures.value within in
    let numbered = c.requires.shards i x here.1 in
    let copies : c.learn_shard.new.audit.copies ≡ ShardCopy x.shard x.taken ∷ c.loop-i.audit.copies = ap (λ (v : CensusView). v.copies) c.learn_shard.ensures.audit in
    record {
      book = ap (λ (v : CensusView). v.book) c.learn_shard.ensures.audit ∙ c.loop-i.invariant.book;
      same =
          ap (λ (y : ShardView). slice_set c.loop-i.shards.items i y) (c.learn_shard.ensures.shard ∙ c.index_mut.ensures.value)
          ∙ (set-get_or c.loop-i.shards.items i x ∙ c.loop-i.invariant.same);
      fresh =
          let a = shards_next c.loop-i.i c.loop-i.audit.copies c.loop-i.invariant.fresh in
          let b = past_here c.loop-i.i x.shard numbered.0 in
          let d = ap (weigh (shard_copy (past (c.loop-i.i + 1)))) copies in omega arith;
      copies =
          λ h.
          let a = c.loop-i.invariant.copies h in
          let b = weigh_take_more (λ v. h (ShardCopy v.shard v.taken)) xs i x within here.0 in
          let d = ap (weigh h) copies in omega arith;
    }
