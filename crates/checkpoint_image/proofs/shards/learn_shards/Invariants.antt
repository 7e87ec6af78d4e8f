use Rattle.std.proofs.Common.{◌≡◌, take, map}
use Rattle.geometry.specs.Weights.{weigh}
use Rattle.rights_books.specs.Weights.{shard_copy, past}
use Rattle.checkpoint_image.specs.Learning.{HaveLearnedShards}
use Rattle.checkpoint_image.proofs.shards.learn_shards.Given as goal

abbrev pub invariant-loop-i : goal.invariant-loop-i
invariant-loop-i g l = record {
  same : map g.S.HoldsShard.shown l.shards.items ≡ map g.S.HoldsShard.shown l.initial.shards.items;
  fresh : weigh (shard_copy (past l.i)) l.audit.copies ≡ 0;
  learned : HaveLearnedShards (take l.i (map g.S.HoldsShard.shown l.initial.shards.items)) l.initial.audit l.audit;
}
