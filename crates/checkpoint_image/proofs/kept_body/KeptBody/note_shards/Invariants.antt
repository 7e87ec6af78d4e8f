use Rattle.std.proofs.Common.{◌≡◌, ◌<◌, ◌+◌, ℕ, map, length, Some}
use Rattle.std.specs.Prelude.{slice_get}
use Rattle.image.specs.Pack.{body_bytes}
use Rattle.nat.specs.Shard.{ShardNodes}
use Rattle.nat.specs.Noted.{shard_row}
use Rattle.checkpoint_image.specs.Kept.{row_at}
use Rattle.checkpoint_image.specs.Noting.{KeepsNumbers}
use Rattle.checkpoint_image.specs.Touched.{AreTouched}
use Rattle.checkpoint_image.proofs.kept_body.KeptBody.note_shards.Given as goal

abbrev pub invariant-loop-number : goal.invariant-loop-number
invariant-loop-number g l = record {
  same : map g.H.HoldsShard.shown l.shards.items ≡ map g.H.HoldsShard.shown l.fn.shards.items;
  there : 0 < length l.self.body.bytes.items;
  noted : (k : ℕ) (s : ShardNodes) → k < l.number → slice_get (map g.H.HoldsShard.shown l.fn.shards.items) k ≡ Some s → row_at l.self.twins.items (l.fn.self.geometry.segments + k) ≡ shard_row s.taken;
  segments : (k : ℕ) → k < l.fn.self.geometry.segments → row_at l.self.twins.items k ≡ row_at l.fn.self.twins.items k;
  touched : AreTouched (body_bytes l.fn.self.geometry) l.fn.self.body l.self.body;
  numbers : KeepsNumbers l.fn.self l.self;
}
