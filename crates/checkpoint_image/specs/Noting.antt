-- What stays where rows are noted.
use Rattle.std.specs.Prelude.{◌≡◌, ℕ, List, slice_get, Some}
use Rattle.geometry.specs.declared.geometry.Geometry.{Geometry}
use Rattle.sit.specs.Registered.{Registered}
use Rattle.nat.specs.Shard.{ShardNodes}
use Rattle.checkpoint_image.specs.Cells.{IsSegmentAt, IsShardAt}
use Rattle.checkpoint_image.specs.declared.kept_body.KeptBody.{KeptBody}

-- it is of the same volume
abbrev pub KeepsNumbers : KeptBody → KeptBody → Type 0
KeepsNumbers old new = (new.geometry ≡ old.geometry) × (new.rows ≡ old.rows)

-- each of these is the one of its place, under its law
abbrev pub AreSegmentsAt : Geometry → List Registered → Type 0
AreSegmentsAt geometry segments = (k : ℕ) (r : Registered) → slice_get segments k ≡ Some r → IsSegmentAt geometry k r.segment

abbrev pub AreShardsAt : Geometry → List ShardNodes → Type 0
AreShardsAt geometry shards = (k : ℕ) (s : ShardNodes) → slice_get shards k ≡ Some s → IsShardAt geometry k s
