-- The parts of a pack's body, in their order.
use Rattle.std.specs.Prelude.{◌≡◌, ℕ, ◌+◌, ◌*◌, ◌/◌, List, ◌++◌, length}
use Rattle.geometry.specs.declared.geometry.Geometry.{Geometry}
use Rattle.geometry.specs.Shape.{segment_blocks}
use Rattle.geometry.specs.Area.{block_count}

pub record AreParts (geometry : Geometry) (body head logs table segments summaries : List ℕ) : Type 0 where
  pub joined : body ≡ head ++ logs ++ table ++ segments ++ summaries
  pub head_long : length head ≡ 8
  pub logs_long : length logs ≡ 8 * 6
  pub table_long : length table ≡ 8 * geometry.nodes
  pub segments_long : length segments ≡ geometry.segments * (12 + segment_blocks geometry.shape / 8)
  pub summaries_long : length summaries ≡ 8 * block_count geometry
