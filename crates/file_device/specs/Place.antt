-- Where a block stands in an image file: behind the meta area, in the order of the addresses.
use Rattle.std.specs.Prelude.{ℕ, ◌+◌, ◌*◌, ◌-◌}
use Rattle.geometry.specs.declared.geometry.Geometry.{Geometry}
use Rattle.geometry.specs.Area.{meta_bytes}
use Rattle.geometry.specs.Shape.{block_bytes}

abbrev pub block_place : Geometry → ℕ → ℕ
block_place geometry address = meta_bytes geometry + (address - 1) * block_bytes geometry.shape
