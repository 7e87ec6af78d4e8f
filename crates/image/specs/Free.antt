-- The segments that a mount finds free: no block of theirs is valid, and no log appends to them (Linux filesystems/f2fs, free segments).
use Rattle.std.specs.Prelude.{ℕ, Bool, false, not, ◌&&◌, ◌==◌, Option, Some, None, count_by}
use Rattle.std.specs.List.{list_any}
use Rattle.geometry.specs.declared.geometry.Geometry.{Geometry}
use Rattle.image.specs.declared.image.LogHead.{LogHead}
use Rattle.image.specs.Image.{Image, info_of}
use Rattle.image.specs.Files.{below}

abbrev pub stands_in : ℕ → Option LogHead → Bool
stands_in segment None = false
stands_in segment (Some place) = place.segment == segment

abbrev pub is_free : Image → ℕ → Bool
is_free image segment = ((info_of image segment).count == 0) && not (list_any (stands_in segment) image.logs)

-- how many segments are free
abbrev pub free_count : Geometry → Image → ℕ
free_count geometry image = count_by (is_free image) (below geometry.segments)
