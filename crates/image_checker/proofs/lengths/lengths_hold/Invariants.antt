use Rattle.std.proofs.Common.{◌≢◌, ◌<◌, ℕ}
use Rattle.std.specs.Prelude.{All, filter}
use Rattle.image.specs.Files.{data_address}
use Rattle.image.specs.Image.{node_of}
use Rattle.image.specs.View.{image_view}
use Rattle.image.specs.Walk.{is_taken, up_to}
use Rattle.image_checker.proofs.lengths.lengths_hold.Given as goal

abbrev pub invariant-loop-k : goal.invariant-loop-k
invariant-loop-k l = All (λ inode. (index : ℕ) → data_address l.geometry.shape (image_view l.image) inode index ≢ 0
    → index < (node_of (image_view l.image) inode).length) (filter (is_taken (image_view l.image)) (up_to l.k))
