-- The files of an image over the main blocks (Linux filesystems/f2fs, index structure).
use Rattle.std.specs.Prelude.{ℕ, zero, suc, List, [], ◌∷◌, ◌++◌, map, slice_index, Option, Some, None}
use Rattle.std.specs.List.{filter_map}
use Rattle.std.specs.FinMap.{from_entries}
use Rattle.geometry.specs.declared.shape.Shape.{Shape}
use Rattle.geometry.specs.declared.geometry.Geometry.{Geometry}
use Rattle.geometry.specs.declared.path.Path.{Path}
use Rattle.geometry.specs.declared.path.Path.TheVariants.{Inode, Direct, Indirect, Double}
use Rattle.geometry.specs.Path.{path}
use Rattle.geometry.specs.File.{File, Block}
use Rattle.image.specs.Image.{Image, node_of}
use Rattle.image.specs.Walk.{child, inodes}

-- the address at the end of a path, 0 where an entry on the way is 0
abbrev pub at_end : Image → ℕ → Option Path → ℕ
at_end image inode None = 0
at_end image inode (Some (Inode slot)) = slice_index (node_of image inode).addresses slot
at_end image inode (Some (Direct p slot)) = slice_index (node_of image (child image inode p)).addresses slot
at_end image inode (Some (Indirect p a slot)) =
    slice_index (node_of image (child image (child image inode p) a)).addresses slot
at_end image inode (Some (Double a b slot)) =
    slice_index (node_of image (child image (child image (child image inode 4) a) b)).addresses slot

-- the address of a file's block, 0 for a hole
abbrev pub data_address : Shape → Image → ℕ → ℕ → ℕ
data_address shape image inode index = at_end image inode (path shape index)

-- 0 to n - 1
abbrev pub below : ℕ → List ℕ
below zero = []
below (suc n) = below n ++ n ∷ []

abbrev pub block_at : (ℕ → Block) → ℕ → ℕ → Option (ℕ × Block)
block_at blocks index zero = None
block_at blocks index (suc address) = Some (index, blocks (suc address))

abbrev pub file_of : Shape → Image → (ℕ → Block) → ℕ → File
file_of shape image blocks inode = record {
  kind = (node_of image inode).kind;
  length = (node_of image inode).length;
  blocks = from_entries (filter_map (λ index. block_at blocks index (data_address shape image inode index))
      (below (node_of image inode).length));
}

-- each inode number of the node address table with its file, in ascending order
abbrev pub files : Geometry → Image → (ℕ → Block) → List (ℕ × File)
files geometry image blocks = map (λ inode. (inode, file_of geometry.shape image blocks inode)) (inodes geometry image)
