-- What a walk with marks keeps: each node number has the mark of the level at which it was met, one more than the level.
use Rattle.std.specs.Prelude.{◌≡◌, ◌≢◌, ◌<◌, ◌⊎◌, ◌+◌, ℕ, List, [], length, slice_index, Contains}
use Rattle.geometry.specs.declared.owner.Owner.TheVariants.{Node}
use Rattle.geometry.specs.declared.owner.Mark.{Mark}
use Rattle.image.specs.Image.{Image, entry_of}
use Rattle.image.specs.Walk.{node_name, names_below, misfits_below}

-- each node block among the names has a mark
abbrev pub NodesMarked : List ℕ → List Mark → Type 0
NodesMarked marks ns = (n : Mark) (nid : ℕ) → Contains ns n → n.owner ≡ Node nid → slice_index marks nid ≢ 0

-- where a mark tells a level, all below that place fits and is marked
abbrev pub IsSound : Image → List ℕ → Type 0
IsSound image marks = (k level : ℕ) → level < 3 → slice_index marks k ≡ level + 1
    → (misfits_below image (entry_of image k).inode level k ≡ []) × NodesMarked marks (names_below image (entry_of image k).inode level k)

-- a walk that met no misfit, and marked just the nodes that it named
pub record Walked (image : Image) (old new lost : List ℕ) (ns : List Mark) : Type 0 where
  pub fit : lost ≡ []
  pub sized : length new ≡ length old
  pub kept : (k : ℕ) → slice_index old k ≢ 0 → slice_index new k ≢ 0
  pub marked : NodesMarked new ns
  pub only : (k : ℕ) → slice_index new k ≢ 0 → (slice_index old k ≢ 0) ⊎ Contains ns (node_name image k)
  pub sound : IsSound image new
