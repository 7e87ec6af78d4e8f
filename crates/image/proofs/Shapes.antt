-- A node of each class fills a block, in both shapes.
use Rattle.std.proofs.Common.{◌≡◌, refl, ◌+◌, ◌*◌, ◌≤◌, arith}
use Rattle.geometry.specs.declared.shape.Shape.{Shape}
use Rattle.geometry.specs.declared.shape.Shape.TheVariants.{Tiny, Kernel}
use Rattle.geometry.specs.Shape.{block_bytes, inode_head, segment_blocks}
use Rattle.geometry.specs.Path.{node_entries, inode_entries, node_tail}

pub record IsShape (shape : Shape) : Type 0 where
  pub node : block_bytes shape ≡ 4 * node_entries shape + node_tail
  pub inode : block_bytes shape ≡ inode_head shape + 4 * inode_entries shape + 20 + node_tail
  pub head : 5 ≤ inode_head shape
  pub some : 1 ≤ node_entries shape
  pub few : node_entries shape ≤ 1018
  pub fewer : inode_entries shape ≤ node_entries shape
  pub five : 5 ≤ node_entries shape
  pub blocks : 1 ≤ segment_blocks shape

pub is_shape : (shape : Shape) → IsShape shape
is_shape Tiny = record { node = refl; inode = refl; head = omega arith; some = omega arith; few = omega arith; fewer = omega arith; five = omega arith; blocks = omega arith }
is_shape Kernel = record { node = refl; inode = refl; head = omega arith; some = omega arith; few = omega arith; fewer = omega arith; five = omega arith; blocks = omega arith }
