-- The token gives the number, and the block's fields fit theirs because the node is writable: so the node that is lent
-- is the marked one, and its bytes spell it.
use Rattle.std.proofs.Common.{ℕ, ◌<◌, ◌^◌, ◌∙◌, arith}
use Rattle.std.specs.Prelude.{All}
use Rattle.geometry.specs.declared.shape.Shape.{Shape}
use Rattle.image.specs.Node.{node_bytes, IsNode}
use Rattle.geometry.specs.Class.{class_code}
use Rattle.nodes.specs.Change.{TreeNode}
use Rattle.nodes_law.specs.Nodes.{node_in}
use Rattle.file_flush.specs.Written.{IsWritable}
use Rattle.file_flush.proofs.node.spell_node.Goals as goal

has_spelling : (shape : Shape) (inode : ℕ) (n : TreeNode) → IsWritable shape inode n → n.token.number < 2 ^ 32 → inode < 2 ^ 32 → n.length < 2 ^ 32
    → All (λ a. a < 2 ^ 32) n.addresses → All (λ k. k < 2 ^ 32) n.children → IsNode shape (node_in inode n)
has_spelling shape inode n need nid_fits inode_fits length_fits addresses children = record {
  nid = (need.nid, nid_fits);
  inode = (need.inode_is, inode_fits);
  class = need.class;
  length = length_fits;
  entries = need.entries;
  addresses = addresses;
  children = children;
  plain = need.plain;
}

pub encode_lent-requires-clause-node : goal.encode_lent-requires-clause-node
encode_lent-requires-clause-node c =
    rw c.number.ensures (has_spelling c.args.shape c.args.inode _ c.requires.node (omega arith) (omega arith) (omega arith) c.all_fit.ensures c.all_fit-2.ensures)

pub returns : goal.returns
returns c =
    let number = c.number.ensures in (
      has_spelling c.args.shape c.args.inode _ c.requires.node (omega arith) (omega arith) (omega arith) c.all_fit.ensures c.all_fit-2.ensures,
      c.encode_lent.ensures ∙ (λ i. node_bytes c.args.shape (record {
        nid = number i;
        inode = c.args.inode;
        class = class_code c.args.block.now.class;
        length = c.args.block.now.length;
        kind = c.args.block.now.kind;
        addresses = c.args.block.now.addresses.now;
        children = c.args.block.now.children.now;
      })),
    )
