-- The head, the addresses, the children and the tail are written each behind the last, and their lengths sum up to the
-- block's: so the whole is the node's bytes.
use Rattle.std.proofs.Common.{◌≡◌, ℕ, ◌+◌, ◌*◌, ◌≤◌, List, ◌++◌, length, take, sym, ◌∙◌, ap, arith, length-append}
use Rattle.std.proofs.lemmas.List.{length-take-le}
use Rattle.geometry.specs.Shape.{block_bytes}
use Rattle.image.specs.Node.{Node, numbers, head_bytes}
use Rattle.image_codec.specs.Parts.{lent_node}
use Rattle.image.proofs.Shapes.{is_shape}
use Rattle.image.proofs.RoundTrip.{length-numbers}
use Rattle.image_codec.proofs.SpellingLemmas.{node_bytes-parts, length-front_of}
use Rattle.image_codec.proofs.WritingLemmas.{written_parts, inode_start, other_start}
use Rattle.image_codec.proofs.encode.encode_lent.Goals.{in-Inode, in_default}
use Rattle.image_codec.proofs.encode.encode_lent.Goals as goal

pub returns : goal.returns
returns c =
    let shape = c.args.shape in
    let n : Node = lent_node c.args.node.now.nid c.args.node.now.inode c.args.node.now.class c.args.node.now.length c.args.node.now.kind c.args.node.now.addresses.now c.args.node.now.children.now in
    let head = c.match-node.head in
    let out = c.match-node.out in
    let start : take head out ≡ head_bytes shape n n.class = elim c.match-node.branch [
      | in-Inode w ↦
          rw (w.out-is, w.head-is)
          (inode_start shape n c.args.node.now.class w.inode_head-head.result c.args.out.now w.write_head.new.out w.in-Inode.is w.inode_head-head.ensures
          c.requires.len w.write_head.ensures)
      | in_default w ↦ rw (w.head-is) (sym (other_start shape n c.args.node.now.class w.in_default.not-Inode))
    ] in
    let large = is_shape shape in
    let inode = large.inode in
    let within : head ≤ block_bytes shape = elim c.match-node.branch [
      | in-Inode w ↦ omega (arith, w.head-is, w.inode_head-head.ensures)
      | in_default w ↦ omega (arith, w.head-is)
    ] in
    let long : length out ≡ block_bytes shape = omega (arith, c.match-node.auto.out, c.requires.len) in
    let first : length (head_bytes shape n n.class) ≡ head = ap length (sym start) ∙ length-take-le head out (omega arith) in
    let front = length-front_of shape n c.requires.node in
    let joined = length-append (head_bytes shape n n.class ++ numbers n.addresses) (numbers n.children) in
    let joined_first = length-append (head_bytes shape n n.class) (numbers n.addresses) in
    let four = length-numbers n.addresses in
    let four_more = length-numbers n.children in
    let addresses : c.write_u32_into.new.dst ≡ numbers n.addresses = c.write_u32_into.ensures in
    let children : c.write_u32_into-2.new.dst ≡ numbers n.children = c.write_u32_into-2.ensures in
    let before = head + 4 * length n.addresses in
    let tail = before + 4 * length n.children in
    written_parts head before tail out (head_bytes shape n n.class) c.write_u32_into.new.dst c.write_u32_into-2.new.dst c.write_tail.new.out start
    (omega arith) (omega arith) (omega arith) (ap length addresses ∙ omega arith) (ap length children ∙ omega arith)
    ∙ ap (λ (xs : List ℕ). head_bytes shape n n.class ++ xs ++ c.write_u32_into-2.new.dst ++ c.write_tail.new.out) addresses
    ∙ ap (λ (ys : List ℕ). head_bytes shape n n.class ++ numbers n.addresses ++ ys ++ c.write_tail.new.out) children
    ∙ ap (λ (zs : List ℕ). head_bytes shape n n.class ++ numbers n.addresses ++ numbers n.children ++ zs) c.write_tail.ensures
    ∙ sym (node_bytes-parts shape n)
