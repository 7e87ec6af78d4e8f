-- A block's length and its tail decide whether it may spell a node, and of which class; the rest decides by that class,
-- so in each case the answer is what a reader of an image finds.
use Rattle.std.proofs.Common.{◌≡◌, ℕ, ◌+◌, ◌-◌, List, ◌++◌, length, drop, take, sym, ◌∙◌, ap, subst, arith}
use Rattle.std.specs.Prelude.{IfOk, IfSome, IfNone}
use Rattle.std.proofs.lemmas.List.{length-take, take-append-drop}
use Rattle.std.proofs.lemmas.Result.{IfOk-weaker}
use Rattle.geometry.specs.Shape.{block_bytes}
use Rattle.image.proofs.Shapes.{is_shape}
use Rattle.image.specs.Node.{Spells}
use Rattle.image.specs.Reading.{read_node}
use Rattle.image.specs.View.{node_view, node_or_none}
use Rattle.image_codec.specs.Parts.{IsDecoded, SpellsNone, tail_of}
use Rattle.image_codec.proofs.SpellingLemmas.{none_of_other_length, none_of_tail}
use Rattle.image_codec.proofs.ReadingLemmas.{read_node-none, read_node-decoded, spells_decoded, none_decoded}
use Rattle.image_codec.proofs.decode.decode_node.Goals as goal

pub returns-then-block-block_bytes-clause-none : goal.returns-then-block-block_bytes-clause-none
returns-then-block-block_bytes-clause-none c =
    none_of_other_length c.args.shape c.args.block.now (λ e. c.if-block-block_bytes.true (e ∙ sym c.block_bytes.ensures))

pub returns-then-block-block_bytes-clause-read : goal.returns-then-block-block_bytes-clause-read
returns-then-block-block_bytes-clause-read c =
    sym (read_node-none c.args.shape c.args.block.now (λ k. omega (arith, c.type_inv.block k))
    (none_of_other_length c.args.shape c.args.block.now (λ e. c.if-block-block_bytes.true (e ∙ sym c.block_bytes.ensures))))

pub returns-in-Some : goal.returns-in-Some
returns-in-Some c =
    let shape = c.args.shape in
    let block = c.args.block.now in
    let r = c.decode_front.result in
    let whole : c.split_at.result.0.now ++ tail_of c.in-Some.tail.nid c.in-Some.tail.inode c.in-Some.tail.class ≡ block
    = ap (λ (t : List ℕ). c.split_at.result.0.now ++ t) (sym c.in-Some.ensures.tail ∙ c.split_at.ensures.back)
    ∙ ap (λ (f : List ℕ). f ++ drop (length block - 24) block) c.split_at.ensures.front ∙ take-append-drop (length block - 24) block in
    let decoded : IfOk r (IsDecoded shape block) = subst (λ (b : List ℕ). IfOk r (IsDecoded shape b)) whole c.decode_front.ensures in
    record {
      node = IfOk-weaker r (IsDecoded shape block) (λ found. IfSome found (λ node. Spells shape block (node_view node))) (spells_decoded shape block) decoded;
      none = IfOk-weaker r (IsDecoded shape block) (λ found. IfNone found (SpellsNone shape block)) (none_decoded shape block) decoded;
      read = IfOk-weaker r (IsDecoded shape block) (λ found. node_or_none found ≡ read_node shape block)
          (λ found. read_node-decoded shape block found (λ k. omega (arith, c.type_inv.block k))) decoded;
    }

pub returns-in-None : goal.returns-in-None
returns-in-None c =
    let shape = c.args.shape in
    let block = c.args.block.now in
    let front = take (length block - 24) block in
    let large = is_shape shape in
    let long : length front + 24 ≡ block_bytes shape = omega (arith, length-take (length block - 24) block, c.if-block-block_bytes.false, c.block_bytes.ensures, large.node) in
    let none : SpellsNone shape block
    = subst (SpellsNone shape) (take-append-drop (length block - 24) block)
    (none_of_tail shape front (drop (length block - 24) block) long (rw c.split_at.ensures.back at c.in-None.ensures.none)) in
    record {
      node = tt;
      none = none;
      read = sym (read_node-none shape block (λ k. omega (arith, c.type_inv.block k)) none);
    }
