-- No read changes a block's bytes, so each node is read of the bytes at the start: a turn adds the node of the next
-- entry behind those of the first ones.
use Rattle.std.proofs.Common.{◌≡◌, ℕ, ◌-◌, ◌<◌, List, [], ◌∷◌, ◌++◌, length, get_or, map, take, drop, sym, ap, subst, ◌∙◌, arith}
use Rattle.std.proofs.lemmas.List.{length-append}
use Rattle.image.specs.declared.image.NodeEntry.{NodeEntry}
use Rattle.image.specs.Reading.{node_at}
use Rattle.std.specs.Prelude.{IfSome}
use Rattle.image.specs.Image.{no_entry}
use Rattle.image.specs.Node.{Spells}
use Rattle.image.specs.View.{node_view, node_or_none}
use Rattle.image_codec.specs.Blocks.{bytes_at}
use Rattle.image_codec.proofs.Unchanged.{long_take, map_next, map_push, spelled_next}
use Rattle.image_codec.proofs.reading_nodes.read_nodes.Goals as goal

pub loop-entry-preserved : goal.loop-entry-preserved
loop-entry-preserved g c =
    let content = g.B.Block.content_of in
    let shape = c.args.shape in
    let at = c.loop-entry in
    let before = at.invariant in
    let nat = c.args.nat.now in
    let all = c.args.blocks.now.items in
    let i = at.entry-index in
    let low : i < length nat = omega arith in
    let d : NodeEntry = record { inode = 0; address = 0 } in
    let entry = get_or nat i d in
    let node = c.in_ok-node.node in
    let here : node_or_none node ≡ node_at shape (bytes_at content all) entry.address = c.in_ok-node.ensures.node ∙ ap (λ (ms : List (List ℕ)). node_at shape (λ a. get_or ms (a - 1) []) entry.address) before.contents in
    let counted : length at.nodes.items ≡ i = let count = before.count in let long = at.nodes.ok.0 in omega arith in
    let same_bytes : bytes_at content at.blocks.items ≡ bytes_at content all = ap {B = ℕ → List ℕ} (λ (ms : List (List ℕ)). λ (a : ℕ). get_or ms (a - 1) []) before.contents in
    let same_entry : get_or nat i d ≡ get_or nat (length at.nodes.items) no_entry = ap (λ k. get_or nat k d) (sym counted) in
    let spells : IfSome node (λ n. Spells shape (bytes_at content all (get_or nat (length at.nodes.items) no_entry).address) (node_view n))
    = subst (λ (b : ℕ → List ℕ). IfSome node (λ n. Spells shape (b (get_or nat (length at.nodes.items) no_entry).address) (node_view n))) same_bytes
    (subst (λ (e : NodeEntry). IfSome node (λ n. Spells shape (bytes_at content at.blocks.items e.address) (node_view n))) same_entry c.in_ok-node.ensures.spelled) in
    let pushed = ap (map node_or_none) c.push_reserved.ensures.items ∙ map_push node_or_none at.nodes.items node in
    let first = ap (λ ns. ns ++ node_or_none node ∷ []) before.nodes in
    let second = ap (λ n. map (λ (e : NodeEntry). node_at shape (bytes_at content all) e.address) (take i nat) ++ n ∷ []) here in
    let next = map_next (λ (e : NodeEntry). node_at shape (bytes_at content all) e.address) nat i d low in
    let buffer = c.in_ok-node.ensures.buffer in
    let value = c.as_mut_slice.ensures.value in
    let long = at.buffer.ok.0 in
    let same = ap length value in
    let few = length-append c.node_at.new.buffer (drop (length c.node_at.new.buffer) at.buffer.items) in
    record {
      nodes = pushed ∙ (first ∙ (second ∙ sym next));
      spelled = rw c.push_reserved.ensures.items (spelled_next shape (bytes_at content all) nat at.nodes.items node before.spelled spells);
      failures = (let more = c.in_ok-node.ensures.failures in let so_far = before.failures in omega arith);
      run = c.in_ok-node.ensures.run;
      contents = c.in_ok-node.ensures.contents ∙ before.contents;
      buffer = long_take at.buffer.len (c.node_at.new.buffer ++ drop (length c.node_at.new.buffer) at.buffer.items) (let size = before.buffer in omega arith) ∙ (let size = before.buffer in omega arith);
      room = (let same_room = c.push_reserved.ensures.capacity in let room = before.room in omega arith);
      count = (let more = c.push_reserved.ensures.len in let count = before.count in omega arith);
    }
