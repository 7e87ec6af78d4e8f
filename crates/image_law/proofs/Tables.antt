-- Each table is put together by asking the parts, number by number, and a node is read from the block that spells it:
-- so what stands at a number is what the parts have there.
use Rattle.image.specs.declared.image.NodeEntry.{NodeEntry}
use Rattle.std.proofs.Common.{◌≡◌, ◌≢◌, refl, sym, ◌∙◌, ap, ℕ, zero, suc, ◌-◌, ◌%◌, ◌<◌, ◌≤◌, inl, inr, [], ◌∷◌, length, get_or, arith}
use Rattle.std.proofs.lemmas.Bool.{ne_eqb}
use Rattle.std.proofs.lemmas.Bool.Decides.{eqb_tells, leb_tells}
use Rattle.std.proofs.lemmas.List.{get_or-map, get_or_past, get_or_append_left, get_or_push, length-append, length-map}
use Rattle.geometry.specs.declared.geometry.Geometry.{Geometry}
use Rattle.geometry.specs.File.{Block}
use Rattle.image.specs.Node.{Node}
use Rattle.image.specs.Image.{Image, no_entry, no_node, entry_of, node_of}
use Rattle.image.specs.Walk.{up_to}
use Rattle.image.specs.Reading.{read_node, node_at, read_nodes}
use Rattle.image_law.specs.Parts.{found, Parts, shard_at, PartsLaw, Balanced, IsImageOf}
use Rattle.image_law.specs.Assembled.{table_of, assembled, AreSpelled}
use Rattle.image_law.proofs.Linking.{stored_found}
use Rattle.image.proofs.NodeRoundTrip.{read_node-spelled}

length-up_to : (n : ℕ) → length (up_to n) ≡ n
length-up_to zero = refl
length-up_to (suc n) =
    let l = length-append (up_to n) (suc n ∷ []) in let there = length-up_to n in omega arith

get_up_to : (n k : ℕ) → k < n → get_or (up_to n) k 0 ≡ suc k
get_up_to zero k low = absurd (omega arith)
get_up_to (suc n) k low =
    elim (eqb_tells k n) [
      | inl (t, e) ↦ get_or_push (up_to n) (suc n) 0 k (length-up_to n ∙ sym e) ∙ omega arith
      | inr (t, e) ↦
          let l = length-up_to n in
          get_or_append_left (up_to n) (suc n ∷ []) 0 k (omega arith) ∙ get_up_to n k (omega arith)
    ]

module _ (geometry : Geometry) (version : ℕ) (parts : Parts) (blocks : ℕ → Block) where
  abbrev image : Image
  image = assembled geometry version parts blocks

  pub length-table : length (table_of geometry parts) ≡ geometry.nodes
  length-table = length-map (up_to geometry.nodes) _ ∙ length-up_to geometry.nodes

  entry_here : (k : ℕ) → entry_of image (suc k) ≡ get_or (table_of geometry parts) k no_entry
  entry_here k = let e : suc k - 1 ≡ k = omega arith in rw (ne_eqb (suc k) 0 (λ z. cc), e) refl

  node_here : (k : ℕ) → node_of image (suc k) ≡ get_or (read_nodes geometry.shape blocks (table_of geometry parts)) k no_node
  node_here k = let e : suc k - 1 ≡ k = omega arith in rw (ne_eqb (suc k) 0 (λ z. cc), e) refl

  pub entry_is : (nid : ℕ) → 1 ≤ nid → nid ≤ geometry.nodes → entry_of image nid ≡ found nid (shard_at parts (nid % 16))
  entry_is zero low high = absurd (omega arith)
  entry_is (suc k) low high =
      let l = length-up_to geometry.nodes in
      entry_here k
      ∙ get_or-map (λ nid. found nid (shard_at parts (nid % 16))) (up_to geometry.nodes) k 0 no_entry (omega arith)
      ∙ ap (λ (nid : ℕ). found nid (shard_at parts (nid % 16))) (get_up_to geometry.nodes k (omega arith))

  node_is : (nid : ℕ) → node_of image nid ≡ node_at geometry.shape blocks (entry_of image nid).address
  node_is zero = refl
  node_is (suc k) =
      let l = length-table in
      elim (leb_tells (suc k) geometry.nodes) [
        | inl (t, low) ↦
            node_here k
            ∙ get_or-map (λ (entry : NodeEntry). node_at geometry.shape blocks entry.address) (table_of geometry parts) k no_entry no_node (omega arith)
            ∙ ap (λ (entry : NodeEntry). node_at geometry.shape blocks entry.address) (sym (entry_here k))
        | inr (t, high) ↦
            let m = length-map (table_of geometry parts) (λ (entry : NodeEntry). node_at geometry.shape blocks entry.address) in
            node_here k
            ∙ get_or_past (read_nodes geometry.shape blocks (table_of geometry parts)) k no_node (omega arith)
            ∙ ap (λ (entry : NodeEntry). node_at geometry.shape blocks entry.address) (sym (entry_here k ∙ get_or_past (table_of geometry parts) k no_entry (omega arith)))
      ]

  node_at_some : (a : ℕ) (n : Node) → a ≢ 0 → read_node geometry.shape (blocks a) ≡ n → node_at geometry.shape blocks a ≡ n
  node_at_some zero n some e = absurd (some refl)
  node_at_some (suc a) n some e = e

  pub is_image : 1 ≤ version → PartsLaw geometry parts → Balanced parts → AreSpelled geometry parts blocks → IsImageOf geometry parts image
  is_image low law even spelled = record {
    version = low;
    total = refl;
    logs = refl;
    segments = refl;
    summaries = refl;
    table = length-table;
    entries = entry_is;
    nodes = length-map (table_of geometry parts) _ ∙ length-table;
    stored = λ k file s at m.
        let f = stored_found geometry parts law even k file s at m in
        let spells = spelled k file s at m in
        let read : read_node geometry.shape (blocks s.address) ≡ s.node
        = ap (read_node geometry.shape) spells.1 ∙ read_node-spelled geometry.shape s.node spells.0 in
        node_is s.node.nid
        ∙ ap (λ (entry : NodeEntry). node_at geometry.shape blocks entry.address) (entry_is s.node.nid f.1 f.2 ∙ f.0)
        ∙ node_at_some s.address s.node ((law.files k file at).flushed s m) read;
    sized = λ k file s at m. (spelled k file s at m).0.entries;
    untaken = λ nid none. node_is nid ∙ ap (λ (a : ℕ). node_at geometry.shape blocks a) none;
  }
