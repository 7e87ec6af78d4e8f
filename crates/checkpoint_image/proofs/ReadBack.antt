-- The block of a taken number spells its node, and reading undoes spelling; a free number has no address and no node:
-- so row by row the table reads the image's nodes.
use Rattle.std.proofs.Common.{◌≡◌, ◌≢◌, refl, sym, ◌∙◌, ap, ℕ, zero, suc, ◌-◌, ◌<◌, ◌≤◌, get_or, arith}
use Rattle.std.proofs.lemmas.Bool.{ne_eqb}
use Rattle.std.proofs.lemmas.List.{length-map, get_or-map, ext_get_or}
use Rattle.geometry.specs.declared.geometry.Geometry.{Geometry}
use Rattle.geometry.specs.declared.shape.Shape.{Shape}
use Rattle.geometry.specs.File.{Block}
use Rattle.image.specs.declared.image.NodeEntry.{NodeEntry}
use Rattle.image.specs.Node.{Node}
use Rattle.image.specs.Image.{Image, no_node, no_entry, entry_of, node_of}
use Rattle.image.specs.Reading.{read_node, node_at, read_nodes}
use Rattle.image.proofs.NodeRoundTrip.{read_node-spelled}
use Rattle.image_law.specs.Parts.{Parts, PartsLaw, Balanced, IsImageOf}
use Rattle.image_law.specs.Assembled.{AreSpelled}
use Rattle.image_law.proofs.Linking.{stored_found, taken_owned}

node_there : (shape : Shape) (blocks : ℕ → Block) (a : ℕ) (n : Node) → a ≢ 0 → read_node shape (blocks a) ≡ n → node_at shape blocks a ≡ n
node_there shape blocks zero n some e = absurd (some refl)
node_there shape blocks (suc a) n some e = e

module _ (geometry : Geometry) (parts : Parts) (image : Image) (blocks : ℕ → Block) (law : PartsLaw geometry parts) (even : Balanced parts)
    (is : IsImageOf geometry parts image) (spelled : AreSpelled geometry parts blocks) where
  abbrev address : ℕ → ℕ
  address nid = (entry_of image nid).address

  read_is : (nid : ℕ) → 1 ≤ nid → nid ≤ geometry.nodes → node_of image nid ≡ node_at geometry.shape blocks (address nid)
  read_is nid low high = go (address nid) refl
    where
      go : (a : ℕ) → address nid ≡ a → node_of image nid ≡ node_at geometry.shape blocks (address nid)
      go zero e = is.untaken nid e ∙ sym (ap (node_at geometry.shape blocks) e)
      go (suc a) e =
          let o = taken_owned geometry parts image law even is nid low high (λ z. absurd_suc (sym e ∙ z)) in
          let f = stored_found geometry parts law even o.0 o.1 o.2 o.3 o.4 in
          let spells = spelled o.0 o.1 o.2 o.3 o.4 in
          let read : read_node geometry.shape (blocks o.2.address) ≡ o.2.node
          = ap (read_node geometry.shape) spells.1 ∙ read_node-spelled geometry.shape o.2.node spells.0 in
          let entry = is.entries o.2.node.nid f.1 f.2 ∙ f.0 in
          let at : o.2.address ≡ address nid = sym (ap (λ (x : NodeEntry). x.address) entry) ∙ ap address o.5 in
          ap (node_of image) (sym o.5) ∙ is.stored o.0 o.1 o.2 o.3 o.4
          ∙ sym (node_there geometry.shape blocks o.2.address o.2.node ((law.files o.0 o.1 o.3).flushed o.2 o.4) read)
          ∙ ap (node_at geometry.shape blocks) at
        where
          absurd_suc : {b : ℕ} → suc b ≡ 0 → ⊥
          absurd_suc z = absurd (omega arith)

  row_is : (j : ℕ) → j < geometry.nodes → get_or image.nodes j no_node ≡ get_or (read_nodes geometry.shape blocks image.node_table) j no_node
  row_is j low =
      let back : suc j - 1 ≡ j = omega arith in
      let node : node_of image (suc j) ≡ get_or image.nodes j no_node = rw (ne_eqb (suc j) 0 (λ z. cc), back) refl in
      let entry : entry_of image (suc j) ≡ get_or image.node_table j no_entry = rw (ne_eqb (suc j) 0 (λ z. cc), back) refl in
      let l = is.table in
      sym node ∙ read_is (suc j) (omega arith) (omega arith)
      ∙ ap (λ (e : NodeEntry). node_at geometry.shape blocks e.address) entry
      ∙ sym (get_or-map (λ (e : NodeEntry). node_at geometry.shape blocks e.address) image.node_table j no_entry no_node (omega arith))

  pub reads_back : image.nodes ≡ read_nodes geometry.shape blocks image.node_table
  reads_back =
      let l = is.nodes in
      let m = length-map image.node_table (λ (e : NodeEntry). node_at geometry.shape blocks e.address) in
      let t = is.table in
      ext_get_or no_node image.nodes (read_nodes geometry.shape blocks image.node_table) (omega arith) (λ j low. row_is j (omega arith))
