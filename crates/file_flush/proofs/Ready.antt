-- A file's shape says how many entries each of its nodes has, and each has a number: so a node's bytes have room for
-- it, and its token is among those in hand.
use Rattle.std.proofs.Common.{◌≡◌, ℕ, zero, suc, ◌≤◌, ◌==◌, Bool, true, false, if◌then◌else◌, List, [], ◌∷◌, ◌++◌, map, length, length-append, Option, Some, None, inl, inr, refl, ◌∙◌, subst, arith}
use Rattle.std.proofs.lemmas.List.{length-map}
use Rattle.std.specs.List.{flat_map}
use Rattle.atomic_table.specs.Seated.{TableId}
use Rattle.geometry.specs.declared.shape.Shape.{Shape}
use Rattle.geometry.specs.Shape.{block_bytes}
use Rattle.geometry.specs.Path.{node_entries}
use Rattle.image_law.specs.Items.{Among}
use Rattle.image_law.proofs.Weighing.{among_split}
use Rattle.rights_books.specs.declared.claim.TakenNumber.{TakenNumber}
use Rattle.rights_books.specs.Accounts.{HandView}
use Rattle.tickets.specs.Placed.{Placed}
use Rattle.nodes.specs.declared.branch.Branch.{Branch}
use Rattle.nodes.specs.Tree.{entry_at}
use Rattle.nodes.specs.Change.{TreeNode, tree_node, unnumbered}
use Rattle.nodes_walks.specs.Writing.{IsAmong}
use Rattle.nodes_walks.proofs.Flushed.{node_there}
use Rattle.nodes.specs.declared.file.FileState.{FileState}
use Rattle.nodes.specs.File.{IsFile, inode_of, address_of, nid_of, weight_of, shaped_direct, shaped_indirect, shaped_double}
use Rattle.nodes.specs.Owners.{HasNumbers}
use Rattle.nodes.specs.Held.{Others, AreHeldBeside}
use Rattle.nodes_law.specs.Nodes.{of_nodes, direct_nodes, indirect_nodes, double_nodes, nodes_of}
use Rattle.nodes_law.specs.Law.{ragged, HasOwnTokens}
use Rattle.nodes_law.proofs.Listing.{nodes_weigh, none_each}
use Rattle.nodes_law.proofs.Keeping.{is_it, it_is, among_list}
use Rattle.file_flush.specs.Written.{IsWritable, IsInHand}

each_slot : {C : Type 0} (P : TreeNode → Type 0) (shaped : Option C → Type 0) (nodes : Option C → List TreeNode)
    → ((x : Option C) → shaped x → (n : TreeNode) → Among n (nodes x) → P n)
    → (xs : List (Option C)) → ((k : ℕ) → shaped (entry_at xs k)) → (n : TreeNode) → Among n (flat_map nodes xs) → P n
each_slot P shaped nodes each [] all n m = absurd m
each_slot P shaped nodes each (x ∷ xs) all n m = elim (among_split n (nodes x) (flat_map nodes xs) m) [
  | inl here ↦ each x (all 0) n here
  | inr rest ↦ each_slot P shaped nodes each xs (λ k. all (suc k)) n rest
]

module _ (shape : Shape) where
  abbrev Fits : TreeNode → Type 0
  Fits n = (inode : ℕ) → 1 ≤ inode → 1 ≤ n.token.number → IsWritable shape inode n

  leaf_fits : (token : TakenNumber) (numbers : List ℕ) (dirty : Bool) → length numbers ≡ node_entries shape → Fits (tree_node true token numbers dirty)
  leaf_fits token numbers dirty long inode some nid =
      record { inode_is = some; nid = nid; class = omega arith; entries = (long, refl); plain = inr (refl, refl) }

  inner_fits : (token : TakenNumber) (numbers : List ℕ) (dirty : Bool) → length numbers ≡ node_entries shape → Fits (tree_node false token numbers dirty)
  inner_fits token numbers dirty long inode some nid =
      record { inode_is = some; nid = nid; class = omega arith; entries = (refl, long); plain = inr (refl, refl) }

  direct_fit : (x : Option (Branch Placed)) → shaped_direct (node_entries shape) x → (n : TreeNode) → Among n (direct_nodes x) → Fits n
  direct_fit None shaped n m = absurd m
  direct_fit (Some b) shaped n (inl e) =
      subst Fits e (leaf_fits b.token (map address_of b.entries.slots.items) b.entries.dirty (length-map b.entries.slots.items address_of ∙ shaped.0.0))
  direct_fit (Some b) shaped n (inr m) = absurd m

  indirect_fit : (x : Option (Branch (Branch Placed))) → shaped_indirect (node_entries shape) x → (n : TreeNode) → Among n (indirect_nodes x) → Fits n
  indirect_fit None shaped n m = absurd m
  indirect_fit (Some b) shaped n (inl e) =
      subst Fits e (inner_fits b.token (map nid_of b.entries.slots.items) b.entries.dirty (length-map b.entries.slots.items nid_of ∙ shaped.0.0))
  indirect_fit (Some b) shaped n (inr m) = each_slot Fits (shaped_direct (node_entries shape)) direct_nodes direct_fit b.entries.slots.items shaped.0.1 n m

  double_fit : (x : Option (Branch (Branch (Branch Placed)))) → shaped_double (node_entries shape) x → (n : TreeNode) → Among n (double_nodes x) → Fits n
  double_fit None shaped n m = absurd m
  double_fit (Some b) shaped n (inl e) =
      subst Fits e (inner_fits b.token (map nid_of b.entries.slots.items) b.entries.dirty (length-map b.entries.slots.items nid_of ∙ shaped.0.0))
  double_fit (Some b) shaped n (inr m) = each_slot Fits (shaped_indirect (node_entries shape)) indirect_nodes indirect_fit b.entries.slots.items shaped.0.1 n m

numbered_one : (e : TakenNumber) → unnumbered e ≡ 0 → 1 ≤ e.number
numbered_one e none = go e.number none
  where
    go : (n : ℕ) → ◌≡◌ {A = ℕ} (if n == 0 then 1 else 0) 0 → 1 ≤ n
    go zero e = absurd (omega arith)
    go (suc n) e = omega arith

module _ {B L : Type 0} (f : FileState B L) (is : IsFile f) (numbers : HasNumbers f) where
  numbered_each : (n : TreeNode) → Among n (nodes_of f) → 1 ≤ n.token.number
  numbered_each n m =
      let sum = nodes_weigh (λ n. unnumbered n.token) f in
      numbered_one n.token (none_each (λ (n : TreeNode). unnumbered n.token) (nodes_of f) (omega arith) n m)

  inode_fits : Fits f.shape (inode_of f)
  inode_fits inode some nid =
      let a = length-map f.direct.slots.items nid_of in
      let b = length-map f.indirect.slots.items nid_of in
      let c = length-map f.double.slots.items nid_of in
      let d = length-append (map nid_of f.direct.slots.items) (map nid_of f.indirect.slots.items ++ map nid_of f.double.slots.items) in
      let e = length-append (map nid_of f.indirect.slots.items) (map nid_of f.double.slots.items) in
      let five : length (inode_of f).children ≡ 5 = omega (arith, is.direct.0, is.indirect.0, is.double.0) in
      record {
        inode_is = some;
        nid = nid;
        class = omega arith;
        entries = (length-map f.tickets.slots.items address_of ∙ is.tickets.0, five);
        plain = inl refl;
      }

  node_fits : (n : TreeNode) → Among n (nodes_of f) → Fits f.shape n
  node_fits n (inl e) = subst (Fits f.shape) e inode_fits
  node_fits n (inr m) = elim (among_split n (flat_map direct_nodes f.direct.slots.items) (flat_map indirect_nodes f.indirect.slots.items ++ flat_map double_nodes f.double.slots.items) m) [
    | inl here ↦ each_slot (Fits f.shape) (shaped_direct (node_entries f.shape)) direct_nodes (direct_fit f.shape) f.direct.slots.items is.direct.1 n here
    | inr rest ↦ elim (among_split n (flat_map indirect_nodes f.indirect.slots.items) (flat_map double_nodes f.double.slots.items) rest) [
      | inl here ↦ each_slot (Fits f.shape) (shaped_indirect (node_entries f.shape)) indirect_nodes (indirect_fit f.shape) f.indirect.slots.items is.indirect.1 n here
      | inr last ↦ each_slot (Fits f.shape) (shaped_double (node_entries f.shape)) double_nodes (double_fit f.shape) f.double.slots.items is.double.1 n last
    ]
  ]

  pub nodes_among : (n : TreeNode) → IsAmong (weight_of f) n → Among n (nodes_of f)
  nodes_among n among =
      let here = among (of_nodes (is_it n)) in
      let all = nodes_weigh (is_it n) f in
      let one = it_is n in
      among_list n (nodes_of f) (omega arith)

  pub writable : (n : TreeNode) → IsAmong (weight_of f) n → IsWritable f.shape f.token.number n
  writable n among =
      let m = nodes_among n among in
      node_fits n m f.token.number (numbered_each (inode_of f) (inl refl)) (numbered_each n m)

  pub in_hand : (files : ℕ) (others : Others) (book : TableId) (hand : HandView) → hand.book ≡ book → HasOwnTokens files f
      → AreHeldBeside others f hand.tickets hand.tokens → (n : TreeNode) → IsAmong (weight_of f) n → IsInHand f.shape book hand n.token
  in_hand files others book hand same tokens held n among = record {
    book_is = same;
    there = node_there f hand.tickets hand.tokens held n among;
    whole = (let sum = nodes_weigh (λ n. ragged (block_bytes f.shape) n.token) f in let whole = tokens.whole in
        none_each (λ (n : TreeNode). ragged (block_bytes f.shape) n.token) (nodes_of f) (omega arith) n (nodes_among n among));
  }
