-- Tree and state list a node before what is below it, entry by entry in the same order: so the nodes that are stored
-- are the state's.
use Rattle.std.proofs.Common.{◌≡◌, ℕ, List, [], ◌∷◌, ◌++◌, map, length, append_assoc, Option, Some, None, refl, sym, ap, ◌∙◌, arith}
use Rattle.std.proofs.lemmas.List.{map-append, append-nil}
use Rattle.std.specs.List.{flat_map}
use Rattle.image_law.specs.Parts.{Tree, Stored, each, nid_of as tree_nid, stored_in, inode_node, stored_of}
use Rattle.geometry.specs.declared.kind.Kind.TheVariants.{File}
use Rattle.tickets.specs.Placed.{Placed}
use Rattle.nodes.specs.declared.branch.Branch.{Branch}
use Rattle.nodes.specs.Tree.{entry_at}
use Rattle.nodes.specs.Change.{TreeNode}
use Rattle.nodes.specs.declared.file.FileState.{FileState}
use Rattle.nodes.specs.File.{IsFile, inode_of, nid_of}
use Rattle.nodes_law.specs.Nodes.{direct_nodes, indirect_nodes, double_nodes, nodes_of, node_in}
use Rattle.checkpoint_sync.specs.TreeOf.{seen, direct_tree, indirect_tree, double_tree, tree_of, stored_at}

-- lists of two items, and of one
two_items : {C : Type 0} (xs : List (Option C)) → length xs ≡ 2 → xs ≡ entry_at xs 0 ∷ entry_at xs 1 ∷ []
two_items [] e = absurd (omega arith)
two_items (x ∷ []) e = absurd (omega arith)
two_items (x ∷ y ∷ []) e = refl
two_items (x ∷ y ∷ z ∷ xs) e = absurd (omega arith)

one_item : {C : Type 0} (xs : List (Option C)) → length xs ≡ 1 → xs ≡ entry_at xs 0 ∷ []
one_item [] e = absurd (omega arith)
one_item (x ∷ []) e = refl
one_item (x ∷ y ∷ xs) e = absurd (omega arith)

module _ (inode : ℕ) where
  abbrev at : TreeNode → Stored
  at n = stored_at inode n

  -- entries, where each has the nodes that its tree has
  slots_stored : {C T : Type 0} (see : C → T) (below : Option C → List TreeNode) (stored : T → List Stored) → below None ≡ []
      → ((b : C) → stored (see b) ≡ map at (below (Some b))) → (xs : List (Option C))
      → flat_map (each stored) (map (seen see) xs) ≡ map at (flat_map below xs)
  slots_stored see below stored none some [] = refl
  slots_stored see below stored none some (None ∷ xs) =
      slots_stored see below stored none some xs ∙ ap (λ l. map at (l ++ flat_map below xs)) (sym none)
  slots_stored see below stored none some (Some b ∷ xs) =
      let here = some b in
      let rest = slots_stored see below stored none some xs in
      (λ i. here i ++ rest i) ∙ sym (map-append at (below (Some b)) (flat_map below xs))

  direct_stored : (b : Branch Placed) → stored_in inode 0 (direct_tree b) ≡ map at (direct_nodes (Some b))
  direct_stored b = refl

  nids_are : {C S : Type 0} (see : Branch C → S) (nid : S → ℕ) → ((b : Branch C) → nid (see b) ≡ b.token.number) → (f : Option S → ℕ) → f None ≡ 0
      → ((s : S) → f (Some s) ≡ nid s) → (xs : List (Option (Branch C))) → map f (map (seen see) xs) ≡ map nid_of xs
  nids_are see nid same f none some [] = refl
  nids_are see nid same f none some (None ∷ xs) =
      let rest = nids_are see nid same f none some xs in λ i. none i ∷ rest i
  nids_are see nid same f none some (Some b ∷ xs) =
      let rest = nids_are see nid same f none some xs in
      let here = some (see b) ∙ same b in
      λ i. here i ∷ rest i

  indirect_stored : (b : Branch (Branch Placed)) → stored_in inode 1 (indirect_tree b) ≡ map at (indirect_nodes (Some b))
  indirect_stored b =
      let kids = nids_are direct_tree (λ (t : Tree 0). t.nid) (λ b. refl) tree_nid refl (λ s. refl) b.entries.slots.items in
      let rest = slots_stored direct_tree direct_nodes (stored_in inode 0) refl direct_stored b.entries.slots.items in
      λ i. record {
        node = record { nid = b.token.number; inode = inode; class = 2; length = 0; kind = File; addresses = []; children = kids i };
        address = b.token.address;
      } ∷ rest i

  double_stored : (b : Branch (Branch (Branch Placed))) → stored_in inode 2 (double_tree b) ≡ map at (double_nodes (Some b))
  double_stored b =
      let kids = nids_are indirect_tree (λ (t : Tree 1). t.nid) (λ b. refl) tree_nid refl (λ s. refl) b.entries.slots.items in
      let rest = slots_stored indirect_tree indirect_nodes (stored_in inode 1) refl indirect_stored b.entries.slots.items in
      λ i. record {
        node = record { nid = b.token.number; inode = inode; class = 2; length = 0; kind = File; addresses = []; children = kids i };
        address = b.token.address;
      } ∷ rest i

  abbrev pub of_direct : Option (Branch Placed) → List Stored
  of_direct x = each (stored_in inode 0) (seen direct_tree x)

  abbrev pub of_indirect : Option (Branch (Branch Placed)) → List Stored
  of_indirect x = each (stored_in inode 1) (seen indirect_tree x)

  abbrev pub of_double : Option (Branch (Branch (Branch Placed))) → List Stored
  of_double x = each (stored_in inode 2) (seen double_tree x)

  five : (a b c d e : List Stored) → (a ++ (b ++ [])) ++ ((c ++ (d ++ [])) ++ (e ++ [])) ≡ a ++ (b ++ (c ++ (d ++ (e ++ []))))
  five a b c d e = simp (append_assoc, append-nil)

  module _ (ds : List (Option (Branch Placed))) (is : List (Option (Branch (Branch Placed)))) (xs : List (Option (Branch (Branch (Branch Placed)))))
      (d : length ds ≡ 2) (e : length is ≡ 2) (x : length xs ≡ 1) where
    pub below_stored : of_direct (entry_at ds 0) ++ (of_direct (entry_at ds 1) ++ (of_indirect (entry_at is 0) ++ (of_indirect (entry_at is 1) ++ (of_double (entry_at xs 0) ++ []))))
        ≡ map at (flat_map direct_nodes ds ++ (flat_map indirect_nodes is ++ flat_map double_nodes xs))
    below_stored =
        let a = ap (λ l. flat_map (each (stored_in inode 0)) (map (seen direct_tree) l)) (two_items ds d) in
        let b = ap (λ l. flat_map (each (stored_in inode 1)) (map (seen indirect_tree) l)) (two_items is e) in
        let c = ap (λ l. flat_map (each (stored_in inode 2)) (map (seen double_tree) l)) (one_item xs x) in
        let a2 = sym a ∙ slots_stored direct_tree direct_nodes (stored_in inode 0) refl direct_stored ds in
        let b2 = sym b ∙ slots_stored indirect_tree indirect_nodes (stored_in inode 1) refl indirect_stored is in
        let c2 = sym c ∙ slots_stored double_tree double_nodes (stored_in inode 2) refl double_stored xs in
        sym (five (of_direct (entry_at ds 0)) (of_direct (entry_at ds 1)) (of_indirect (entry_at is 0)) (of_indirect (entry_at is 1)) (of_double (entry_at xs 0)))
        ∙ ((λ i. a2 i ++ (b2 i ++ c2 i))
        ∙ (ap (λ l. map at (flat_map direct_nodes ds) ++ l) (sym (map-append at (flat_map indirect_nodes is) (flat_map double_nodes xs)))
        ∙ sym (map-append at (flat_map direct_nodes ds) (flat_map indirect_nodes is ++ flat_map double_nodes xs))))

    -- the numbers of the five nodes that an inode names
    pub children_are : map nid_of ds ++ (map nid_of is ++ map nid_of xs)
        ≡ nid_of (entry_at ds 0) ∷ nid_of (entry_at ds 1) ∷ nid_of (entry_at is 0) ∷ nid_of (entry_at is 1) ∷ nid_of (entry_at xs 0) ∷ []
    children_are =
        let a = ap (map nid_of) (two_items ds d) in
        let b = ap (map nid_of) (two_items is e) in
        let c = ap (map nid_of) (one_item xs x) in
        λ i. a i ++ (b i ++ c i)

nid_seen : {C S : Type 0} (see : Branch C → S) (f : Option S → ℕ) → f None ≡ 0 → ((b : Branch C) → f (Some (see b)) ≡ b.token.number)
    → (x : Option (Branch C)) → f (seen see x) ≡ nid_of x
nid_seen see f none some None = none
nid_seen see f none some (Some b) = some b

module _ {B L : Type 0} (f : FileState B L) (is : IsFile f) where
  pub inode_stored_is : inode_node (tree_of f) ≡ node_in f.token.number (inode_of f)
  inode_stored_is =
      let kids = children_are f.token.number f.direct.slots.items f.indirect.slots.items f.double.slots.items is.direct.0 is.indirect.0 is.double.0 in
      let a = nid_seen direct_tree tree_nid refl (λ b. refl) (entry_at f.direct.slots.items 0) in
      let b = nid_seen direct_tree tree_nid refl (λ b. refl) (entry_at f.direct.slots.items 1) in
      let c = nid_seen indirect_tree tree_nid refl (λ b. refl) (entry_at f.indirect.slots.items 0) in
      let d = nid_seen indirect_tree tree_nid refl (λ b. refl) (entry_at f.indirect.slots.items 1) in
      let e = nid_seen double_tree tree_nid refl (λ b. refl) (entry_at f.double.slots.items 0) in
      let all : (inode_node (tree_of f)).children ≡ (inode_of f).children = (λ i. a i ∷ b i ∷ c i ∷ d i ∷ e i ∷ []) ∙ sym kids in
      λ i. record (inode_node (tree_of f)) { children = all i }

  pub stored_is : stored_of (tree_of f) ≡ map (λ n. stored_at f.token.number n) (nodes_of f)
  stored_is =
      let top = inode_stored_is in
      let rest = below_stored f.token.number f.direct.slots.items f.indirect.slots.items f.double.slots.items is.direct.0 is.indirect.0 is.double.0 in
      λ i. record { node = top i; address = f.token.address } ∷ rest i
