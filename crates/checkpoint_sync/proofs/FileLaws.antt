-- What is stored of a file is its nodes, no more: each was written and has its own token, so the law of files holds of
-- it; and where no node is marked, the block of each spells it.
use Rattle.std.proofs.Common.{◌≡◌, ◌≢◌, ℕ, ◌<◌, ◌≤◌, Bool, if◌then◌else◌, inl, inr, sym, ap, ◌∙◌, subst, eq-eqb, arith}
use Rattle.std.proofs.lemmas.Bool.{cases_lt}
use Rattle.geometry.specs.declared.geometry.Geometry.{Geometry}
use Rattle.geometry.specs.File.{Block}
use Rattle.geometry.specs.Path.{largest_length}
use Rattle.image.specs.Node.{Spells}
use Rattle.image_law.specs.Items.{Among}
use Rattle.image_law.specs.Parts.{Stored, FileLaw, stored_of, stored_below, subtrees, ticket_at as tree_ticket_at}
use Rattle.image_law.proofs.Weighing.{of_among-map}
use Rattle.nodes.specs.Change.{TreeNode, each_marked}
use Rattle.nodes.specs.declared.file.FileState.{FileState}
use Rattle.nodes.specs.File.{IsFile, address_of, weight_of}
use Rattle.nodes_law.specs.Nodes.{nodes_below, nodes_of, node_in}
use Rattle.nodes_law.specs.Law.{unwritten, IsWritten, SpellsUnmarked, HasOwnTokens}
use Rattle.nodes_law.proofs.Listing.{nodes_weigh, none_each, unmarked_each}
use Rattle.checkpoint_sync.specs.TreeOf.{tree_of, stored_at}
use Rattle.checkpoint_sync.proofs.Stored.{stored_is, below_stored}
use Rattle.nodes_law.proofs.Owning.{own_below}
use Rattle.checkpoint_sync.proofs.Slots.{ticket_is}

module _ {B L : Type 0} (f : FileState B L) where
  written_each : IsWritten f → (n : TreeNode) → Among n (nodes_of f) → n.token.address ≢ 0
  written_each all n m e =
      let sum = nodes_weigh (λ n. unwritten n.token) f in
      let none = none_each (λ (n : TreeNode). unwritten n.token) (nodes_of f) (omega arith) n m in
      let one : unwritten n.token ≡ 1 = ap (λ (b : Bool). if b then 1 else 0) (eq-eqb n.token.address 0 e) in
      absurd (omega arith)

  module _ (is : IsFile f) where
    -- what is stored is a node of the state
    node_stored : (s : Stored) → Among s (stored_of (tree_of f)) → (n : TreeNode) × Among n (nodes_of f) × (stored_at f.token.number n ≡ s)
    node_stored s m = of_among-map (λ n. stored_at f.token.number n) s (nodes_of f) (subst (Among s) (stored_is f is) m)

    below_node : (s : Stored) → Among s (stored_below f.token.number (subtrees (tree_of f)))
        → (n : TreeNode) × Among n (nodes_below f) × (stored_at f.token.number n ≡ s)
    below_node s m =
        of_among-map (λ n. stored_at f.token.number n) s (nodes_below f)
        (subst (Among s) (below_stored f.token.number f.direct.slots.items f.indirect.slots.items f.double.slots.items is.direct.0 is.indirect.0 is.double.0) m)

    pub file_keeps_law : (geometry : Geometry) (inode : ℕ) → f.shape ≡ geometry.shape → f.token.number ≡ inode → f.length ≤ largest_length geometry.shape
        → HasOwnTokens geometry.files f → IsWritten f → FileLaw geometry inode (tree_of f)
    file_keeps_law geometry inode shape number short tokens written = record {
      number = number;
      flushed = λ s m. (let at = node_stored s m in λ e. written_each written at.0 at.1 (ap (λ (s : Stored). s.address) at.2 ∙ e));
      others = λ s m. (let at = below_node s m in
          subst (λ (s : Stored). geometry.files < s.node.nid) at.2 (own_below f geometry.files tokens at.0 at.1).1);
      reach = short;
      within = λ index some. elim (cases_lt index f.length) [
        | inl low ↦ low
        | inr past ↦ absurd (some (ap (λ sh. tree_ticket_at sh (tree_of f) index) (sym shape)
            ∙ (ticket_is f is (subst (λ sh. f.length ≤ largest_length sh) (sym shape) short) index ∙ ap address_of (is.within index past))))
      ];
    }

    -- where no node is marked, and blocks hold the bytes that tokens show, the block of each node spells it
    pub spelled_in : (blocks : ℕ → Block) → SpellsUnmarked f → weight_of f each_marked ≡ 0
        → ((n : TreeNode) → Among n (nodes_of f) → blocks n.token.address ≡ n.token.bytes)
        → (s : Stored) → Among s (stored_of (tree_of f)) → Spells f.shape (blocks s.address) s.node
    spelled_in blocks spelled clean hold s m =
        let at = node_stored s m in
        subst (λ (s : Stored). Spells f.shape (blocks s.address) s.node) at.2
        (subst (λ bytes. Spells f.shape bytes (node_in f.token.number at.0)) (sym (hold at.0 at.1))
        (spelled at.0 at.1 (unmarked_each f clean at.0 at.1)).1)
