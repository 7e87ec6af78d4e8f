-- A file's tree is its state seen node by node, and each ticket is owned by the entry in which it stands: so its tokens
-- and the blocks it names weigh what those of the state do.
use Rattle.std.proofs.Common.{◌≡◌, ℕ, zero, suc, ◌+◌, ◌<◌, List, [], ◌∷◌, ◌++◌, map, Option, Some, None, refl, sym, ap, ◌∙◌, subst, arith}
use Rattle.std.specs.List.{flat_map}
use Rattle.geometry.specs.Weights.{weigh}
use Rattle.geometry.proofs.Weighing.{weigh-append}
use Rattle.geometry.specs.declared.owner.Mark.{Mark}
use Rattle.geometry.specs.declared.owner.Owner.TheVariants.{Data}
use Rattle.image.specs.Walk.{data_names}
use Rattle.image_law.specs.Parts.{Token, Stored, token_at, tickets_at, tokens_of, tickets_of, stored_of}
use Rattle.image_law.proofs.Weighing.{weigh-map, weigh-flat_map, weigh_same_among}
use Rattle.tickets.specs.Placed.{Placed}
use Rattle.nodes.specs.declared.branch.Branch.{Branch}
use Rattle.nodes.specs.Tree.{entry_at}
use Rattle.nodes.specs.Change.{TreeNode, Weighing, ticket_weight, of_tickets, of_tokens}
use Rattle.nodes.specs.declared.file.FileState.{FileState}
use Rattle.nodes.specs.File.{IsFile, address_of, weight_direct, weight_indirect, weight_double, weight_of}
use Rattle.nodes_law.specs.Nodes.{direct_nodes, indirect_nodes, double_nodes, nodes_of}
use Rattle.nodes_law.specs.Law.{HasOwnTokens}
use Rattle.checkpoint_sync.specs.Owned.{IsOwned, OwnedIn, OwnedBelow, HasOwnTickets}
use Rattle.nodes_law.proofs.Listing.{nodes_weigh}
use Rattle.nodes_law.proofs.Owning.{own_each}
use Rattle.checkpoint_sync.specs.TreeOf.{token_of, tree_of, stored_at}
use Rattle.checkpoint_sync.proofs.Stored.{stored_is}

module _ {B L : Type 0} (f : FileState B L) where
  -- a weight of what is stored
  pub stored_weigh : IsFile f → (h : Stored → ℕ) → weigh h (stored_of (tree_of f)) ≡ weigh (λ n. h (stored_at f.token.number n)) (nodes_of f)
  stored_weigh is h = ap (weigh h) (stored_is f is) ∙ weigh-map h (λ n. stored_at f.token.number n) (nodes_of f)

  pub tokens_weigh : (files : ℕ) → IsFile f → HasOwnTokens files f → (h : Token → ℕ)
      → weigh h (tokens_of (tree_of f)) ≡ weight_of f (of_tokens (λ e. h (token_of e)))
  tokens_weigh files is tokens h =
      weigh-map h token_at (stored_of (tree_of f))
      ∙ (stored_weigh is (λ s. h (token_at s))
      ∙ (weigh_same_among (λ n. h (token_at (stored_at f.token.number n))) (λ n. h (token_of n.token)) (nodes_of f)
      (λ n m. let e = own_each f files tokens n m in λ i. h (record { nid = n.token.number; inode = sym e i; address = n.token.address }))
      ∙ sym (nodes_weigh (λ n. h (token_of n.token)) f)))

module _ (h : Mark → ℕ) where
  abbrev of_marks : Weighing Placed
  of_marks = of_tickets (λ t. h t.mark)

  -- the data blocks that a node names
  abbrev named : TreeNode → ℕ
  named n = weigh h (data_names n.token.number 0 n.addresses)

  names_more : (nid from a : ℕ) (rest : List ℕ) → 0 < a
      → weigh h (data_names nid from (a ∷ rest)) ≡ h (record { address = a; owner = Data nid from }) + weigh h (data_names nid (from + 1) rest)
  names_more nid from zero rest some = absurd (omega arith)
  names_more nid from (suc a) rest some = refl

  names_weigh : (nid from : ℕ) (xs : List (Option Placed)) → ((k : ℕ) → IsOwned nid (from + k) (entry_at xs k))
      → weigh (ticket_weight of_marks) xs ≡ weigh h (data_names nid from (map address_of xs))
  names_weigh nid from [] owned = refl
  names_weigh nid from (None ∷ xs) owned =
      let rest = names_weigh nid (from + 1) xs (λ k. subst (λ j. IsOwned nid j (entry_at xs k)) (omega arith) (owned (suc k))) in
      omega arith
  names_weigh nid from (Some t ∷ xs) owned =
      let rest = names_weigh nid (from + 1) xs (λ k. subst (λ j. IsOwned nid j (entry_at xs k)) (omega arith) (owned (suc k))) in
      let here = owned 0 in
      let more = names_more nid from t.mark.address (map address_of xs) here.1 in
      let at : from + 0 ≡ from = omega arith in
      let owner : t.mark.owner ≡ Data nid from = here.0 ∙ ap (λ j. Data nid j) at in
      let same : h t.mark ≡ h (record { address = t.mark.address; owner = Data nid from }) = λ i. h (record { address = t.mark.address; owner = owner i }) in
      omega arith

  names_all : (nid : ℕ) (xs : List (Option Placed)) → OwnedIn (IsOwned nid) xs → weigh (ticket_weight of_marks) xs ≡ weigh h (data_names nid 0 (map address_of xs))
  names_all nid xs owned = names_weigh nid 0 xs (λ k. subst (λ j. IsOwned nid j (entry_at xs k)) (omega arith) (owned k))

  slots_named : {C : Type 0} (owned : ℕ → Option C → Type 0) (weight : Option C → ℕ) (nodes : Option C → List TreeNode)
      → ((k : ℕ) (x : Option C) → owned k x → weight x ≡ weigh named (nodes x))
      → (xs : List (Option C)) → OwnedIn owned xs → weigh weight xs ≡ weigh named (flat_map nodes xs)
  slots_named owned weight nodes each [] own = refl
  slots_named owned weight nodes each (x ∷ xs) own =
      let here = each 0 x (own 0) in
      let rest = slots_named (λ k. owned (suc k)) weight nodes (λ k. each (suc k)) xs (λ k. own (suc k)) in
      let both = weigh-append named (nodes x) (flat_map nodes xs) in
      omega arith

  direct_named : (nid at : ℕ) (x : Option (Branch Placed)) → OwnedBelow IsOwned nid at x → weight_direct of_marks x ≡ weigh named (direct_nodes x)
  direct_named nid at None own = refl
  direct_named nid at (Some b) own = let all = names_all b.token.number b.entries.slots.items own in omega arith

  indirect_named : (nid at : ℕ) (x : Option (Branch (Branch Placed))) → OwnedBelow (OwnedBelow IsOwned) nid at x
      → weight_indirect of_marks x ≡ weigh named (indirect_nodes x)
  indirect_named nid at None own = refl
  indirect_named nid at (Some b) own =
      let all = slots_named (OwnedBelow IsOwned b.token.number) (weight_direct of_marks) direct_nodes (direct_named b.token.number) b.entries.slots.items own in
      omega arith

  double_named : (nid at : ℕ) (x : Option (Branch (Branch (Branch Placed)))) → OwnedBelow (OwnedBelow (OwnedBelow IsOwned)) nid at x
      → weight_double of_marks x ≡ weigh named (double_nodes x)
  double_named nid at None own = refl
  double_named nid at (Some b) own =
      let all = slots_named (OwnedBelow (OwnedBelow IsOwned) b.token.number) (weight_indirect of_marks) indirect_nodes (indirect_named b.token.number) b.entries.slots.items own in
      omega arith

  module _ {B L : Type 0} (f : FileState B L) (own : HasOwnTickets f) where
    pub nodes_named : weight_of f of_marks ≡ weigh named (nodes_of f)
    nodes_named =
        let a = names_all f.token.number f.tickets.slots.items own.tickets in
        let b = slots_named (OwnedBelow IsOwned f.token.number) (weight_direct of_marks) direct_nodes (direct_named f.token.number) f.direct.slots.items own.direct in
        let c = slots_named (OwnedBelow (OwnedBelow IsOwned) f.token.number) (weight_indirect of_marks) indirect_nodes (indirect_named f.token.number) f.indirect.slots.items own.indirect in
        let d = slots_named (OwnedBelow (OwnedBelow (OwnedBelow IsOwned)) f.token.number) (weight_double of_marks) double_nodes (double_named f.token.number) f.double.slots.items own.double in
        let ds = flat_map direct_nodes f.direct.slots.items in
        let is = flat_map indirect_nodes f.indirect.slots.items in
        let xs = flat_map double_nodes f.double.slots.items in
        let e = weigh-append named ds (is ++ xs) in
        let g = weigh-append named is xs in
        omega arith

    pub tickets_weigh : IsFile f → weigh h (tickets_of (tree_of f)) ≡ weight_of f of_marks
    tickets_weigh is =
        weigh-flat_map h tickets_at (stored_of (tree_of f))
        ∙ (stored_weigh f is (λ s. weigh h (tickets_at s)) ∙ sym nodes_named)
