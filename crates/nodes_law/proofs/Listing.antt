-- A file's weight adds its entries level by level, as the list of its nodes does: so a weight of nodes is the list's,
-- and where it is 0 it is 0 for each node.
use Rattle.std.proofs.Common.{◌≡◌, inl, inr, ℕ, ◌<◌, Bool, true, false, List, [], ◌∷◌, ◌++◌, if◌then◌else◌, Option, Some, None, refl, ap, ne_eqb, arith}
use Rattle.std.specs.List.{flat_map}
use Rattle.geometry.specs.Weights.{weigh}
use Rattle.geometry.proofs.Weighing.{weigh-append, weigh-same}
use Rattle.image_law.specs.Items.{Among}
use Rattle.image_law.proofs.Weighing.{weigh-flat_map, weigh_among}
use Rattle.rights_books.specs.declared.claim.TakenNumber.{TakenNumber}
use Rattle.tickets.specs.Placed.{Placed}
use Rattle.nodes.specs.declared.branch.Branch.{Branch}
use Rattle.nodes.specs.Change.{TreeNode, ticket_weight, each_marked}
use Rattle.nodes.specs.declared.file.FileState.{FileState}
use Rattle.nodes.specs.File.{weight_direct, weight_indirect, weight_double, below_weight, weight_of}
use Rattle.nodes_law.specs.Nodes.{of_nodes, direct_nodes, indirect_nodes, double_nodes, nodes_below, nodes_of}
use Rattle.nodes_law.specs.Law.{unwritten, IsWritten, SpellsUnmarked}

module _ (h : TreeNode → ℕ) where
  slot_weightless : (x : Option Placed) → ticket_weight (of_nodes h) x ≡ 0
  slot_weightless None = refl
  slot_weightless (Some t) = refl

  tickets_weightless : (xs : List (Option Placed)) → weigh (ticket_weight (of_nodes h)) xs ≡ 0
  tickets_weightless [] = refl
  tickets_weightless (x ∷ xs) = let here = slot_weightless x in let rest = tickets_weightless xs in omega arith

  -- entries, where each weighs what the list of its nodes does
  slots_weigh : {C : Type 0} (weight : Option C → ℕ) (nodes : Option C → List TreeNode) → ((x : Option C) → weight x ≡ weigh h (nodes x))
      → (xs : List (Option C)) → weigh weight xs ≡ weigh h (flat_map nodes xs)
  slots_weigh weight nodes each xs =
      let a = weigh-same weight (λ x. weigh h (nodes x)) xs each in
      let b = weigh-flat_map h nodes xs in
      omega arith

  direct_weighs : (x : Option (Branch Placed)) → weight_direct (of_nodes h) x ≡ weigh h (direct_nodes x)
  direct_weighs None = refl
  direct_weighs (Some b) = let none = tickets_weightless b.entries.slots.items in omega arith

  indirect_weighs : (x : Option (Branch (Branch Placed))) → weight_indirect (of_nodes h) x ≡ weigh h (indirect_nodes x)
  indirect_weighs None = refl
  indirect_weighs (Some b) =
      let rest = slots_weigh (weight_direct (of_nodes h)) direct_nodes direct_weighs b.entries.slots.items in omega arith

  double_weighs : (x : Option (Branch (Branch (Branch Placed)))) → weight_double (of_nodes h) x ≡ weigh h (double_nodes x)
  double_weighs None = refl
  double_weighs (Some b) =
      let rest = slots_weigh (weight_indirect (of_nodes h)) indirect_nodes indirect_weighs b.entries.slots.items in omega arith

  module _ {B L : Type 0} (f : FileState B L) where
    pub below_weighs : below_weight f (of_nodes h) ≡ weigh h (nodes_below f)
    below_weighs =
        let a = tickets_weightless f.tickets.slots.items in
        let b = slots_weigh (weight_direct (of_nodes h)) direct_nodes direct_weighs f.direct.slots.items in
        let c = slots_weigh (weight_indirect (of_nodes h)) indirect_nodes indirect_weighs f.indirect.slots.items in
        let d = slots_weigh (weight_double (of_nodes h)) double_nodes double_weighs f.double.slots.items in
        let ds = flat_map direct_nodes f.direct.slots.items in
        let is = flat_map indirect_nodes f.indirect.slots.items in
        let xs = flat_map double_nodes f.double.slots.items in
        let e = weigh-append h ds (is ++ xs) in
        let g = weigh-append h is xs in
        omega arith

    pub nodes_weigh : weight_of f (of_nodes h) ≡ weigh h (nodes_of f)
    nodes_weigh = let rest = below_weighs in omega arith

-- what weighs nothing together weighs nothing each
pub none_each : {A : Type 0} (h : A → ℕ) (xs : List A) → weigh h xs ≡ 0 → (x : A) → Among x xs → h x ≡ 0
none_each h xs none x m = let some = weigh_among h x xs m in omega arith

pub none_all : {A : Type 0} (h : A → ℕ) (xs : List A) → ((x : A) → Among x xs → h x ≡ 0) → weigh h xs ≡ 0
none_all h [] each = refl
none_all h (x ∷ xs) each =
    let here = each x (inl refl) in let rest = none_all h xs (λ y m. each y (inr m)) in omega arith

written_one : (e : TakenNumber) → 0 < e.address → unwritten e ≡ 0
written_one e some = ap (λ (b : Bool). if b then 1 else 0) (ne_eqb e.address 0 (λ none. absurd (omega arith)))

module _ {B L : Type 0} (f : FileState B L) where
  -- where no node is marked, none is
  pub unmarked_each : weight_of f each_marked ≡ 0 → (n : TreeNode) → Among n (nodes_of f) → n.dirty ≡ false
  unmarked_each none n m =
      let all = nodes_weigh (λ n. if n.dirty then 1 else 0) f in
      go n.dirty (none_each (λ (n : TreeNode). if n.dirty then 1 else 0) (nodes_of f) (omega arith) n m)
    where
      go : (b : Bool) → ◌≡◌ {A = ℕ} (if b then 1 else 0) 0 → b ≡ false
      go true e = absurd (omega arith)
      go false e = refl

  -- and each has a block
  pub written_where_clean : SpellsUnmarked f → weight_of f each_marked ≡ 0 → IsWritten f
  written_where_clean spelled clean =
      let all = nodes_weigh (λ n. unwritten n.token) f in
      let none = none_all (λ (n : TreeNode). unwritten n.token) (nodes_of f) (λ n m. written_one n.token (spelled n m (unmarked_each clean n m)).0) in
      omega arith
