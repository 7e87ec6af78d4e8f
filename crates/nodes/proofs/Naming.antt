-- Where no node names an address at an entry.
use Rattle.std.proofs.Common.{◌≡◌, ◌≢◌, ℕ, ◌==◌, ◌&&◌, Bool, true, false, if◌then◌else◌, List, [], map, get_or, Option, Some, None, refl, ap, ◌∙◌, ne_eqb, arith}
use Rattle.nodes.specs.declared.branch.Branch.{Branch}
use Rattle.nodes.specs.Tree.{number_of, entry_at}
use Rattle.nodes.specs.Change.{Weighing, tree_node, weight_below, names, each_naming}
use Rattle.nodes.proofs.Changes.{weigh_zero}

false_and : (a b : Bool) → a ≡ false → (a && b) ≡ false
false_and a b e = ap (λ x. x && b) e

and_false : (a b : Bool) → b ≡ false → (a && b) ≡ false
and_false true b e = e
and_false false b e = refl

module _ {L C : Type 0} (leaf : Bool) (number : Option C → ℕ) (weight : Weighing L → Option C → ℕ) (nid at from : ℕ)
    (below : (s : Option C) → weight (each_naming nid at from) s ≡ 0) where
  unnamed : (b : Branch C) → names nid at from (tree_node leaf b.token (map number b.entries.slots.items) b.entries.dirty) ≡ false
      → weight_below (λ (b : Branch C). tree_node leaf b.token (map number b.entries.slots.items) b.entries.dirty) (λ b. b.entries.slots.items) weight (each_naming nid at from) (Some b) ≡ 0
  unnamed b isnt =
      let here : ◌≡◌ {A = ℕ} (if names nid at from (tree_node leaf b.token (map number b.entries.slots.items) b.entries.dirty) then 1 else 0) 0 = ap (λ x. if x then 1 else 0) isnt in
      let rest = weigh_zero (weight (each_naming nid at from)) b.entries.slots.items (λ k h. below (entry_at b.entries.slots.items k)) in
      omega arith

  pub other_number : (slot : Option (Branch C)) → number_of (λ (b : Branch C). b.token.number) slot ≢ nid
      → weight_below (λ (b : Branch C). tree_node leaf b.token (map number b.entries.slots.items) b.entries.dirty) (λ b. b.entries.slots.items) weight (each_naming nid at from) slot ≡ 0
  other_number None ne = refl
  other_number (Some b) ne = unnamed b (false_and _ _ (ne_eqb b.token.number nid ne))

  pub other_address : (b : Branch C) → leaf ≡ true → get_or (map number b.entries.slots.items) at 0 ≢ from
      → weight_below (λ (b : Branch C). tree_node leaf b.token (map number b.entries.slots.items) b.entries.dirty) (λ b. b.entries.slots.items) weight (each_naming nid at from) (Some b) ≡ 0
  other_address b is ne =
      let all : (if leaf then map number b.entries.slots.items else []) ≡ map number b.entries.slots.items = ap (λ x. if x then map number b.entries.slots.items else []) is in
      unnamed b (and_false _ _ (ap (λ (l : List ℕ). get_or l at 0 == from) all ∙ ne_eqb (get_or (map number b.entries.slots.items) at 0) from ne))
