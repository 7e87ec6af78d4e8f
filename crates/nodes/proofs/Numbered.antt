-- No node of a file lacks a number, so none on a path does; and slots are fewer than a summary can tell: so each owner
-- that is found at the end of a path is a valid one.
use Rattle.std.proofs.Common.{◌≡◌, ℕ, zero, suc, ◌+◌, ◌-◌, ◌*◌, ◌/◌, ◌%◌, ◌^◌, ◌<◌, ◌==◌, List, Option, Some, None, if◌then◌else◌, length, refl, arith, sym, subst, ap, ◌∙◌, inl, inr, lit<}
use Rattle.std.specs.Prelude.{MatchOption}
use Rattle.std.proofs.lemmas.Bool.{cases_lt}
use Rattle.std.proofs.lemmas.List.{get_or_past}
use Rattle.std.proofs.lemmas.Nat.{mod_below}
use Rattle.geometry.specs.Weights.{weigh}
use Rattle.geometry.proofs.Weighing.{weigh-at}
use Rattle.geometry.specs.declared.shape.Shape.{Shape}
use Rattle.geometry.specs.declared.shape.Shape.TheVariants.{Tiny, Kernel}
use Rattle.geometry.specs.declared.path.Path.{Path}
use Rattle.geometry.specs.Owner.{IsOwner}
use Rattle.geometry.specs.Path.{inode_entries, node_entries, path}
use Rattle.tickets.specs.Placed.{Placed}
use Rattle.nodes.specs.declared.branch.Branch.{Branch}
use Rattle.nodes.specs.Tree.{entry_at}
use Rattle.nodes.specs.Change.{Weighing, of_tokens, unnumbered}
use Rattle.nodes.specs.declared.file.FileState.{FileState}
use Rattle.nodes.specs.File.{below, weight_direct, weight_indirect, weight_double}
use Rattle.nodes.specs.Owners.{owner_in, owner_at, HasNumbers}
use Rattle.nodes.proofs.Bounds.{entries_positive}
use Rattle.nodes.proofs.Paths.{path_1, path_2, path_3, path_4, path_5}

abbrev numbers : Weighing Placed
numbers = of_tokens unnumbered

positive : (n : ℕ) → ◌≡◌ {A = ℕ} (if n == 0 then 1 else 0) 0 → 0 < n
positive zero is = absurd (omega arith)
positive (suc n) is = omega arith

-- what stands at an entry weighs no more than all entries
at_entry : {C : Type 0} (weight : Option C → ℕ) → weight None ≡ 0 → (xs : List (Option C)) (i : ℕ) → weigh weight xs ≡ 0 → weight (entry_at xs i) ≡ 0
at_entry weight none xs i all = elim (cases_lt i (length xs)) [
  | inl lt ↦ let one = weigh-at weight xs i None lt in omega arith
  | inr ge ↦ ap weight (get_or_past xs i None ge) ∙ none
]

-- a slot number
abbrev pub IsSlot : ℕ → Type 0
IsSlot s = s < 2 ^ 32 - 1

one_owner : (x : Option (Branch Placed)) (s : ℕ) → weight_direct numbers x ≡ 0 → IsSlot s → MatchOption (owner_in x s) (Unit {0}) IsOwner
one_owner None s none small = tt
one_owner (Some b) s none small = (positive b.token.number (omega arith), small)

two_owner : (x : Option (Branch (Branch Placed))) (a s : ℕ) → weight_indirect numbers x ≡ 0 → IsSlot s → MatchOption (owner_in (below x a) s) (Unit {0}) IsOwner
two_owner None a s none small = tt
two_owner (Some b) a s none small =
    one_owner (entry_at b.entries.slots.items a) s (at_entry (weight_direct numbers) refl b.entries.slots.items a (omega arith)) small

three_owner : (x : Option (Branch (Branch (Branch Placed)))) (a c s : ℕ) → weight_double numbers x ≡ 0 → IsSlot s
    → MatchOption (owner_in (below (below x a) c) s) (Unit {0}) IsOwner
three_owner None a c s none small = tt
three_owner (Some b) a c s none small =
    two_owner (entry_at b.entries.slots.items a) c s (at_entry (weight_indirect numbers) refl b.entries.slots.items a (omega arith)) small

pub few_entries : (s : Shape) → node_entries s < 2 ^ 32 - 1
few_entries Tiny = lit< tt
few_entries Kernel = lit< tt

pub few_slots : (s : Shape) → inode_entries s < 2 ^ 32 - 1
few_slots Tiny = lit< tt
few_slots Kernel = lit< tt

module _ {B L : Type 0} (f : FileState B L) (has : HasNumbers f) where
  pub owner_valid : (i : ℕ) → MatchOption (owner_at f (path f.shape i)) (Unit {0}) IsOwner
  owner_valid i =
      let d = inode_entries f.shape in
      let e = node_entries f.shape in
      let p = entries_positive f.shape in
      let few = few_entries f.shape in
      let slots = few_slots f.shape in
      let valid : Option Path → Type 0 = λ p. MatchOption (owner_at f p) (Unit {0}) IsOwner in
      elim (cases_lt i d) [
        | inl low ↦ subst valid (sym (path_1 d e i low)) (positive f.token.number (omega arith), omega arith)
        | inr past ↦ elim (cases_lt i (d + 2 * e)) [
          | inl low ↦ subst valid (sym (path_2 d e i past low)) (
              let k = i - d in
              let b = mod_below k e p in
              one_owner (entry_at f.direct.slots.items (k / e)) (k % e) (at_entry (weight_direct numbers) refl f.direct.slots.items (k / e) (omega arith)) (omega arith))
          | inr past ↦ elim (cases_lt i (d + 2 * e + 2 * (e * e))) [
            | inl low ↦ subst valid (sym (path_3 d e i past low)) (
                let k = i - (d + 2 * e) in
                let b = mod_below k e p in
                two_owner (entry_at f.indirect.slots.items (2 + k / (e * e) - 2)) (k / e % e) (k % e)
                (at_entry (weight_indirect numbers) refl f.indirect.slots.items (2 + k / (e * e) - 2) (omega arith)) (omega arith))
            | inr past ↦ elim (cases_lt i (d + 2 * e + 2 * (e * e) + e * e * e)) [
              | inl low ↦ subst valid (sym (path_4 d e i past low)) (
                  let k = i - (d + 2 * e + 2 * (e * e)) in
                  let b = mod_below k e p in
                  three_owner (entry_at f.double.slots.items 0) (k / (e * e)) (k / e % e) (k % e)
                  (at_entry (weight_double numbers) refl f.double.slots.items 0 (omega arith)) (omega arith))
              | inr past ↦ subst valid (sym (path_5 d e i past)) tt
            ]
          ]
        ]
      ]
