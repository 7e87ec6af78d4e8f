-- The tree is what is seen of the state, entry by entry, and an index has one path in both: so at its end stands the
-- address of the state's ticket.
use Rattle.std.proofs.Common.{◌≡◌, ℕ, zero, suc, ◌≤◌, List, [], ◌∷◌, map, Option, Some, None, inl, inr, refl, sym, ap, ◌∙◌, arith}
use Rattle.std.specs.Prelude.{slice_index}
use Rattle.std.proofs.lemmas.Bool.{cases_lt}
use Rattle.geometry.specs.declared.path.Path.{Path}
use Rattle.geometry.specs.declared.path.Path.TheVariants.{Inode, Direct, Indirect, Double}
use Rattle.geometry.specs.Path.{largest_length, path}
use Rattle.image.proofs.Frame.{IsOfTable, path_of_table}
use Rattle.image.proofs.Testing.{path_past}
use Rattle.image_law.specs.Parts.{data_in, slot_of, ticket_on, ticket_at as tree_ticket_at}
use Rattle.tickets.specs.Placed.{Placed}
use Rattle.nodes.specs.declared.branch.Branch.{Branch}
use Rattle.nodes.specs.Tree.{entry_at}
use Rattle.nodes.specs.declared.file.FileState.{FileState}
use Rattle.nodes.specs.File.{IsFile, below, address_of, ends_at, ticket_at}
use Rattle.nodes.proofs.Paths.{path_is}
use Rattle.checkpoint_sync.specs.TreeOf.{seen, direct_tree, indirect_tree, double_tree, tree_of}

address_in : (xs : List (Option Placed)) (k : ℕ) → slice_index (map address_of xs) k ≡ address_of (entry_at xs k)
address_in [] k = refl
address_in (x ∷ xs) zero = refl
address_in (x ∷ xs) (suc k) = address_in xs k

seen_in : {A T : Type 0} (see : A → T) (xs : List (Option A)) (k : ℕ) → entry_at (map (seen see) xs) k ≡ seen see (entry_at xs k)
seen_in see [] k = refl
seen_in see (x ∷ xs) zero = refl
seen_in see (x ∷ xs) (suc k) = seen_in see xs k

direct_slot : (x : Option (Branch Placed)) (s : ℕ) → data_in (seen direct_tree x) s ≡ address_of (below x s)
direct_slot None s = refl
direct_slot (Some b) s = address_in b.entries.slots.items s

indirect_slot : (x : Option (Branch (Branch Placed))) (a : ℕ) → slot_of (seen indirect_tree x) a ≡ seen direct_tree (below x a)
indirect_slot None a = refl
indirect_slot (Some b) a = seen_in direct_tree b.entries.slots.items a

double_slot : (x : Option (Branch (Branch (Branch Placed)))) (a : ℕ) → slot_of (seen double_tree x) a ≡ seen indirect_tree (below x a)
double_slot None a = refl
double_slot (Some b) a = seen_in indirect_tree b.entries.slots.items a

module _ {B L : Type 0} (f : FileState B L) where
  ticket_on_is : (p : Option Path) → IsOfTable p → ticket_on (tree_of f) p ≡ address_of (ends_at f p)
  ticket_on_is None t = refl
  ticket_on_is (Some (Inode s)) t = address_in f.tickets.slots.items s
  ticket_on_is (Some (Direct zero s)) t = direct_slot (entry_at f.direct.slots.items 0) s
  ticket_on_is (Some (Direct (suc zero) s)) t = direct_slot (entry_at f.direct.slots.items 1) s
  ticket_on_is (Some (Direct (suc (suc p)) s)) t = absurd (omega arith)
  ticket_on_is (Some (Indirect zero a s)) t = absurd (omega arith)
  ticket_on_is (Some (Indirect (suc zero) a s)) t = absurd (omega arith)
  ticket_on_is (Some (Indirect (suc (suc zero)) a s)) t =
      ap (λ x. data_in x s) (indirect_slot (entry_at f.indirect.slots.items 0) a) ∙ direct_slot (below (entry_at f.indirect.slots.items 0) a) s
  ticket_on_is (Some (Indirect (suc (suc (suc zero))) a s)) t =
      ap (λ x. data_in x s) (indirect_slot (entry_at f.indirect.slots.items 1) a) ∙ direct_slot (below (entry_at f.indirect.slots.items 1) a) s
  ticket_on_is (Some (Indirect (suc (suc (suc (suc p)))) a s)) t = absurd (omega arith)
  ticket_on_is (Some (Double a b s)) t =
      ap (λ x. data_in (slot_of x b) s) (double_slot (entry_at f.double.slots.items 0) a)
      ∙ (ap (λ x. data_in x s) (indirect_slot (below (entry_at f.double.slots.items 0) a) b)
      ∙ direct_slot (below (below (entry_at f.double.slots.items 0) a) b) s)

  pub ticket_is : IsFile f → f.length ≤ largest_length f.shape → (index : ℕ) → tree_ticket_at f.shape (tree_of f) index ≡ address_of (ticket_at f index)
  ticket_is is short index = elim (cases_lt index (largest_length f.shape)) [
    | inl low ↦ ticket_on_is (path f.shape index) (path_of_table f.shape index) ∙ sym (ap address_of (path_is f index low))
    | inr past ↦ ap (ticket_on (tree_of f)) (path_past f.shape index past) ∙ sym (ap address_of (is.within index (omega arith)))
  ]
