-- Laws of the definitions, for the laws of the trait.
use Rattle.std.proofs.Common.{true, false, zero, suc, ◌≡◌, ◌==◌, ℕ, ◌+◌, ◌/◌, ◌%◌, ◌<◌, Bool, Option, Some, None, if◌then◌else◌, refl, arith}
use Rattle.nodes.specs.declared.branch.Branch.{Branch}
use Rattle.nodes.specs.Tree.{missing_below, entry_at}
use Rattle.nodes.specs.Change.{unnumbered}
use Rattle.nodes.specs.Spares.{lacking_below, token_weight, number_at_end}

pub no_node : true ≡ false → ⊥
no_node e = let no = e in cc

pub some_missing : (n : ℕ) → 0 < 1 + n
some_missing n = omega arith

numbered_entry : (n : ℕ) → ◌≡◌ {A = ℕ} (if n == 0 then 1 else 0) 0 → 0 < n
numbered_entry zero e = absurd (omega arith)
numbered_entry (suc n) e = omega arith

module _ {C S : Type 0} (is_leaf : Bool) (missing : Option C → ℕ → ℕ) (lacking : Option C → ℕ → S → ℕ) (end_number : S → ℕ) (unnumbered_in : S → ℕ) (span : ℕ)
    (none : (i : ℕ) → is_leaf ≡ false → 0 < missing None i)
    (leaf : (s : Option C) (i : ℕ) → is_leaf ≡ true → missing s i ≡ 0)
    (named : (i : ℕ) (slot : Option C) (s : S) → is_leaf ≡ false → 0 < missing slot i → lacking slot i s ≡ 0 → unnumbered_in s ≡ 0 → 0 < end_number s) where
  -- where all nodes that are missing were made, and have numbers, the one at the end of the way has one
  pub end_has_number : (slot : Option (Branch C)) (i : ℕ) (spare : Option (Branch C)) (below : S)
      → 0 < missing_below (λ b. b.entries.slots.items) missing span slot i → lacking_below lacking span slot i spare below ≡ 0
      → token_weight unnumbered spare + unnumbered_in below ≡ 0 → 0 < number_at_end is_leaf end_number spare below
  end_has_number slot i spare below gone ready numbered = by_level is_leaf refl slot spare gone ready numbered
    where
      by_level : (l : Bool) → is_leaf ≡ l → (slot : Option (Branch C)) (spare : Option (Branch C))
          → 0 < missing_below (λ b. b.entries.slots.items) missing span slot i → lacking_below lacking span slot i spare below ≡ 0
          → token_weight unnumbered spare + unnumbered_in below ≡ 0 → 0 < number_at_end l end_number spare below
      by_level true e None None gone ready numbered = absurd (omega arith)
      by_level true e None (Some b) gone ready numbered = numbered_entry b.token.number (omega arith)
      by_level true e (Some b) spare gone ready numbered =
          let no = leaf (entry_at b.entries.slots.items (i / span)) (i % span) e in absurd (omega arith)
      by_level false e None spare gone ready numbered =
          named (i % span) None below e (none (i % span) e) (omega arith) (omega arith)
      by_level false e (Some b) spare gone ready numbered =
          named (i % span) (entry_at b.entries.slots.items (i / span)) below e gone ready (omega arith)
