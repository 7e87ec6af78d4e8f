-- A node that is missing on the way is counted, so where none is each step of the path finds its node: the last one is
-- there, and names the block.
use Rattle.std.proofs.Common.{◌≡◌, ℕ, ◌+◌, ◌-◌, ◌*◌, ◌/◌, ◌%◌, ◌<◌, Option, Some, None, refl, arith, ap, sym, ◌∙◌, inl, inr, subst}
use Rattle.std.specs.Prelude.{IsSome}
use Rattle.std.proofs.lemmas.Bool.{cases_lt}
use Rattle.std.proofs.Math.Nat.{div-eq_of_lt, mod-eq_of_lt}
use Rattle.tickets.specs.Placed.{Placed}
use Rattle.nodes.specs.declared.branch.Branch.{Branch}
use Rattle.nodes.specs.Tree.{entry_at, missing_in}
use Rattle.geometry.specs.declared.path.Path.{Path}
use Rattle.geometry.specs.declared.path.Path.TheVariants.{Direct, Indirect, Double}
use Rattle.geometry.specs.Path.{inode_entries, node_entries, largest_length, path}
use Rattle.nodes.specs.declared.file.FileState.{FileState}
use Rattle.nodes.specs.File.{joined, below, missing_to, missing_direct, missing_indirect, missing_double}
use Rattle.nodes.specs.Owners.{owner_in, owner_at}
use Rattle.nodes.proofs.Joined.{at_first, at_rest}
use Rattle.nodes.proofs.Bounds.{entries_positive}
use Rattle.nodes.proofs.Paths.{times_one, second, path_1, path_2, path_3, path_4}

module _ (e : ℕ) (p : 0 < e) where
  one_there : (x : Option (Branch Placed)) (j s : ℕ) → missing_direct e x j ≡ 0 → IsSome (owner_in x s)
  one_there None j s none = absurd (omega arith)
  one_there (Some b) j s none = refl

  two_there : (x : Option (Branch (Branch Placed))) (j s : ℕ) → missing_indirect e x j ≡ 0 → IsSome (owner_in (below x (j / e)) s)
  two_there None j s none = absurd (omega arith)
  two_there (Some b) j s none =
      one_there (entry_at b.entries.slots.items (j / e)) (j % e) s
      (subst (λ w. missing_direct e (entry_at b.entries.slots.items (j / w)) (j % w) ≡ 0) (times_one e) none)

  three_there : (x : Option (Branch (Branch (Branch Placed)))) (j s : ℕ) → missing_double e x j ≡ 0
      → IsSome (owner_in (below (below x (j / (e * e))) ((j / e) % e)) s)
  three_there None j s none = absurd (omega arith)
  three_there (Some b) j s none =
      let xs = b.entries.slots.items in
      let here : missing_indirect e (entry_at xs (j / (e * e))) (j % (e * e)) ≡ 0 =
      subst (λ w. missing_indirect e (entry_at xs (j / w)) (j % w) ≡ 0) (ap (λ z. e * z) (times_one e)) none in
      subst (λ a. IsSome (owner_in (below (entry_at xs (j / (e * e))) a) s)) (second j e p) (two_there (entry_at xs (j / (e * e))) (j % (e * e)) s here)

module _ {B L : Type 0} (f : FileState B L) where
  abbrev to_direct : ℕ → ℕ
  to_direct = let e = node_entries f.shape in missing_in (missing_direct e) (e * 1) f.direct.slots.items

  abbrev to_indirect : ℕ → ℕ
  to_indirect = let e = node_entries f.shape in missing_in (missing_indirect e) (e * (e * 1)) f.indirect.slots.items

  abbrev to_double : ℕ → ℕ
  to_double = let e = node_entries f.shape in missing_in (missing_double e) (e * (e * (e * 1))) f.double.slots.items

  direct_there : (k : ℕ) → to_direct k ≡ 0 → IsSome (owner_at f (Some (Direct (k / node_entries f.shape) (k % node_entries f.shape))))
  direct_there k none =
      let e = node_entries f.shape in
      let xs = f.direct.slots.items in
      one_there e (entries_positive f.shape) (entry_at xs (k / e)) (k % e) (k % e)
      (subst (λ w. missing_direct e (entry_at xs (k / w)) (k % w) ≡ 0) (times_one e) none)

  indirect_there : (k : ℕ) → to_indirect k ≡ 0
      → IsSome (owner_at f (Some (Indirect (2 + k / (node_entries f.shape * node_entries f.shape)) ((k / node_entries f.shape) % node_entries f.shape) (k % node_entries f.shape))))
  indirect_there k none =
      let e = node_entries f.shape in
      let p = entries_positive f.shape in
      let xs = f.indirect.slots.items in
      let back : k / (e * e) ≡ 2 + k / (e * e) - 2 = omega arith in
      let here : missing_indirect e (entry_at xs (k / (e * e))) (k % (e * e)) ≡ 0 =
      subst (λ w. missing_indirect e (entry_at xs (k / w)) (k % w) ≡ 0) (ap (λ z. e * z) (times_one e)) none in
      subst (λ a. IsSome (owner_in (below (entry_at xs a) ((k / e) % e)) (k % e))) back
      (subst (λ a. IsSome (owner_in (below (entry_at xs (k / (e * e))) a) (k % e))) (second k e p)
      (two_there e p (entry_at xs (k / (e * e))) (k % (e * e)) (k % e) here))

  double_there : (k : ℕ) → k < node_entries f.shape * (node_entries f.shape * node_entries f.shape) → to_double k ≡ 0
      → IsSome (owner_at f (Some (Double (k / (node_entries f.shape * node_entries f.shape)) ((k / node_entries f.shape) % node_entries f.shape) (k % node_entries f.shape))))
  double_there k h none =
      let e = node_entries f.shape in
      let xs = f.double.slots.items in
      let a : missing_double e (entry_at xs (k / (e * (e * e)))) (k % (e * (e * e))) ≡ 0 =
      subst (λ w. missing_double e (entry_at xs (k / w)) (k % w) ≡ 0) (ap (λ z. e * (e * z)) (times_one e)) none in
      let b : missing_double e (entry_at xs 0) (k % (e * (e * e))) ≡ 0 = subst (λ z. missing_double e (entry_at xs z) (k % (e * (e * e))) ≡ 0) (div-eq_of_lt h) a in
      let c : missing_double e (entry_at xs 0) k ≡ 0 = subst (λ z. missing_double e (entry_at xs 0) z ≡ 0) (mod-eq_of_lt h) b in
      three_there e (entries_positive f.shape) (entry_at xs 0) k (k % e) c

  pub owner_there : (i : ℕ) → i < largest_length f.shape → missing_to f i ≡ 0 → IsSome (owner_at f (path f.shape i))
  owner_there i h none =
      let d = inode_entries f.shape in
      let e = node_entries f.shape in
      let rest2 = joined (2 * (e * e)) to_indirect to_double in
      let rest1 = joined (2 * e) to_direct rest2 in
      let there : Option Path → Type 0 = λ p. IsSome (owner_at f p) in
      let third : i - d - 2 * e ≡ i - (d + 2 * e) = omega arith in
      let fourth : i - d - 2 * e - 2 * (e * e) ≡ i - (d + 2 * e + 2 * (e * e)) = omega arith in
      elim (cases_lt i d) [
        | inl low ↦ subst there (sym (path_1 d e i low)) refl
        | inr past ↦ let a = sym (at_rest d (λ _. 0) rest1 i past) ∙ none in elim (cases_lt i (d + 2 * e)) [
          | inl low ↦ subst there (sym (path_2 d e i past low)) (direct_there (i - d) (sym (at_first (2 * e) to_direct rest2 (i - d) (omega arith)) ∙ a))
          | inr past ↦ let b = sym (at_rest (2 * e) to_direct rest2 (i - d) (omega arith)) ∙ a in elim (cases_lt i (d + 2 * e + 2 * (e * e))) [
            | inl low ↦ subst there (sym (path_3 d e i past low)) (indirect_there (i - (d + 2 * e))
                (ap to_indirect (sym third) ∙ (sym (at_first (2 * (e * e)) to_indirect to_double (i - d - 2 * e) (omega arith)) ∙ b)))
            | inr past ↦ subst there (sym (path_4 d e i past h)) (double_there (i - (d + 2 * e + 2 * (e * e))) (omega arith)
                (ap to_double (sym fourth) ∙ (sym (at_rest (2 * (e * e)) to_indirect to_double (i - d - 2 * e) (omega arith)) ∙ b)))
          ]
        ]
      ]
