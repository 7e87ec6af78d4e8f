-- An index falls to one of four ranges, and its way lacks or misses nodes as that range's does: so where all that is
-- missing is spare, the spare at the end has a number, which may be named.
use Rattle.std.proofs.Common.{◌≡◌, ℕ, ◌+◌, ◌-◌, ◌*◌, ◌/◌, ◌%◌, ◌^◌, ◌<◌, ◌≤◌, Option, None, true, false, refl, arith, sym, subst, ◌∙◌, inl, inr, lit<}
use Rattle.std.proofs.lemmas.Bool.{cases_lt}
use Rattle.std.proofs.lemmas.Nat.{mod_below}
use Rattle.geometry.specs.declared.path.Path.{Path}
use Rattle.geometry.specs.Path.{inode_entries, node_entries, path}
use Rattle.tickets.specs.Placed.{Placed}
use Rattle.nodes.specs.declared.branch.Branch.{Branch}
use Rattle.nodes.specs.Tree.{missing_in, number_of, entry_at}
use Rattle.nodes.specs.Laws.{no_leaf}
use Rattle.nodes.specs.Change.{unnumbered}
use Rattle.nodes.specs.Spares.{lacking_in, token_weight}
use Rattle.nodes.specs.SpareLaws.{no_node, some_missing, end_has_number}
use Rattle.nodes.specs.declared.file.FileState.{FileState}
use Rattle.nodes.specs.declared.spare_path.SparePath.{SparePath}
use Rattle.nodes.specs.File.{joined, missing_to, missing_direct, missing_indirect, missing_double}
use Rattle.nodes.specs.Lacking.{SpareDirect, SpareIndirect, SpareDouble, lacking_direct, lacking_indirect, lacking_double, lacking_to, spare_tokens, end_number, last_entry}
use Rattle.nodes.proofs.Joined.{at_first, at_rest}
use Rattle.nodes.proofs.Bounds.{entries_positive}
use Rattle.nodes.proofs.Paths.{path_1, path_2, path_3, path_4, path_5}
use Rattle.nodes.proofs.Numbered.{IsSlot, few_entries, few_slots}

-- of four maps that are joined, the one that an index falls to
module _ {A : Type 0} (d w1 w2 : ℕ) (a b c x : ℕ → A) (i : ℕ) where
  pub in_second : d ≤ i → i - d < w1 → joined d a (joined w1 b (joined w2 c x)) i ≡ b (i - d)
  in_second h k = at_rest d a (joined w1 b (joined w2 c x)) i h ∙ at_first w1 b (joined w2 c x) (i - d) k

  pub in_third : d ≤ i → w1 ≤ i - d → i - d - w1 < w2 → joined d a (joined w1 b (joined w2 c x)) i ≡ c (i - d - w1)
  in_third h k l =
      at_rest d a (joined w1 b (joined w2 c x)) i h ∙ (at_rest w1 b (joined w2 c x) (i - d) k ∙ at_first w2 c x (i - d - w1) l)

  pub in_fourth : d ≤ i → w1 ≤ i - d → w2 ≤ i - d - w1 → joined d a (joined w1 b (joined w2 c x)) i ≡ x (i - d - w1 - w2)
  in_fourth h k l =
      at_rest d a (joined w1 b (joined w2 c x)) i h ∙ (at_rest w1 b (joined w2 c x) (i - d) k ∙ at_rest w2 c x (i - d - w1) l)

module _ {L : Type 0} (e : ℕ) where
  named_direct : (slot : Option (Branch Placed)) (i : ℕ) (s : SpareDirect L) → 0 < missing_direct e slot i → lacking_direct e slot i s ≡ 0
      → token_weight unnumbered s.node + 0 ≡ 0 → 0 < number_of (λ (b : Branch Placed). b.token.number) s.node
  named_direct slot i s gone ready numbered =
      end_has_number true (λ _ _. 0) (λ _ _ _. 0) (λ _. 0) (λ _. 0) 1 (λ _ no. absurd (no_node no)) (λ _ _ _. refl) (λ _ _ _ no _ _ _. absurd (no_node no))
      slot i s.node s.below gone ready numbered

  named_indirect : (slot : Option (Branch (Branch Placed))) (i : ℕ) (s : SpareIndirect L) → 0 < missing_indirect e slot i → lacking_indirect e slot i s ≡ 0
      → token_weight unnumbered s.node + (token_weight unnumbered s.below.node + 0) ≡ 0 → 0 < number_of (λ (b : Branch Placed). b.token.number) s.below.node
  named_indirect slot i s gone ready numbered =
      end_has_number false (missing_direct e) (lacking_direct e) (λ (t : SpareDirect L). number_of (λ (b : Branch Placed). b.token.number) t.node)
      (λ (t : SpareDirect L). token_weight unnumbered t.node + 0) (e * 1) (λ _ _. some_missing 0) (λ _ _ no. absurd (no_leaf no))
      (λ i slot t _ gone ready numbered. named_direct slot i t gone ready numbered)
      slot i s.node s.below gone ready numbered

  named_double : (slot : Option (Branch (Branch (Branch Placed)))) (i : ℕ) (s : SpareDouble L) → 0 < missing_double e slot i → lacking_double e slot i s ≡ 0
      → token_weight unnumbered s.node + (token_weight unnumbered s.below.node + (token_weight unnumbered s.below.below.node + 0)) ≡ 0
      → 0 < number_of (λ (b : Branch Placed). b.token.number) s.below.below.node
  named_double slot i s gone ready numbered =
      end_has_number false (missing_indirect e) (lacking_indirect e) (λ (t : SpareIndirect L). number_of (λ (b : Branch Placed). b.token.number) t.below.node)
      (λ (t : SpareIndirect L). token_weight unnumbered t.node + (token_weight unnumbered t.below.node + 0)) (e * (e * 1)) (λ i _. some_missing (missing_direct e None (i % (e * 1))))
      (λ _ _ no. absurd (no_leaf no))
      (λ i slot t _ gone ready numbered. named_indirect slot i t gone ready numbered)
      slot i s.node s.below gone ready numbered

module _ {B L : Type 0} (f : FileState B L) (i : ℕ) where
  abbrev d : ℕ
  d = inode_entries f.shape

  abbrev e : ℕ
  e = node_entries f.shape

  abbrev lacks_direct : SparePath B L → ℕ → ℕ
  lacks_direct s k = lacking_in (lacking_direct e) (e * 1) f.direct.slots.items k s.nodes.below.below

  abbrev lacks_indirect : SparePath B L → ℕ → ℕ
  lacks_indirect s k = lacking_in (lacking_indirect e) (e * (e * 1)) f.indirect.slots.items k s.nodes.below

  abbrev lacks_double : SparePath B L → ℕ → ℕ
  lacks_double s k = lacking_in (lacking_double e) (e * (e * (e * 1))) f.double.slots.items k s.nodes

  -- what the way lacks, by the range that the index falls to
  pub lacking_second : (s : SparePath B L) → d ≤ i → i - d < 2 * e → lacking_to f i s ≡ lacks_direct s (i - d)
  lacking_second s h k = in_second d (2 * e) (2 * (e * e)) (λ _. 0) (lacks_direct s) (lacks_indirect s) (lacks_double s) i h k

  pub lacking_third : (s : SparePath B L) → d ≤ i → 2 * e ≤ i - d → i - d - 2 * e < 2 * (e * e) → lacking_to f i s ≡ lacks_indirect s (i - d - 2 * e)
  lacking_third s h k l = in_third d (2 * e) (2 * (e * e)) (λ _. 0) (lacks_direct s) (lacks_indirect s) (lacks_double s) i h k l

  pub lacking_fourth : (s : SparePath B L) → d ≤ i → 2 * e ≤ i - d → 2 * (e * e) ≤ i - d - 2 * e
      → lacking_to f i s ≡ lacks_double s (i - d - 2 * e - 2 * (e * e))
  lacking_fourth s h k l = in_fourth d (2 * e) (2 * (e * e)) (λ _. 0) (lacks_direct s) (lacks_indirect s) (lacks_double s) i h k l

  abbrev misses_direct : ℕ → ℕ
  misses_direct = missing_in (missing_direct e) (e * 1) f.direct.slots.items

  abbrev misses_indirect : ℕ → ℕ
  misses_indirect = missing_in (missing_indirect e) (e * (e * 1)) f.indirect.slots.items

  abbrev misses_double : ℕ → ℕ
  misses_double = missing_in (missing_double e) (e * (e * (e * 1))) f.double.slots.items

  pub missing_second : d ≤ i → i - d < 2 * e → missing_to f i ≡ misses_direct (i - d)
  missing_second h k = in_second d (2 * e) (2 * (e * e)) (λ _. 0) misses_direct misses_indirect misses_double i h k

  pub missing_third : d ≤ i → 2 * e ≤ i - d → i - d - 2 * e < 2 * (e * e) → missing_to f i ≡ misses_indirect (i - d - 2 * e)
  missing_third h k l = in_third d (2 * e) (2 * (e * e)) (λ _. 0) misses_direct misses_indirect misses_double i h k l

  pub missing_fourth : d ≤ i → 2 * e ≤ i - d → 2 * (e * e) ≤ i - d - 2 * e → missing_to f i ≡ misses_double (i - d - 2 * e - 2 * (e * e))
  missing_fourth h k l = in_fourth d (2 * e) (2 * (e * e)) (λ _. 0) misses_direct misses_indirect misses_double i h k l

-- the spare node at the end of the way has a number
pub spare_named : {B L : Type 0} (f : FileState B L) (i : ℕ) (s : SparePath B L) → 0 < missing_to f i → lacking_to f i s ≡ 0 → spare_tokens unnumbered s ≡ 0 → 0 < end_number s
spare_named f i s gone ready numbered =
    let d = inode_entries f.shape in
    let e = node_entries f.shape in
    elim (cases_lt i d) [
      | inl low ↦ absurd (let none = at_first d (λ _. 0) (joined (2 * e) (misses_direct f i) (joined (2 * (e * e)) (misses_indirect f i) (misses_double f i))) i low in omega arith)
      | inr past ↦ elim (cases_lt (i - d) (2 * e)) [
        | inl low ↦
            let k = i - d in
            let m = missing_second f i past low in
            named_direct e (entry_at f.direct.slots.items (k / (e * 1))) (k % (e * 1)) s.nodes.below.below (omega arith) (sym (lacking_second f i s past low) ∙ ready) (omega arith)
        | inr next ↦ elim (cases_lt (i - d - 2 * e) (2 * (e * e))) [
          | inl low ↦
              let k = i - d - 2 * e in
              let m = missing_third f i past next low in
              named_indirect e (entry_at f.indirect.slots.items (k / (e * (e * 1)))) (k % (e * (e * 1))) s.nodes.below (omega arith)
              (sym (lacking_third f i s past next low) ∙ ready) (omega arith)
          | inr last ↦
              let k = i - d - 2 * e - 2 * (e * e) in
              let m = missing_fourth f i past next last in
              named_double e (entry_at f.double.slots.items (k / (e * (e * (e * 1))))) (k % (e * (e * (e * 1)))) s.nodes (omega arith)
              (sym (lacking_fourth f i s past next last) ∙ ready) numbered
        ]
      ]
    ]

-- the entry at the end of a path has a slot's number
pub last_small : {B L : Type 0} (f : FileState B L) (i : ℕ) → last_entry (path f.shape i) < 2 ^ 32 - 1
last_small f i =
    let d = inode_entries f.shape in
    let e = node_entries f.shape in
    let p = entries_positive f.shape in
    let few = few_entries f.shape in
    let slots = few_slots f.shape in
    let small : Option Path → Type 0 = λ p. IsSlot (last_entry p) in
    elim (cases_lt i d) [
      | inl low ↦ subst small (sym (path_1 d e i low)) (omega arith)
      | inr past ↦ elim (cases_lt i (d + 2 * e)) [
        | inl low ↦ subst small (sym (path_2 d e i past low)) (let b = mod_below (i - d) e p in omega arith)
        | inr past ↦ elim (cases_lt i (d + 2 * e + 2 * (e * e))) [
          | inl low ↦ subst small (sym (path_3 d e i past low)) (let b = mod_below (i - (d + 2 * e)) e p in omega arith)
          | inr past ↦ elim (cases_lt i (d + 2 * e + 2 * (e * e) + e * e * e)) [
            | inl low ↦ subst small (sym (path_4 d e i past low)) (let b = mod_below (i - (d + 2 * e + 2 * (e * e))) e p in omega arith)
            | inr past ↦ subst small (sym (path_5 d e i past)) (lit< tt)
          ]
        ]
      ]
    ]
