-- In a lawful image nothing misfits below an inode, so no place on the way down does; and the blocks that a load takes,
-- entry by entry, are those that the walk names.
use Rattle.std.proofs.Common.{◌≡◌, ℕ, zero, suc, ◌+◌, ◌-◌, ◌<◌, ◌≤◌, ◌==◌, Bool, true, false, not, ◌&&◌, List, [], ◌∷◌, ◌++◌, length, if◌then◌else◌, inl, inr, refl, sym, ap, subst, ◌∙◌, ne_eqb, arith}
use Rattle.std.specs.Prelude.{slice_index, slice_index_or, All, Contains, filter}
use Rattle.std.specs.List.{flat_map}
use Rattle.std.proofs.lemmas.Bool.{cases_lt, eqb-true}
use Rattle.std.proofs.lemmas.List.{get_or_past}
use Rattle.std.proofs.lemmas.List.Elements.{filter-append, Contains-append_left, Contains-append_right}
use Rattle.geometry.specs.Weights.{weigh}
use Rattle.geometry.proofs.Weighing.{weigh-append}
use Rattle.geometry.specs.declared.geometry.Geometry.{Geometry}
use Rattle.geometry.specs.declared.owner.Mark.{Mark}
use Rattle.geometry.specs.Path.{node_entries}
use Rattle.image.specs.Node.{Node, HasEntries}
use Rattle.image.specs.Image.{Image, no_node, entry_of, node_of}
use Rattle.image.specs.Walk.{data_names, own_names, class_at, fits, names_below, child, walk, is_taken, misfits_below, misfits, up_to}
use Rattle.image.specs.Rules.{IsInRange, HasRange}
use Rattle.mount_blocks.specs.Loaded.{name_weight, names_below as loaded_names, weigh_from, FitsBelow}
use Rattle.mount_blocks.proofs.Stocks.{some_name, node_names}
use Rattle.mount_blocks.specs.FileLoaded.{FitsFile, fits_direct, fits_indirect, fits_double, names_direct, names_indirect, file_names}

both : (a b : Bool) → a && b ≡ true → (a ≡ true) × (b ≡ true)
both true true e = (refl, refl)
both true false e = cc
both false b e = cc

fits_of_none : (b : Bool) (k : ℕ) (xs : List ℕ) → (if b then xs else k ∷ []) ≡ [] → (b ≡ true) × (xs ≡ [])
fits_of_none true k xs e = (refl, e)
fits_of_none false k xs e = cc

append_none : (xs ys : List ℕ) → xs ++ ys ≡ [] → (xs ≡ []) × (ys ≡ [])
append_none [] ys e = (refl, e)
append_none (x ∷ xs) ys e = cc

module _ (geometry : Geometry) (image : Image) (range : IsInRange geometry image) where
  abbrev e : ℕ
  e = node_entries geometry.shape

  node_is : (n : ℕ) → 0 < n → node_of image n ≡ slice_index_or image.nodes (n - 1) no_node
  node_is n positive = let some : (n == 0) ≡ false = ne_eqb n 0 (λ z. absurd (omega arith)) in rw some refl

  -- a node that is there has its numbers in range
  in_range : (n : ℕ) → 0 < n → (node_of image n).class < 3 → HasRange geometry (node_of image n)
  in_range n positive class = elim (cases_lt (n - 1) (length image.nodes)) [
    | inl within ↦ subst (HasRange geometry) (sym (node_is n positive)) (range.nodes (n - 1) no_node within)
    | inr past ↦
        let none = ap (λ (m : Node). m.class) (node_is n positive ∙ get_or_past image.nodes (n - 1) no_node past) in
        absurd (omega arith)
  ]

  module _ (inode : ℕ) where
    parts : (level n : ℕ) → fits image inode level n ≡ true → ((entry_of image n).inode ≡ inode) × ((node_of image n).class ≡ class_at level)
    parts level n all =
        let first = both (not ((entry_of image n).address == 0) && ((entry_of image n).inode == inode)) ((node_of image n).class == class_at level) all in
        let second = both (not ((entry_of image n).address == 0)) ((entry_of image n).inode == inode) first.0 in
        (eqb-true _ _ second.1, eqb-true _ _ first.1)

    direct_parts : (n : ℕ) → misfits_below image inode 0 n ≡ [] → 0 < n → fits image inode 0 n ≡ true
    direct_parts zero none positive = absurd (omega arith)
    direct_parts (suc k) none positive = (fits_of_none (fits image inode 0 (suc k)) (suc k) [] none).0

    higher_parts : (level n : ℕ) → misfits_below image inode (suc level) n ≡ [] → 0 < n
        → (fits image inode (suc level) n ≡ true) × (flat_map (misfits_below image inode level) (node_of image n).children ≡ [])
    higher_parts level zero none positive = absurd (omega arith)
    higher_parts level (suc k) none positive = fits_of_none (fits image inode (suc level) (suc k)) (suc k) (flat_map (misfits_below image inode level) (node_of image (suc k)).children) none

    child_none : (level : ℕ) (xs : List ℕ) (slot : ℕ) → flat_map (misfits_below image inode level) xs ≡ [] → misfits_below image inode level (slice_index xs slot) ≡ []
    child_none level [] slot none = refl
    child_none level (x ∷ xs) zero none = (append_none (misfits_below image inode level x) (flat_map (misfits_below image inode level) xs) none).0
    child_none level (x ∷ xs) (suc slot) none = child_none level xs slot (append_none (misfits_below image inode level x) (flat_map (misfits_below image inode level) xs) none).1

    direct_entries : (n : ℕ) → 0 < n → (node_of image n).class ≡ 1 → HasEntries geometry.shape (node_of image n) 1
    direct_entries n positive class = subst (HasEntries geometry.shape (node_of image n)) class (in_range n positive (omega arith)).entries

    higher_entries : (n : ℕ) → 0 < n → (node_of image n).class ≡ 2 → HasEntries geometry.shape (node_of image n) 2
    higher_entries n positive class = subst (HasEntries geometry.shape (node_of image n)) class (in_range n positive (omega arith)).entries

    direct_fits : (n : ℕ) → misfits_below image inode 0 n ≡ [] → fits_direct image e inode n
    direct_fits n none positive =
        let fit = parts 0 n (direct_parts n none positive) in
        record {
          belongs = fit.0;
          class = fit.1;
          count = (direct_entries n positive fit.1).0;
          below = λ k. tt;
        }

    higher_fits : (level : ℕ) (Fits : ℕ → Type 0) → ((n : ℕ) → misfits_below image inode level n ≡ [] → Fits n)
        → (n : ℕ) → misfits_below image inode (suc level) n ≡ [] → FitsBelow false Fits image e inode n
    higher_fits level Fits lower n none positive =
        let both_parts = higher_parts level n none positive in
        let fit = parts (suc level) n both_parts.0 in
        record {
          belongs = fit.0;
          class = fit.1;
          count = (higher_entries n positive fit.1).1;
          below = λ k. lower (slice_index (node_of image n).children k) (child_none level (node_of image n).children k both_parts.1);
        }

    module _ (h : Mark → ℕ) where
      data_weight : (nid slot : ℕ) (xs : List ℕ) → weigh h (data_names nid slot xs) ≡ weigh_from (λ s a. name_weight h nid s a) slot xs
      data_weight nid slot [] = refl
      data_weight nid slot (zero ∷ xs) =
          let rest = data_weight nid (slot + 1) xs in
          let next : slot + 1 ≡ suc slot = omega arith in
          let same = ap (λ s. weigh_from (λ s a. name_weight h nid s a) s xs) next in
          omega arith
      data_weight nid slot (suc a ∷ xs) =
          let rest = data_weight nid (slot + 1) xs in
          let next : slot + 1 ≡ suc slot = omega arith in
          let same = ap (λ s. weigh_from (λ s a. name_weight h nid s a) s xs) next in
          let here = some_name h nid slot (suc a) (omega arith) in
          omega arith

      direct_names : (n : ℕ) → misfits_below image inode 0 n ≡ [] → names_direct image h n ≡ weigh h (names_below image inode 0 n)
      direct_names zero none = refl
      direct_names (suc k) none =
          let n = suc k in
          let fit = direct_parts n none (omega arith) in
          let named = node_names true (λ parent slot number. name_weight h parent slot number) image h n (omega arith) in
          let blocks = data_weight n 0 (node_of image n).addresses in
          rw fit (omega arith)

      children_names : (level slot : ℕ) (f : ℕ → ℕ) → ((n : ℕ) → misfits_below image inode level n ≡ [] → f n ≡ weigh h (names_below image inode level n))
          → (xs : List ℕ) → flat_map (misfits_below image inode level) xs ≡ [] → weigh_from (λ _ n. f n) slot xs ≡ weigh h (flat_map (names_below image inode level) xs)
      children_names level slot f lower [] none = refl
      children_names level slot f lower (x ∷ xs) none =
          let parts = append_none (misfits_below image inode level x) (flat_map (misfits_below image inode level) xs) none in
          let here = lower x parts.0 in
          let rest = children_names level (suc slot) f lower xs parts.1 in
          let joined = weigh-append h (names_below image inode level x) (flat_map (names_below image inode level) xs) in
          omega arith

      higher_names : (level : ℕ) (f : ℕ → ℕ) → ((n : ℕ) → misfits_below image inode level n ≡ [] → f n ≡ weigh h (names_below image inode level n))
          → (n : ℕ) → misfits_below image inode (suc level) n ≡ [] → loaded_names false (λ _ _ k. f k) image h n ≡ weigh h (names_below image inode (suc level) n)
      higher_names level f lower zero none = refl
      higher_names level f lower (suc k) none =
          let n = suc k in
          let both_parts = higher_parts level n none (omega arith) in
          let fit = parts (suc level) n both_parts.0 in
          let bare = (higher_entries n (omega arith) fit.1).0 in
          let named = node_names false (λ _ _ k. f k) image h n (omega arith) in
          let below = children_names level 0 f lower (node_of image n).children both_parts.1 in
          let joined = weigh-append h (own_names image n) (flat_map (names_below image inode level) (node_of image n).children) in
          let blocks = ap (λ xs. weigh h (data_names n 0 xs)) bare in
          rw both_parts.0 (omega arith)

    module _ (none : misfits image inode ≡ []) where
      at_0 : misfits_below image inode 0 (child image inode 0) ≡ []
      at_0 = (append_none (misfits_below image inode 0 (child image inode 0)) _ none).0

      from_1 : flat_map (λ (place : ℕ × ℕ). misfits_below image inode place.0 place.1) ((0, child image inode 1) ∷ (1, child image inode 2) ∷ (1, child image inode 3) ∷ (2, child image inode 4) ∷ []) ≡ []
      from_1 = (append_none (misfits_below image inode 0 (child image inode 0)) _ none).1

      from_2 : flat_map (λ (place : ℕ × ℕ). misfits_below image inode place.0 place.1) ((1, child image inode 2) ∷ (1, child image inode 3) ∷ (2, child image inode 4) ∷ []) ≡ []
      from_2 = (append_none (misfits_below image inode 0 (child image inode 1)) _ from_1).1

      from_3 : flat_map (λ (place : ℕ × ℕ). misfits_below image inode place.0 place.1) ((1, child image inode 3) ∷ (2, child image inode 4) ∷ []) ≡ []
      from_3 = (append_none (misfits_below image inode 1 (child image inode 2)) _ from_2).1

      from_4 : flat_map (λ (place : ℕ × ℕ). misfits_below image inode place.0 place.1) ((2, child image inode 4) ∷ []) ≡ []
      from_4 = (append_none (misfits_below image inode 1 (child image inode 3)) _ from_3).1

      at_1 : misfits_below image inode 0 (child image inode 1) ≡ []
      at_1 = (append_none (misfits_below image inode 0 (child image inode 1)) _ from_1).0

      at_2 : misfits_below image inode 1 (child image inode 2) ≡ []
      at_2 = (append_none (misfits_below image inode 1 (child image inode 2)) _ from_2).0

      at_3 : misfits_below image inode 1 (child image inode 3) ≡ []
      at_3 = (append_none (misfits_below image inode 1 (child image inode 3)) _ from_3).0

      at_4 : misfits_below image inode 2 (child image inode 4) ≡ []
      at_4 = (append_none (misfits_below image inode 2 (child image inode 4)) _ from_4).0

      indirect_fits : (n : ℕ) → misfits_below image inode 1 n ≡ [] → fits_indirect image e inode n
      indirect_fits n none = higher_fits 0 (fits_direct image e inode) direct_fits n none

      double_fits : (n : ℕ) → misfits_below image inode 2 n ≡ [] → fits_double image e inode n
      double_fits n none = higher_fits 1 (fits_indirect image e inode) indirect_fits n none

      two_direct : (k : ℕ) → k < 2 → fits_direct image e inode (child image inode k)
      two_direct zero low = direct_fits (child image inode 0) at_0
      two_direct (suc zero) low = direct_fits (child image inode 1) at_1
      two_direct (suc (suc k)) low = absurd (omega arith)

      two_indirect : (k : ℕ) → k < 2 → fits_indirect image e inode (child image inode (2 + k))
      two_indirect zero low = indirect_fits (child image inode 2) at_2
      two_indirect (suc zero) low = indirect_fits (child image inode 3) at_3
      two_indirect (suc (suc k)) low = absurd (omega arith)

      pub file_fits : 0 < inode → (node_of image inode).class ≡ 0 → (entry_of image inode).inode ≡ inode → FitsFile image geometry.shape inode
      file_fits positive class belongs = record {
        some = positive;
        class = class;
        belongs = belongs;
        addresses = (subst (HasEntries geometry.shape (node_of image inode)) class (in_range inode positive (omega arith)).entries).0;
        direct = two_direct;
        indirect = two_indirect;
        double = double_fits (child image inode 4) at_4;
      }

      pub file_is_walk : (h : Mark → ℕ) → file_names image h inode ≡ weigh h (walk image inode)
      file_is_walk h =
          let level_0 = direct_names h in
          let level_1 = higher_names h 0 (names_direct image h) level_0 in
          let level_2 = higher_names h 1 (names_indirect image h) level_1 in
          let x0 = names_below image inode 0 (child image inode 0) in
          let x1 = names_below image inode 0 (child image inode 1) in
          let x2 = names_below image inode 1 (child image inode 2) in
          let x3 = names_below image inode 1 (child image inode 3) in
          let x4 = names_below image inode 2 (child image inode 4) in
          let own = data_weight h inode 0 (node_of image inode).addresses in
          let n0 = level_0 (child image inode 0) at_0 in
          let n1 = level_0 (child image inode 1) at_1 in
          let n2 = level_1 (child image inode 2) at_2 in
          let n3 = level_1 (child image inode 3) at_3 in
          let n4 = level_2 (child image inode 4) at_4 in
          let w = weigh-append h (own_names image inode) (x0 ++ (x1 ++ (x2 ++ (x3 ++ (x4 ++ []))))) in
          let w0 = weigh-append h x0 (x1 ++ (x2 ++ (x3 ++ (x4 ++ [])))) in
          let w1 = weigh-append h x1 (x2 ++ (x3 ++ (x4 ++ []))) in
          let w2 = weigh-append h x2 (x3 ++ (x4 ++ [])) in
          let w3 = weigh-append h x3 (x4 ++ []) in
          let w4 = weigh-append h x4 [] in
          omega arith

pub all_at : {X : Type 0} (P : X → Type 0) (xs : List X) (x : X) → All P xs → Contains xs x → P x
all_at P xs x all (k, below, is) = subst P is (all k x below)

pub inode_in : (image : Image) (n k : ℕ) → k < n → is_taken image (k + 1) ≡ true → Contains (filter (is_taken image) (up_to n)) (k + 1)
inode_in image zero k low taken = absurd (omega arith)
inode_in image (suc n) k low taken =
    let split = filter-append (is_taken image) (up_to n) (suc n ∷ []) in
    subst (λ xs. Contains xs (k + 1)) (sym split)
    (elim (cases_lt k n) [
      | inl under ↦ Contains-append_left (filter (is_taken image) (up_to n)) (filter (is_taken image) (suc n ∷ [])) (k + 1) (inode_in image n k under taken)
      | inr over ↦
          let is : k + 1 ≡ suc n = omega arith in
          let t : is_taken image (suc n) ≡ true = subst (λ (j : ℕ). is_taken image j ≡ true) is taken in
          let last : filter (is_taken image) (suc n ∷ []) ≡ suc n ∷ [] = rw t refl in
          Contains-append_right (filter (is_taken image) (up_to n)) (filter (is_taken image) (suc n ∷ [])) (k + 1)
          (subst (λ xs. Contains xs (k + 1)) (sym last) (0, omega arith, sym is))
    ])

-- an inode that is taken is one of the image's
pub inode_listed : (image : Image) (n inode : ℕ) → 1 ≤ inode → inode ≤ n → is_taken image inode ≡ true → Contains (filter (is_taken image) (up_to n)) inode
inode_listed image n inode some few taken =
    let is : inode - 1 + 1 ≡ inode = omega arith in
    subst (λ i. Contains (filter (is_taken image) (up_to n)) i) is (inode_in image n (inode - 1) (omega arith) (subst (λ i. is_taken image i ≡ true) (sym is) taken))
