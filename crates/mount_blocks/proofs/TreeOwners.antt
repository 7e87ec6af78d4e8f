-- A name's node is a taken number in range, and its slot is less than a node has entries: so by induction down the tree
-- each name's owner is one that a summary can tell.
use Rattle.std.proofs.Common.{◌≡◌, ℕ, zero, suc, ◌+◌, ◌-◌, ◌^◌, ◌<◌, ◌≤◌, nat_lt, Bool, true, false, ◌&&◌, List, [], ◌∷◌, ◌++◌, length, get_or, append-nil, if◌then◌else◌, refl, sym, ap, subst, ◌∙◌, arith}
use Rattle.std.specs.Prelude.{All, filter}
use Rattle.std.specs.List.{flat_map}
use borrow.Author.Tests.{lt-ltb}
use Rattle.std.proofs.lemmas.Bool.{ltb-true}
use Rattle.std.proofs.lemmas.List.Elements.{filter-append}
use Rattle.geometry.specs.Weights.{weigh}
use Rattle.geometry.proofs.Weighing.{weigh-append, weigh-at}
use Rattle.geometry.proofs.Indexing.{EachAt, each_none, each_push}
use Rattle.geometry.specs.declared.geometry.Geometry.{Geometry}
use Rattle.geometry.specs.declared.owner.Owner.{Owner}
use Rattle.geometry.specs.declared.owner.Owner.TheVariants.{Node, Data}
use Rattle.geometry.specs.declared.owner.Mark.{Mark}
use Rattle.geometry.specs.Owner.{IsOwner}
use Rattle.geometry.specs.Path.{node_entries}
use Rattle.image.specs.Image.{Image, node_of}
use Rattle.image.specs.Walk.{child, node_name, walk, names, inodes, is_taken, up_to}
use Rattle.image.specs.Rules.{IsLawful}
use Rattle.image.proofs.Shapes.{is_shape}
use Rattle.mount_blocks.specs.Loaded.{FitsBelow, name_weight, names_below, weigh_from}
use Rattle.mount_blocks.proofs.Stocks.{some_name, node_names}
use Rattle.mount_blocks.specs.FileLoaded.{FitsFile, fits_direct, fits_indirect, names_direct, names_indirect, file_names}
use Rattle.mount_blocks.proofs.Fitting.{file_fits, file_is_walk}

is_owner : Owner → Bool
is_owner (Node n) = nat_lt 0 n
is_owner (Data n s) = nat_lt 0 n && nat_lt s (2 ^ 32 - 1)

-- 1 for a mark whose owner is none
bad : Mark → ℕ
unfolding is_owner
bad m = if is_owner m.owner then 0 else 1

by_test : (b : Bool) → ◌≡◌ {A = ℕ} (if b then 0 else 1) 0 → b ≡ true
by_test true e = refl
by_test false e = absurd (omega arith)

both_true : (a b : Bool) → a && b ≡ true → (a ≡ true) × (b ≡ true)
both_true true true e = (refl, refl)
both_true true false e = cc
both_true false b e = cc

owner_of_test : (o : Owner) → is_owner o ≡ true → IsOwner o
unfolding is_owner
owner_of_test (Node n) e = ltb-true 0 n e
owner_of_test (Data n s) e = let b = both_true (nat_lt 0 n) (nat_lt s (2 ^ 32 - 1)) e in (ltb-true 0 n b.0, ltb-true s (2 ^ 32 - 1) b.1)

good : (m : Mark) → bad m ≡ 0 → IsOwner m.owner
unfolding bad
good m e = owner_of_test m.owner (by_test (is_owner m.owner) e)

node_good : (a n : ℕ) → 0 < n → bad (record { address = a; owner = Node n }) ≡ 0
unfolding bad is_owner
node_good a n h = rw (lt-ltb 0 n h) refl

data_good : (a n s : ℕ) → 0 < n → s < 2 ^ 32 - 1 → bad (record { address = a; owner = Data n s }) ≡ 0
unfolding bad is_owner
data_good a n s h k = rw (lt-ltb 0 n h, lt-ltb s (2 ^ 32 - 1) k) refl

from_none : (f : ℕ → ℕ → ℕ) (slot : ℕ) (ns : List ℕ) → ((k : ℕ) → k < length ns → f (slot + k) (get_or ns k 0) ≡ 0) → weigh_from f slot ns ≡ 0
from_none f slot [] none = refl
from_none f slot (n ∷ ns) none =
    let first : slot + 0 ≡ slot = omega arith in
    let here : f slot n ≡ 0 = ap (λ s. f s n) (sym first) ∙ none 0 (omega arith) in
    let rest = from_none f (suc slot) ns (λ k low. (let next : suc slot + k ≡ slot + suc k = omega arith in ap (λ s. f s (get_or ns k 0)) next ∙ none (suc k) (omega arith))) in
    omega arith

name_good : (p s a : ℕ) → 0 < p → s < 2 ^ 32 - 1 → name_weight bad p s a ≡ 0
name_good p s zero some low = refl
name_good p s (suc a) some low = some_name bad p s (suc a) (omega arith) ∙ data_good (suc a) p s some low

module _ (image : Image) (e inode : ℕ) (few : e < 2 ^ 32 - 1) where
  direct_good : (n : ℕ) → fits_direct image e inode n → names_direct image bad n ≡ 0
  direct_good zero fits = refl
  direct_good (suc j) fits =
      let n = suc j in
      let there = fits (omega arith) in
      let named = node_names true (λ parent slot number. name_weight bad parent slot number) image bad n (omega arith) in
      let own = node_good (node_name image n).address n (omega arith) in
      let blocks = from_none (λ slot number. name_weight bad n slot number) 0 (node_of image n).addresses
      (λ k low. name_good n (0 + k) (get_or (node_of image n).addresses k 0) (omega arith) (omega (arith, there.count))) in
      omega arith

  higher_good : (Fits : ℕ → Type 0) (f : ℕ → ℕ) → ((n : ℕ) → Fits n → f n ≡ 0) → (n : ℕ) → FitsBelow false Fits image e inode n → names_below false (λ _ _ k. f k) image bad n ≡ 0
  higher_good Fits f lower zero fits = refl
  higher_good Fits f lower (suc j) fits =
      let n = suc j in
      let there = fits (omega arith) in
      let named = node_names false (λ _ _ k. f k) image bad n (omega arith) in
      let own = node_good (node_name image n).address n (omega arith) in
      let below = from_none (λ _ k. f k) 0 (node_of image n).children (λ k low. lower (get_or (node_of image n).children k 0) (there.below k)) in
      omega arith

file_good : (geometry : Geometry) (image : Image) (inode : ℕ) → FitsFile image geometry.shape inode → file_names image bad inode ≡ 0
file_good geometry image inode fits =
    let shape = is_shape geometry.shape in
    let e = node_entries geometry.shape in
    let few : e < 2 ^ 32 - 1 = omega (arith, shape.few) in
    let direct = direct_good image e inode few in
    let indirect = higher_good image e inode few (fits_direct image e inode) (names_direct image bad) direct in
    let double = higher_good image e inode few (fits_indirect image e inode) (names_indirect image bad) indirect in
    let own = node_good (node_name image inode).address inode fits.some in
    let blocks = from_none (λ slot number. name_weight bad inode slot number) 0 (node_of image inode).addresses
    (λ k low. name_good inode (0 + k) (get_or (node_of image inode).addresses k 0) fits.some (omega (arith, fits.addresses, shape.few, shape.fewer))) in
    let n0 = direct (child image inode 0) (fits.direct 0 (omega arith)) in
    let n1 = direct (child image inode 1) (fits.direct 1 (omega arith)) in
    let n2 = indirect (child image inode 2) (fits.indirect 0 (omega arith)) in
    let n3 = indirect (child image inode 3) (fits.indirect 1 (omega arith)) in
    let n4 = double (child image inode 4) fits.double in
    omega arith

flat_none : (f : ℕ → List Mark) (xs : List ℕ) → ((j : ℕ) (d : ℕ) → j < length xs → weigh bad (f (get_or xs j d)) ≡ 0) → weigh bad (flat_map f xs) ≡ 0
flat_none f [] none = refl
flat_none f (x ∷ xs) none =
    let here : weigh bad (f x) ≡ 0 = none 0 x (omega arith) in
    let rest = flat_none f xs (λ j d low. none (suc j) d (omega arith)) in
    let joined = weigh-append bad (f x) (flat_map f xs) in
    omega arith

module _ (p : ℕ → Bool) (last : ℕ) where
  abbrev P : ℕ → ℕ → Type 0
  P k x = (1 ≤ x) × (x ≤ last) × (p x ≡ true)

  listed : (n : ℕ) → n ≤ last → EachAt P (filter p (up_to n))
  listed zero few = each_none P
  listed (suc n) few = subst (EachAt P) (sym (filter-append p (up_to n) (suc n ∷ []))) (by_case (listed n (omega arith)) (p (suc n)) refl)
    where
      by_case : EachAt P (filter p (up_to n)) → (b : Bool) → p (suc n) ≡ b → EachAt P (filter p (up_to n) ++ filter p (suc n ∷ []))
      by_case before true is =
          let one : filter p (suc n ∷ []) ≡ suc n ∷ [] = rw is refl in
          subst (λ xs. EachAt P (filter p (up_to n) ++ xs)) (sym one) (each_push P (filter p (up_to n)) (suc n) before (omega arith, omega arith, is))
      by_case before false is =
          let one : filter p (suc n ∷ []) ≡ [] = rw is refl in
          subst (λ xs. EachAt P (filter p (up_to n) ++ xs)) (sym one) (subst (EachAt P) (sym (append-nil (filter p (up_to n)))) before)

pub names_are_owned : (geometry : Geometry) (image : Image) → IsLawful geometry image → All (λ (n : Mark). IsOwner n.owner) (names geometry image)
names_are_owned geometry image lawful k d low =
    let range = lawful 1 (omega arith) (omega arith) in
    let within = geometry.limits.inodes in
    let all = flat_none (walk image) (inodes geometry image) (λ j i low.
    (let inode = get_or (inodes geometry image) j i in
    let is = listed (is_taken image) geometry.files geometry.files (omega arith) j i low in
    let node = lawful 3 (omega arith) (omega arith) inode (omega arith) is.2 in
    let first = node.low is.1 in
    let fit = lawful 4 (omega arith) (omega arith) j i low in
    let fits = file_fits geometry image range inode fit (omega arith) first.0 (sym node.belongs ∙ first.1) in
    sym (file_is_walk geometry image range inode fit bad) ∙ file_good geometry image inode fits)) in
    let most = weigh-at bad (names geometry image) k d low in
    good (get_or (names geometry image) k d) (omega arith)
