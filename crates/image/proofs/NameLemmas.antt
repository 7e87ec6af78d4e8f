-- A list's front that is one item longer names what it named, and the item's address where it has one: so a loop that
-- goes item by item gathers the names in their order.
use Rattle.std.proofs.Common.{◌≡◌, ◌≢◌, refl, sym, ◌∙◌, ap, subst, ℕ, zero, suc, ◌+◌, ◌<◌, inl, inr, Bool, true, false, not, ◌||◌, List, [], ◌∷◌, ◌++◌, length, take, get_or, add-one, arith}
use Rattle.std.specs.Prelude.{filter, ◌==◌}
use Rattle.std.specs.List.{flat_map}
use Rattle.std.proofs.lemmas.Bool.{eq-eqb, ne_eqb}
use Rattle.std.proofs.lemmas.Bool.Decides.{eqb_tells}
use Rattle.std.proofs.lemmas.List.{append-nil}
use Rattle.std.proofs.lemmas.List.Elements.{filter-append}
use Rattle.std.proofs.lemmas.Grind.{flat_map-append}
use Rattle.image.specs.Image.{Image, entry_of}
use Rattle.geometry.specs.declared.owner.Owner.TheVariants.{Data}
use Rattle.image.specs.Walk.{data_names, walk, is_taken, up_to, has_address}
use Rattle.geometry.specs.declared.owner.Mark.{Mark}
use Rattle.image.specs.declared.image.NodeEntry.{NodeEntry}

more_none : (nid from slot : ℕ) (xs : List ℕ) → get_or xs slot 0 ≡ 0
    → data_names nid from (take (suc slot) xs) ≡ data_names nid from (take slot xs)
more_none nid from zero [] e = refl
more_none nid from (suc slot) [] e = refl
more_none nid from zero (zero ∷ xs) e = refl
more_none nid from zero (suc x ∷ xs) e = absurd cc
more_none nid from (suc slot) (zero ∷ xs) e = more_none nid (from + 1) slot xs e
more_none nid from (suc slot) (suc x ∷ xs) e =
    ap (λ ns. record { address = suc x; owner = Data nid from } ∷ ns) (more_none nid (from + 1) slot xs e)

more : (nid from slot : ℕ) (xs : List ℕ) → get_or xs slot 0 ≢ 0
    → data_names nid from (take (suc slot) xs)
    ≡ data_names nid from (take slot xs) ++ record { address = get_or xs slot 0; owner = Data nid (from + slot) } ∷ []
more nid from slot [] e = absurd (e refl)
more nid from zero (zero ∷ xs) e = absurd (e refl)
more nid from zero (suc x ∷ xs) e =
    let f : from ≡ from + 0 = omega arith in
    ap (λ s. record { address = suc x; owner = Data nid s } ∷ []) f
more nid from (suc slot) (zero ∷ xs) e =
    let f : from + 1 + slot ≡ from + suc slot = omega arith in
    more nid (from + 1) slot xs e
    ∙ ap (λ s. data_names nid (from + 1) (take slot xs) ++ record { address = get_or xs slot 0; owner = Data nid s } ∷ []) f
more nid from (suc slot) (suc x ∷ xs) e =
    let f : from + 1 + slot ≡ from + suc slot = omega arith in
    ap (λ ns. record { address = suc x; owner = Data nid from } ∷ ns)
    (more nid (from + 1) slot xs e
    ∙ ap (λ s. data_names nid (from + 1) (take slot xs) ++ record { address = get_or xs slot 0; owner = Data nid s } ∷ []) f)

pub names_more_none : (nid from slot : ℕ) (xs : List ℕ) → get_or xs slot 0 ≡ 0
    → data_names nid from (take (slot + 1) xs) ≡ data_names nid from (take slot xs)
names_more_none nid from slot xs e = rw add-one (more_none nid from slot xs e)

pub names_more : (nid from slot : ℕ) (xs : List ℕ) → get_or xs slot 0 ≢ 0
    → data_names nid from (take (slot + 1) xs)
    ≡ data_names nid from (take slot xs) ++ record { address = get_or xs slot 0; owner = Data nid (from + slot) } ∷ []
names_more nid from slot xs e = rw add-one (more nid from slot xs e)

pub names_more_from_0 : (nid slot : ℕ) (xs : List ℕ) → get_or xs slot 0 ≢ 0
    → data_names nid 0 (take (slot + 1) xs)
    ≡ data_names nid 0 (take slot xs) ++ record { address = get_or xs slot 0; owner = Data nid slot } ∷ []
names_more_from_0 nid slot xs e =
    let f : 0 + slot ≡ slot = omega arith in
    names_more nid 0 slot xs e ∙ ap (λ s. data_names nid 0 (take slot xs) ++ record { address = get_or xs slot 0; owner = Data nid s } ∷ []) f

or_right : (a b : Bool) → b ≡ true → (a || b) ≡ true
or_right true b h = refl
or_right false b h = h

-- one inode more
pub inodes_more : (image : Image) (k : ℕ) → is_taken image (k + 1) ≡ true
    → flat_map (walk image) (filter (is_taken image) (up_to (k + 1))) ≡ flat_map (walk image) (filter (is_taken image) (up_to k)) ++ walk image (k + 1)
inodes_more image k taken =
    let e : k + 1 ≡ suc k = add-one k in
    let last : filter (is_taken image) (suc k ∷ []) ≡ suc k ∷ [] = rw (subst (λ (n : ℕ). is_taken image n ≡ true) e taken) refl in
    ap (λ n. flat_map (walk image) (filter (is_taken image) (up_to n))) e
    ∙ ap (flat_map (walk image)) (filter-append (is_taken image) (up_to k) (suc k ∷ []) ∙ ap (λ xs. filter (is_taken image) (up_to k) ++ xs) last)
    ∙ flat_map-append (walk image) (filter (is_taken image) (up_to k)) (suc k ∷ [])
    ∙ ap (λ ns. flat_map (walk image) (filter (is_taken image) (up_to k)) ++ ns) (append-nil (walk image (suc k)) ∙ ap (walk image) (sym e))

pub inodes_more_none : (image : Image) (k : ℕ) → is_taken image (k + 1) ≡ false
    → flat_map (walk image) (filter (is_taken image) (up_to (k + 1))) ≡ flat_map (walk image) (filter (is_taken image) (up_to k))
inodes_more_none image k taken =
    let e : k + 1 ≡ suc k = add-one k in
    let last : filter (is_taken image) (suc k ∷ []) ≡ [] = rw (subst (λ (n : ℕ). is_taken image n ≡ false) e taken) refl in
    ap (λ n. flat_map (walk image) (filter (is_taken image) (up_to n))) e
    ∙ ap (flat_map (walk image)) (filter-append (is_taken image) (up_to k) (suc k ∷ []) ∙ ap (λ xs. filter (is_taken image) (up_to k) ++ xs) last ∙ append-nil _)

-- an address among the first k names has a place there
pub has_index : (a : ℕ) (ns : List Mark) (k : ℕ) → has_address a (take k ns) ≡ true
    → (i : ℕ) × (i < k) × (i < length ns) × ((d : Mark) → (get_or ns i d).address ≡ a)
has_index a [] zero h = absurd cc
has_index a [] (suc k) h = absurd cc
has_index a (n ∷ ns) zero h = absurd cc
has_index a (n ∷ ns) (suc k) h =
    elim (eqb_tells n.address a) [
      | inl (e, is) ↦ (0, omega arith, omega arith, λ d. is)
      | inr (e, isn't) ↦
          let r = has_index a ns k (let f : has_address a (n ∷ take k ns) ≡ has_address a (take k ns) = rw e refl in sym f ∙ h) in
          (suc r.0, (let x = r.1 in omega arith), (let y = r.2 in omega arith), λ d. r.3 d)
    ]

pub index_has : (ns : List Mark) (i k : ℕ) (d : Mark) → i < k → i < length ns → has_address (get_or ns i d).address (take k ns) ≡ true
index_has [] i k d before within = absurd (omega arith)
index_has (n ∷ ns) i zero d before within = absurd (omega arith)
index_has (n ∷ ns) zero (suc k) d before within = rw (eq-eqb n.address n.address refl) refl
index_has (n ∷ ns) (suc i) (suc k) d before within =
    let rest = index_has ns i k d (omega arith) (omega arith) in
    or_right (n.address == (get_or ns i d).address) _ rest

pub taken_of : (image : Image) (nid : ℕ) (e : NodeEntry) → e ≡ entry_of image nid → e.address ≢ 0 → is_taken image nid ≡ true
taken_of image nid e is some = ap not (ne_eqb (entry_of image nid).address 0 (λ z. some (ap (λ (x : NodeEntry). x.address) is ∙ z)))

pub not_taken_of : (image : Image) (nid : ℕ) (e : NodeEntry) → e ≡ entry_of image nid → e.address ≡ 0 → is_taken image nid ≡ false
not_taken_of image nid e is none = ap not (eq-eqb (entry_of image nid).address 0 (sym (ap (λ (x : NodeEntry). x.address) is) ∙ none))
