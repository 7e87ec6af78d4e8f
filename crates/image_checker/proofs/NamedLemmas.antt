-- Names are added one by one, and the map tells which addresses have one: a name with a new address is added, and a
-- clash stays a clash whatever comes after.
use Rattle.std.proofs.Common.{◌≡◌, ◌≢◌, refl, sym, ◌∙◌, ap, subst, ℕ, zero, suc, ◌+◌, ◌-◌, ◌<◌, ◌≤◌, inl, inr, Bool, true, false, ◌||◌, ◌==◌, List, [], ◌∷◌, ◌++◌, length, take, drop, get_or, set, replicate, append_assoc, add-one, length-set, arith}
use Rattle.std.specs.Prelude.{filter}
use Rattle.std.specs.List.{flat_map}
use Rattle.std.proofs.Math.Seq.{take-suc, take-length}
use Rattle.std.proofs.lemmas.Bool.Decides.{eqb_tells, leb_tells}
use Rattle.std.proofs.lemmas.List.{append-nil, take_all, take-append-drop, length-append, get_or-set_other, get_or_append_left, get_or-append_right, get_or_default, get_or-replicate, length-replicate}
use Rattle.std.proofs.lemmas.List.Quantifiers.{all_pairs_push}
use Rattle.std.proofs.lemmas.List.Elements.{filter-append}
use Rattle.std.proofs.lemmas.Grind.{flat_map-append, get_or-set_at}
use Rattle.geometry.specs.declared.owner.Mark.{Mark}
use Rattle.geometry.specs.declared.owner.Owner.TheVariants.{Node, Data}
use Rattle.image.specs.declared.image.NodeEntry.{NodeEntry}
use Rattle.image.specs.Image.{Image, entry_of, node_of}
use Rattle.image.specs.Rules.{HaveOwnAddresses}
use Rattle.image.specs.Walk.{data_names, node_name, own_names, fits, places, names_below, child, walk, is_taken, up_to, has_address}
use Rattle.image.proofs.NameLemmas.{has_index, index_has, names_more_from_0, inodes_more}
use Rattle.image_checker.specs.Named.{AreNamed, HasAdded}

-- names of which no two have one address are so without the last of them
own_front : (xs ys : List Mark) → HaveOwnAddresses (xs ++ ys) → HaveOwnAddresses xs
own_front xs ys own i j d before within =
    let long = length-append xs ys in
    let all = own i j d before (omega arith) in
    let at_i = get_or_append_left xs ys d i (omega arith) in
    let at_j = get_or_append_left xs ys d j within in
    λ same. all (ap (λ (n : Mark). n.address) at_i ∙ same ∙ sym (ap (λ (n : Mark). n.address) at_j))

pub added_none : (old : List Mark) → HasAdded true old [] old
added_none old = sym (append-nil old)

-- first some, then others
pub added_more : (ok : Bool) (old mid new xs ys : List Mark) → mid ≡ old ++ xs → HasAdded ok mid ys new → HasAdded ok old (xs ++ ys) new
added_more true old mid new xs ys first then_more = then_more ∙ ap (λ ns. ns ++ ys) first ∙ append_assoc old xs ys
added_more false old mid new xs ys first clash = λ own.
    clash (subst HaveOwnAddresses (sym (ap (λ ns. ns ++ ys) first ∙ append_assoc old xs ys)) own)

pub added_stop : (old mid new xs ys : List Mark) → HasAdded false old xs mid → HasAdded false old (xs ++ ys) new
added_stop old mid new xs ys clash = λ own. clash (own_front (old ++ xs) ys (subst HaveOwnAddresses (sym (append_assoc old xs ys)) own))

pub added_as : (ok is : Bool) (old xs new : List Mark) → ok ≡ is → HasAdded ok old xs new → HasAdded is old xs new
added_as ok is old xs new same added = subst (λ (b : Bool). HasAdded b old xs new) same added

-- a clash that stands whatever comes after
pub clash_stop : (ok : Bool) (old mid new xs ys : List Mark) → ok ≡ false → HasAdded ok old xs mid → HasAdded false old (xs ++ ys) new
clash_stop true old mid new xs ys fails added = absurd cc
clash_stop false old mid new xs ys fails added = added_stop old mid new xs ys added

pub added_then : (ok : Bool) (old xs mid : List Mark) → ok ≡ true → HasAdded ok old xs mid → mid ≡ old ++ xs
added_then true old xs mid holds added = added
added_then false old xs mid holds added = absurd cc

-- the map of the names, and one name more
named_none : (size : ℕ) → AreNamed [] (replicate size false)
named_none size = record { shown = λ a low. get_or-replicate size a false false (let l = length-replicate size false in omega arith); apart = λ i j d before within. absurd (omega arith) }

pub named_new : (map : List Bool) (size : ℕ) → map ≡ replicate size false → AreNamed [] map
named_new map size is = subst (AreNamed []) (sym is) (named_none size)

or_assoc : (a b c : Bool) → (a || (b || c)) ≡ ((a || b) || c)
or_assoc true b c = refl
or_assoc false b c = refl

or_false : (a : Bool) → (a || false) ≡ a
or_false true = refl
or_false false = refl

or_true : (a : Bool) → (a || true) ≡ true
or_true true = refl
or_true false = refl

has_push : (a : ℕ) (ns : List Mark) (n : Mark) → has_address a (ns ++ n ∷ []) ≡ (has_address a ns || (n.address == a))
has_push a [] n = or_false (n.address == a)
has_push a (m ∷ ns) n = ap (λ b. (m.address == a) || b) (has_push a ns n) ∙ or_assoc (m.address == a) (has_address a ns) (n.address == a)

-- no name has an address that the map does not tell
other_addresses : (names : List Mark) (a k : ℕ) (d : Mark) → has_address a names ≡ false → k < length names → (get_or names k d).address ≢ a
other_addresses names a k d none low same =
    let has : has_address (get_or names k d).address (take (length names) names) ≡ true = index_has names k (length names) d low low in
    let there : has_address a names ≡ true = ap (λ b. has_address b names) (sym same) ∙ ap (has_address (get_or names k d).address) (sym (take-length names)) ∙ has in
    let clash : true ≡ false = sym there ∙ none in cc

pub named_push : (names : List Mark) (map : List Bool) (n : Mark) (seen : Bool) → AreNamed names map → n.address < length map
    → seen ≡ get_or map n.address seen → seen ≡ false → AreNamed (names ++ n ∷ []) (set map n.address true)
named_push names map n seen named low is miss =
    let none : has_address n.address names ≡ false
    = sym (named.shown n.address low) ∙ get_or_default map n.address false seen low ∙ sym is ∙ miss in
    record {
      shown = λ a within.
          let under : a < length map = (let l = length-set map n.address true in omega arith) in
          elim (eqb_tells n.address a) [
            | inl (e, same) ↦
                get_or-set_at map n.address a true false (sym same) low
                ∙ sym (has_push a names n ∙ ap (λ b. has_address a names || b) e ∙ or_true (has_address a names))
            | inr (e, other) ↦
                get_or-set_other map n.address a true false (λ f. other (sym f)) ∙ named.shown a under
                ∙ sym (has_push a names n ∙ ap (λ b. has_address a names || b) e ∙ or_false (has_address a names))
          ];
      apart = all_pairs_push (λ (m k : Mark). m.address ≢ k.address) names n named.apart (λ k d within. other_addresses names n.address k d none within);
    }

-- a name whose address the map tells
pub named_clash : (names : List Mark) (map : List Bool) (n : Mark) (seen : Bool) → AreNamed names map → n.address < length map
    → seen ≡ get_or map n.address seen → seen ≡ true → HaveOwnAddresses (names ++ n ∷ []) → ⊥
named_clash names map n seen named low is hit own =
    let there : has_address n.address names ≡ true
    = sym (named.shown n.address low) ∙ get_or_default map n.address false seen low ∙ sym is ∙ hit in
    let found = has_index n.address names (length names) (ap (has_address n.address) (take-length names) ∙ there) in
    let long = length-append names (n ∷ []) in
    let at_front = get_or_append_left names (n ∷ []) n found.0 found.2 in
    let zero_is : length names - length names ≡ 0 = omega arith in
    let at_end : get_or (names ++ n ∷ []) (length names) n ≡ n
    = get_or-append_right names (n ∷ []) (length names) (length names) n refl (omega arith) ∙ ap (λ i. get_or (n ∷ []) i n) zero_is in
    own found.0 (length names) n found.1 (omega arith)
    (ap (λ (m : Mark). m.address) at_front ∙ found.3 n ∙ sym (ap (λ (m : Mark). m.address) at_end))

-- one item more of what a loop goes over
pub flat_more : {A : Type 0} (f : A → List Mark) (xs : List A) (k : ℕ) (d : A) → k < length xs
    → flat_map f (take (k + 1) xs) ≡ flat_map f (take k xs) ++ f (get_or xs k d)
flat_more f xs k d low =
    ap (λ n. flat_map f (take n xs)) (add-one k) ∙ ap (flat_map f) (take-suc xs k d low)
    ∙ flat_map-append f (take k xs) (get_or xs k d ∷ []) ∙ ap (λ ys. flat_map f (take k xs) ++ ys) (append-nil (f (get_or xs k d)))

-- all items are the first ones, this one and the later ones
pub flat_split : {A : Type 0} (f : A → List Mark) (xs : List A) (k : ℕ) (d : A) → k < length xs
    → flat_map f xs ≡ flat_map f (take (k + 1) xs) ++ flat_map f (drop (k + 1) xs)
flat_split f xs k d low = ap (flat_map f) (sym (take-append-drop (k + 1) xs)) ∙ flat_map-append f (take (k + 1) xs) (drop (k + 1) xs)

-- a loop stops at an item that can't be added
pub flat_stop : {A : Type 0} (f : A → List Mark) (xs : List A) (k : ℕ) (d : A) (ok : Bool) (old front mid new last : List Mark) → k < length xs → ok ≡ false
    → mid ≡ old ++ (front ++ flat_map f (take k xs)) → HasAdded ok mid (f (get_or xs k d)) new
    → HasAdded false old (front ++ flat_map f xs) last
flat_stop f xs k d ok old front mid new last low fails so_far added =
    let one = added_as ok false mid (f (get_or xs k d)) new fails added in
    let more = added_more false old mid new (front ++ flat_map f (take k xs)) (f (get_or xs k d)) so_far one in
    let rest = flat_map f (drop (k + 1) xs) in
    let whole : (front ++ flat_map f (take k xs)) ++ f (get_or xs k d) ++ rest ≡ front ++ flat_map f xs
    = ap (λ ns. ns ++ rest) (append_assoc front (flat_map f (take k xs)) (f (get_or xs k d)) ∙ ap (λ ns. front ++ ns) (sym (flat_more f xs k d low)))
    ∙ append_assoc front (flat_map f (take (k + 1) xs)) rest ∙ ap (λ ns. front ++ ns) (sym (flat_split f xs k d low)) in
    subst (λ ns. HasAdded false old ns last) whole (added_stop old new last _ rest more)

-- and goes on past one that was added
pub flat_next : {A : Type 0} (f : A → List Mark) (xs : List A) (k : ℕ) (d : A) (ok : Bool) (old front mid new : List Mark) → k < length xs → ok ≡ true
    → mid ≡ old ++ (front ++ flat_map f (take k xs)) → HasAdded ok mid (f (get_or xs k d)) new
    → new ≡ old ++ (front ++ flat_map f (take (k + 1) xs))
flat_next f xs k d ok old front mid new low holds so_far added =
    added_then ok mid (f (get_or xs k d)) new holds added ∙ ap (λ ns. ns ++ f (get_or xs k d)) so_far
    ∙ append_assoc old (front ++ flat_map f (take k xs)) (f (get_or xs k d))
    ∙ ap (λ ns. old ++ ns) (append_assoc front (flat_map f (take k xs)) (f (get_or xs k d)) ∙ ap (λ ns. front ++ ns) (sym (flat_more f xs k d low)))

-- a node's own block, and then its data blocks
pub own_stop : (image : Image) (nid : ℕ) (e : NodeEntry) (ok : Bool) (old new last : List Mark) → e ≡ entry_of image nid → ok ≡ false
    → HasAdded ok old (record { address = e.address; owner = Node nid } ∷ []) new → HasAdded false old (own_names image nid) last
own_stop image nid e ok old new last is fails added =
    let one = added_as ok false old (record { address = e.address; owner = Node nid } ∷ []) new fails added in
    added_stop old new last (node_name image nid ∷ []) (data_names nid 0 (node_of image nid).addresses)
    (subst (λ (x : NodeEntry). HasAdded false old (record { address = x.address; owner = Node nid } ∷ []) new) is one)

pub own_more : (image : Image) (nid : ℕ) (e : NodeEntry) (first ok : Bool) (old mid new : List Mark) (xs : List ℕ) → e ≡ entry_of image nid
    → xs ≡ (node_of image nid).addresses → first ≡ true
    → HasAdded first old (record { address = e.address; owner = Node nid } ∷ []) mid → HasAdded ok mid (data_names nid 0 xs) new
    → HasAdded ok old (own_names image nid) new
own_more image nid e first ok old mid new xs is are holds added rest =
    let one = added_then first old (record { address = e.address; owner = Node nid } ∷ []) mid holds added in
    added_more ok old mid new (node_name image nid ∷ []) (data_names nid 0 (node_of image nid).addresses)
    (one ∙ ap (λ (x : NodeEntry). old ++ record { address = x.address; owner = Node nid } ∷ []) is)
    (subst (λ ys. HasAdded ok mid (data_names nid 0 ys) new) are rest)

-- what is below a place begins with the node's own names
pub below_whole : (image : Image) (inode level nid : ℕ) → fits image inode level nid ≡ true → 0 < level
    → names_below image inode level nid ≡ own_names image nid ++ flat_map (names_below image inode (level - 1)) (node_of image nid).children
below_whole image inode zero nid fit deep = absurd (omega arith)
below_whole image inode (suc level) nid fit deep =
    let e : suc level - 1 ≡ level = omega arith in
    rw (fit, e) refl

pub below_stop : (image : Image) (inode level nid : ℕ) (ok : Bool) (old new last : List Mark) → fits image inode level nid ≡ true → ok ≡ false
    → HasAdded ok old (own_names image nid) new → HasAdded false old (names_below image inode level nid) last
below_stop image inode zero nid ok old new last fit fails added =
    let one = added_as ok false old (own_names image nid) new fails added in rw fit one
below_stop image inode (suc level) nid ok old new last fit fails added =
    let one = added_as ok false old (own_names image nid) new fails added in
    rw fit (added_stop old new last (own_names image nid) (flat_map (names_below image inode level) (node_of image nid).children) one)

pub children_stop : (image : Image) (inode level nid : ℕ) (xs : List ℕ) (k : ℕ) (ok : Bool) (old mid new last : List Mark)
    → fits image inode level nid ≡ true → 0 < level → xs ≡ (node_of image nid).children → k < length xs → ok ≡ false
    → mid ≡ old ++ (own_names image nid ++ flat_map (names_below image inode (level - 1)) (take k xs))
    → HasAdded ok mid (names_below image inode (level - 1) (get_or xs k 0)) new
    → HasAdded false old (names_below image inode level nid) last
children_stop image inode level nid xs k ok old mid new last fit deep are low fails so_far added =
    subst (λ ns. HasAdded false old ns last) (sym (below_whole image inode level nid fit deep ∙ ap (λ ys. own_names image nid ++ flat_map (names_below image inode (level - 1)) ys) (sym are)))
    (flat_stop (names_below image inode (level - 1)) xs k 0 ok old (own_names image nid) mid new last low fails so_far added)

pub children_all : (image : Image) (inode level nid : ℕ) (xs : List ℕ) (k : ℕ) (old new : List Mark)
    → fits image inode level nid ≡ true → 0 < level → xs ≡ (node_of image nid).children → length xs ≤ k
    → new ≡ old ++ (own_names image nid ++ flat_map (names_below image inode (level - 1)) (take k xs))
    → new ≡ old ++ names_below image inode level nid
children_all image inode level nid xs k old new fit deep are past so_far =
    so_far ∙ ap (λ ns. old ++ ns)
    (ap (λ ys. own_names image nid ++ flat_map (names_below image inode (level - 1)) ys) (take_all k xs past ∙ are) ∙ sym (below_whole image inode level nid fit deep))

pub places_are : (image : Image) (inode n0 n1 n2 n3 n4 : ℕ) → n0 ≡ child image inode 0 → n1 ≡ child image inode 1 → n2 ≡ child image inode 2
    → n3 ≡ child image inode 3 → n4 ≡ child image inode 4
    → ◌≡◌ {A = List (ℕ × ℕ)} ((0, n0) ∷ (0, n1) ∷ (1, n2) ∷ (1, n3) ∷ (2, n4) ∷ []) (places image inode)
places_are image inode n0 n1 n2 n3 n4 e0 e1 e2 e3 e4 = λ i. (0, e0 i) ∷ (0, e1 i) ∷ (1, e2 i) ∷ (1, e3 i) ∷ (2, e4 i) ∷ []

pub walk_more : (image : Image) (inode : ℕ) (first ok : Bool) (old mid new : List Mark) (ps : List (ℕ × ℕ)) → first ≡ true → ps ≡ places image inode
    → HasAdded first old (own_names image inode) mid
    → HasAdded ok mid (flat_map (λ (place : ℕ × ℕ). names_below image inode place.0 place.1) ps) new
    → HasAdded ok old (walk image inode) new
walk_more image inode first ok old mid new ps holds are own rest =
    added_more ok old mid new (own_names image inode) _ (added_then first old (own_names image inode) mid holds own)
    (subst (λ (qs : List (ℕ × ℕ)). HasAdded ok mid (flat_map (λ (place : ℕ × ℕ). names_below image inode place.0 place.1) qs) new) are rest)

pub walk_stop : (image : Image) (inode : ℕ) (ok : Bool) (old new last : List Mark) → ok ≡ false → HasAdded ok old (own_names image inode) new
    → HasAdded false old (walk image inode) last
walk_stop image inode ok old new last fails added = clash_stop ok old new last (own_names image inode) _ fails added

-- a node's data names, cut at a slot
pub data_split : (nid from k : ℕ) (xs : List ℕ) → data_names nid from xs ≡ data_names nid from (take k xs) ++ data_names nid (from + k) (drop k xs)
data_split nid from zero xs = let e : from ≡ from + 0 = omega arith in ap (λ f. data_names nid f xs) e
data_split nid from (suc k) [] = refl
data_split nid from (suc k) (zero ∷ xs) =
    let e : from + 1 + k ≡ from + suc k = omega arith in
    data_split nid (from + 1) k xs ∙ ap (λ f. data_names nid (from + 1) (take k xs) ++ data_names nid f (drop k xs)) e
data_split nid from (suc k) (suc x ∷ xs) =
    let e : from + 1 + k ≡ from + suc k = omega arith in
    ap (λ ns. record { address = suc x; owner = Data nid from } ∷ ns)
    (data_split nid (from + 1) k xs ∙ ap (λ f. data_names nid (from + 1) (take k xs) ++ data_names nid f (drop k xs)) e)

-- a loop over data addresses adds one, or stops there
pub data_more : (nid slot : ℕ) (xs : List ℕ) (old mid new : List Mark) (ok : Bool) → get_or xs slot 0 ≢ 0 → ok ≡ true
    → mid ≡ old ++ data_names nid 0 (take slot xs)
    → HasAdded ok mid (record { address = get_or xs slot 0; owner = Data nid slot } ∷ []) new
    → new ≡ old ++ data_names nid 0 (take (slot + 1) xs)
data_more nid slot xs old mid new ok some holds so_far added =
    added_then ok mid (record { address = get_or xs slot 0; owner = Data nid slot } ∷ []) new holds added
    ∙ ap (λ ns. ns ++ record { address = get_or xs slot 0; owner = Data nid slot } ∷ []) so_far
    ∙ append_assoc old (data_names nid 0 (take slot xs)) (record { address = get_or xs slot 0; owner = Data nid slot } ∷ [])
    ∙ ap (λ ns. old ++ ns) (sym (names_more_from_0 nid slot xs some))

pub data_stop : (nid slot : ℕ) (xs : List ℕ) (old mid new last : List Mark) (ok : Bool) → get_or xs slot 0 ≢ 0 → ok ≡ false
    → mid ≡ old ++ data_names nid 0 (take slot xs)
    → HasAdded ok mid (record { address = get_or xs slot 0; owner = Data nid slot } ∷ []) new
    → HasAdded false old (data_names nid 0 xs) last
data_stop nid slot xs old mid new last ok some fails so_far added =
    let name : Mark = record { address = get_or xs slot 0; owner = Data nid slot } in
    let one = added_as ok false mid (name ∷ []) new fails added in
    let more = added_more false old mid new (data_names nid 0 (take slot xs)) (name ∷ []) so_far one in
    let front = subst (λ ns. HasAdded false old ns new) (sym (names_more_from_0 nid slot xs some)) more in
    subst (λ ns. HasAdded false old ns last) (sym (data_split nid 0 (slot + 1) xs))
    (added_stop old new last (data_names nid 0 (take (slot + 1) xs)) _ front)

-- the inodes up to one, and the later ones
inodes_split : (image : Image) (n k : ℕ) → k < n → is_taken image (k + 1) ≡ true
    → (rest : List Mark) × (flat_map (walk image) (filter (is_taken image) (up_to n))
    ≡ (flat_map (walk image) (filter (is_taken image) (up_to k)) ++ walk image (k + 1)) ++ rest)
inodes_split image zero k low taken = absurd (omega arith)
inodes_split image (suc n) k low taken =
    elim (leb_tells (suc k) n) [
      | inl (e, under) ↦
          let before = inodes_split image n k under taken in
          let last = flat_map (walk image) (filter (is_taken image) (suc n ∷ [])) in (
            before.0 ++ last,
            ap (flat_map (walk image)) (filter-append (is_taken image) (up_to n) (suc n ∷ []))
                ∙ flat_map-append (walk image) (filter (is_taken image) (up_to n)) (filter (is_taken image) (suc n ∷ []))
                ∙ ap (λ ns. ns ++ last) before.1
                ∙ append_assoc (flat_map (walk image) (filter (is_taken image) (up_to k)) ++ walk image (k + 1)) before.0 last,
          )
      | inr (e, over) ↦
          let is : suc n ≡ k + 1 = omega arith in (
            [],
            ap (λ m. flat_map (walk image) (filter (is_taken image) (up_to m))) is ∙ inodes_more image k taken
                ∙ sym (append-nil (flat_map (walk image) (filter (is_taken image) (up_to k)) ++ walk image (k + 1))),
          )
    ]

pub inode_stop : (image : Image) (n k : ℕ) (ok : Bool) (mid new : List Mark) → k < n → is_taken image (k + 1) ≡ true → ok ≡ false
    → mid ≡ flat_map (walk image) (filter (is_taken image) (up_to k)) → HasAdded ok mid (walk image (k + 1)) new
    → ¬ HaveOwnAddresses (flat_map (walk image) (filter (is_taken image) (up_to n)))
inode_stop image n k ok mid new low taken fails so_far added own =
    let one = added_as ok false mid (walk image (k + 1)) new fails added in
    let split = inodes_split image n k low taken in
    one (own_front (mid ++ walk image (k + 1)) split.0
    (subst HaveOwnAddresses (split.1 ∙ ap (λ ns. (ns ++ walk image (k + 1)) ++ split.0) (sym so_far)) own))
