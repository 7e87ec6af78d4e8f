-- A mark says that the place fits and all below it is walked: so a marked node need not be walked again, and what one
-- walk marks and names joins with what the next does.
use Rattle.std.proofs.Common.{◌≡◌, ◌≢◌, refl, sym, ◌∙◌, ap, subst, ℕ, zero, suc, ◌+◌, ◌-◌, ◌<◌, ◌≤◌, ◌⊎◌, inl, inr, Bool, true, false, not, List, [], ◌∷◌, ◌++◌, length, take, get_or, set, add-one, arith, length-set}
use Rattle.std.specs.Prelude.{◌==◌, ◌&&◌, Contains, filter, replicate, All}
use Rattle.std.specs.List.{flat_map}
use Rattle.std.proofs.Math.Seq.{take-suc}
use Rattle.std.proofs.lemmas.Bool.{ne_eqb}
use Rattle.std.proofs.lemmas.Bool.Decides.{eqb_tells, leb_tells}
use Rattle.std.proofs.lemmas.List.{append-nil, get_or-set_other, get_or-replicate, get_or_past, length-replicate}
use Rattle.std.proofs.lemmas.List.Elements.{filter-append, Contains-append_left, Contains-append_right, Contains-append_cases}
use Rattle.std.proofs.lemmas.Grind.{flat_map-append, get_or-set_at}
use Rattle.geometry.specs.declared.owner.Owner.TheVariants.{Node, Data}
use Rattle.image.specs.Image.{Image, entry_of, node_of, no_entry}
use Rattle.image.specs.Walk.{data_names, own_names, names_below, misfits_below, fits, is_taken, class_at, child, walk, misfits, up_to, node_name}
use Rattle.image_checker.specs.Marks.{NodesMarked, IsSound, Walked}
use Rattle.geometry.specs.declared.owner.Mark.{Mark}
use Rattle.image.specs.declared.image.NodeEntry.{NodeEntry}

none_named : (n : Mark) → Contains [] n → ⊥
none_named n (k, below, is) = absurd (omega arith)

pub walked_none : (image : Image) (marks : List ℕ) → IsSound image marks → Walked image marks marks [] []
walked_none image marks sound = record {
  fit = refl;
  sized = refl;
  kept = λ k h. h;
  marked = λ n nid has at. absurd (none_named n has);
  only = λ k h. inl h;
  sound = sound;
}

marked_kept : (old new : List ℕ) (ns : List Mark) → ((k : ℕ) → get_or old k 0 ≢ 0 → get_or new k 0 ≢ 0) → NodesMarked old ns → NodesMarked new ns
marked_kept old new ns kept m = λ n nid has at. kept nid (m n nid has at)

marked_append : (marks : List ℕ) (xs ys : List Mark) → NodesMarked marks xs → NodesMarked marks ys → NodesMarked marks (xs ++ ys)
marked_append marks xs ys f g = λ n nid has at.
    elim (Contains-append_cases xs ys n has) [ inl h ↦ f n nid h at | inr h ↦ g n nid h at ]

both_none : (a b : List ℕ) → a ≡ [] → b ≡ [] → a ++ b ≡ []
both_none [] b e f = f
both_none (x ∷ a) b e f = cc

wider : (A : Type 0) (n : Mark) (xs ys : List Mark) → A ⊎ Contains xs n → A ⊎ Contains (xs ++ ys) n
wider A n xs ys (inl a) = inl a
wider A n xs ys (inr c) = inr (Contains-append_left xs ys n c)

later : (A B : Type 0) (n : Mark) (xs ys : List Mark) → A ⊎ Contains ys n → (A → B ⊎ Contains xs n) → B ⊎ Contains (xs ++ ys) n
later A B n xs ys (inl a) f = wider B n xs ys (f a)
later A B n xs ys (inr c) f = inr (Contains-append_right xs ys n c)

pub walked_more : (image : Image) (old mid new a b : List ℕ) (xs ys : List Mark) → Walked image old mid a xs → Walked image mid new b ys
    → Walked image old new (a ++ b) (xs ++ ys)
walked_more image old mid new a b xs ys f s = record {
  fit = both_none a b f.fit s.fit;
  sized = s.sized ∙ f.sized;
  kept = λ k h. s.kept k (f.kept k h);
  marked = marked_append new xs ys (marked_kept mid new xs s.kept f.marked) s.marked;
  only = λ k h. later (get_or mid k 0 ≢ 0) (get_or old k 0 ≢ 0) (node_name image k) xs ys (s.only k h) (f.only k);
  sound = s.sound;
}

set_kept : (marks : List ℕ) (nid v : ℕ) → nid < length marks → v ≢ 0 → (k : ℕ) → get_or marks k 0 ≢ 0 → get_or (set marks nid v) k 0 ≢ 0
set_kept marks nid v low some k h =
    elim (eqb_tells nid k) [
      | inl (e, same) ↦ λ z. some (sym (get_or-set_at marks nid k v 0 (sym same) low) ∙ z)
      | inr (e, other) ↦ λ z. h (sym (get_or-set_other marks nid k v 0 (λ f. other (sym f))) ∙ z)
    ]

-- a data block's owner is no node
data_owned : (nid from : ℕ) (xs : List ℕ) (n : Mark) (k : ℕ) → Contains (data_names nid from xs) n → n.owner ≡ Node k → ⊥
data_owned nid from [] n k (j, below, is) at = absurd (omega arith)
data_owned nid from (zero ∷ xs) n k has at = data_owned nid (from + 1) xs n k has at
data_owned nid from (suc x ∷ xs) n k (zero, below, is) at =
    let e : Data nid from ≡ Node k = ap (λ (m : Mark). m.owner) is ∙ at in cc
data_owned nid from (suc x ∷ xs) n k (suc j, below, is) at = data_owned nid (from + 1) xs n k (j, omega arith, is) at

own_marked : (image : Image) (nid : ℕ) (marks : List ℕ) → get_or marks nid 0 ≢ 0 → NodesMarked marks (own_names image nid)
own_marked image nid marks here n k (zero, below, is) at =
    let e : Node nid ≡ Node k = ap (λ (m : Mark). m.owner) is ∙ at in
    let same : nid ≡ k = cc in
    subst (λ (j : ℕ). get_or marks j 0 ≢ 0) same here
own_marked image nid marks here n k (suc j, below, is) at =
    absurd (data_owned nid 0 (node_of image nid).addresses n k (j, omega arith, is) at)

and3 : (a b c : Bool) → (a && b && c) ≡ true → (a ≡ true) × (b ≡ true) × (c ≡ true)
and3 true true true h = (refl, refl, refl)
and3 true true false h = cc
and3 true false c h = cc
and3 false b c h = cc

same_of : (a b : ℕ) → (a == b) ≡ true → a ≡ b
same_of a b h = elim (eqb_tells a b) [ inl (e, same) ↦ same | inr (e, other) ↦ cc ]

pub fits_inode : (image : Image) (inode level nid : ℕ) → fits image inode level nid ≡ true → (entry_of image nid).inode ≡ inode
fits_inode image inode level nid h =
    same_of (entry_of image nid).inode inode
    (and3 (not ((entry_of image nid).address == 0)) ((entry_of image nid).inode == inode) ((node_of image nid).class == class_at level) h).1

pub fits_taken : (image : Image) (inode level nid : ℕ) → fits image inode level nid ≡ true → is_taken image nid ≡ true
fits_taken image inode level nid h =
    (and3 (not ((entry_of image nid).address == 0)) ((entry_of image nid).inode == inode) ((node_of image nid).class == class_at level) h).0

pub fits_class : (image : Image) (inode level nid : ℕ) → fits image inode level nid ≡ true → (node_of image nid).class ≡ class_at level
fits_class image inode level nid h =
    same_of (node_of image nid).class (class_at level)
    (and3 (not ((entry_of image nid).address == 0)) ((entry_of image nid).inode == inode) ((node_of image nid).class == class_at level) h).2

past_end : (xs : List NodeEntry) (k : ℕ) → length xs ≤ k → get_or xs k no_entry ≡ no_entry
past_end [] k h = refl
past_end (x ∷ xs) zero h = absurd (omega arith)
past_end (x ∷ xs) (suc k) h = past_end xs k (omega arith)

pub taken_within : (image : Image) (nid : ℕ) → is_taken image nid ≡ true → nid < length image.node_table + 1
taken_within image zero h = omega arith
taken_within image (suc k) h =
    elim (leb_tells (suc k) (length image.node_table)) [
      | inl (e, low) ↦ omega arith
      | inr (e, high) ↦
          let f : suc k - 1 ≡ k = omega arith in
          let here : entry_of image (suc k) ≡ get_or image.node_table k no_entry = rw (ne_eqb (suc k) 0 (λ z. cc), f) refl in
          let none : entry_of image (suc k) ≡ no_entry = here ∙ past_end image.node_table k (omega arith) in
          let t : not ((no_entry).address == 0) ≡ true = subst (λ (e : NodeEntry). not (e.address == 0) ≡ true) none h in
          absurd cc
    ]

-- after the mark of a place below which all is walked
pub walked_set : (image : Image) (inode level nid : ℕ) (old mid lost : List ℕ) (rest : List Mark)
    → fits image inode level nid ≡ true → nid < length mid
    → misfits_below image inode level nid ≡ lost → names_below image inode level nid ≡ own_names image nid ++ rest
    → Walked image old mid lost rest
    → Walked image old (set mid nid (level + 1)) (misfits_below image inode level nid) (names_below image inode level nid)
walked_set image inode level nid old mid lost rest fit low is_lost is_names w =
    let some : level + 1 ≢ 0 = λ z. absurd (omega arith) in
    let more : (k : ℕ) → get_or mid k 0 ≢ 0 → get_or (set mid nid (level + 1)) k 0 ≢ 0 = set_kept mid nid (level + 1) low some in
    let here : get_or (set mid nid (level + 1)) nid 0 ≢ 0
    = λ z. some (sym (get_or-set_at mid nid nid (level + 1) 0 refl low) ∙ z) in
    let all : NodesMarked (set mid nid (level + 1)) (names_below image inode level nid)
    = subst (NodesMarked (set mid nid (level + 1))) (sym is_names)
    (marked_append (set mid nid (level + 1)) (own_names image nid) rest (own_marked image nid (set mid nid (level + 1)) here)
    (marked_kept mid (set mid nid (level + 1)) rest more w.marked)) in
    let none : misfits_below image inode level nid ≡ [] = is_lost ∙ w.fit in
    record {
      fit = none;
      sized = length-set mid nid (level + 1) ∙ w.sized;
      kept = λ k h. more k (w.kept k h);
      marked = all;
      only = λ k h.
          elim (eqb_tells nid k) [
            | inl (e, same) ↦
                inr (subst (λ ns. Contains ns (node_name image k)) (sym is_names)
                (Contains-append_left (own_names image nid) rest (node_name image k)
                (0, omega arith, ap (node_name image) same)))
            | inr (e, other) ↦
                elim (w.only k (λ z. h (get_or-set_other mid nid k (level + 1) 0 (λ f. other (sym f)) ∙ z))) [
                  | inl o ↦ inl o
                  | inr c ↦ inr (subst (λ ns. Contains ns (node_name image k)) (sym is_names) (Contains-append_right (own_names image nid) rest (node_name image k) c))
                ]
          ];
      sound = λ k at under is.
          elim (eqb_tells nid k) [
            | inl (e, same) ↦
                let is_at : level + 1 ≡ at + 1 = sym (get_or-set_at mid nid k (level + 1) 0 (sym same) low) ∙ is in
                let here_level : level ≡ at = omega arith in
                let is_inode : (entry_of image k).inode ≡ inode = ap (λ (j : ℕ). (entry_of image j).inode) (sym same) ∙ fits_inode image inode level nid fit in (
                  ap (λ i. misfits_below image i at k) is_inode ∙ ap (λ l. misfits_below image inode l k) (sym here_level) ∙ ap (misfits_below image inode level) (sym same) ∙ none,
                  subst (NodesMarked (set mid nid (level + 1)))
                      (ap (names_below image inode level) same ∙ ap (λ l. names_below image inode l k) here_level ∙ ap (λ i. names_below image i at k) (sym is_inode)) all,
                )
            | inr (e, other) ↦
                let before = w.sound k at under (sym (get_or-set_other mid nid k (level + 1) 0 (λ f. other (sym f))) ∙ is) in
                (before.0, marked_kept mid (set mid nid (level + 1)) (names_below image (entry_of image k).inode at k) more before.1)
          ];
    }

-- a direct node's place
pub walked_direct : (image : Image) (inode level nid : ℕ) (marks : List ℕ)
    → level ≡ 0 → nid ≢ 0 → fits image inode level nid ≡ true → nid < length marks → IsSound image marks
    → Walked image marks (set marks nid (level + 1)) (misfits_below image inode level nid) (names_below image inode level nid)
walked_direct image inode (suc level) nid marks is some fit low sound = absurd (omega arith)
walked_direct image inode zero zero marks is some fit low sound = absurd (some refl)
walked_direct image inode zero (suc k) marks is some fit low sound =
    walked_set image inode 0 (suc k) marks marks [] [] fit low (rw fit refl) (rw fit (sym (append-nil (own_names image (suc k)))))
    (walked_none image marks sound)

-- an indirect node's place
pub walked_children : (image : Image) (inode level nid : ℕ) (old mid : List ℕ)
    → 0 < level → nid ≢ 0 → fits image inode level nid ≡ true → nid < length mid
    → Walked image old mid (flat_map (misfits_below image inode (level - 1)) (node_of image nid).children)
    (flat_map (names_below image inode (level - 1)) (node_of image nid).children)
    → Walked image old (set mid nid (level + 1)) (misfits_below image inode level nid) (names_below image inode level nid)
walked_children image inode zero nid old mid deep some fit low w = absurd (omega arith)
walked_children image inode (suc level) zero old mid deep some fit low w = absurd (some refl)
walked_children image inode (suc level) (suc k) old mid deep some fit low w =
    let e : suc level - 1 ≡ level = omega arith in
    let u = subst (λ (l : ℕ). Walked image old mid (flat_map (misfits_below image inode l) (node_of image (suc k)).children)
    (flat_map (names_below image inode l) (node_of image (suc k)).children)) e w in
    walked_set image inode (suc level) (suc k) old mid (flat_map (misfits_below image inode level) (node_of image (suc k)).children)
    (flat_map (names_below image inode level) (node_of image (suc k)).children) fit low (rw fit refl) (rw fit refl) u

-- a place that was walked before
pub walked_before : (image : Image) (inode level nid : ℕ) (marks : List ℕ) → level < 3 → fits image inode level nid ≡ true
    → get_or marks nid 0 ≡ level + 1 → IsSound image marks
    → Walked image marks marks (misfits_below image inode level nid) (names_below image inode level nid)
walked_before image inode level nid marks low fit is sound =
    let is_inode = fits_inode image inode level nid fit in
    let known = sound nid level low is in
    record {
      fit = ap (λ i. misfits_below image i level nid) (sym is_inode) ∙ known.0;
      sized = refl;
      kept = λ k h. h;
      marked = subst (λ (i : ℕ). NodesMarked marks (names_below image i level nid)) is_inode known.1;
      only = λ k h. inl h;
      sound = sound;
    }

nothing_misfits : (image : Image) (inode level : ℕ) → misfits_below image inode level 0 ≡ []
nothing_misfits image inode level = refl

nothing_named : (image : Image) (inode level : ℕ) → names_below image inode level 0 ≡ []
nothing_named image inode zero = refl
nothing_named image inode (suc level) = refl

pub walked_nothing : (image : Image) (inode level nid : ℕ) (marks : List ℕ) → nid ≡ 0 → IsSound image marks
    → Walked image marks marks (misfits_below image inode level nid) (names_below image inode level nid)
walked_nothing image inode level (suc k) marks is sound = absurd (omega arith)
walked_nothing image inode level zero marks is sound =
    subst (Walked image marks marks []) (sym (nothing_named image inode level)) (walked_none image marks sound)

-- a node number that doesn't fit
pub misfit_lost : (image : Image) (inode level nid : ℕ) → nid ≢ 0 → fits image inode level nid ≡ false → misfits_below image inode level nid ≢ []
misfit_lost image inode level zero some fit = λ e. some refl
misfit_lost image inode zero (suc k) some fit = λ e. let t : suc k ∷ [] ≡ [] = rw fit at e in cc
misfit_lost image inode (suc level) (suc k) some fit = λ e. let t : suc k ∷ [] ≡ [] = rw fit at e in cc

pub append_none : (xs ys : List ℕ) → xs ++ ys ≡ [] → (xs ≡ []) × (ys ≡ [])
append_none [] ys e = (refl, e)
append_none (x ∷ xs) ys e = (cc, cc)

pub none_at : (f : ℕ → List ℕ) (xs : List ℕ) (slot d : ℕ) → slot < length xs → flat_map f xs ≡ [] → f (get_or xs slot d) ≡ []
none_at f [] slot d low e = absurd (omega arith)
none_at f (x ∷ xs) zero d low e = (append_none (f x) _ e).0
none_at f (x ∷ xs) (suc slot) d low e = none_at f xs slot d (omega arith) (append_none (f x) _ e).1

-- a child below which something doesn't fit
pub child_lost : (image : Image) (inode level nid slot d : ℕ) → 0 < level → nid ≢ 0 → fits image inode level nid ≡ true
    → slot < length (node_of image nid).children
    → misfits_below image inode (level - 1) (get_or (node_of image nid).children slot d) ≢ []
    → misfits_below image inode level nid ≢ []
child_lost image inode zero nid slot d deep some fit low lost = absurd (omega arith)
child_lost image inode (suc level) zero slot d deep some fit low lost = absurd (some refl)
child_lost image inode (suc level) (suc k) slot d deep some fit low lost = λ e.
    let is : suc level - 1 ≡ level = omega arith in
    let t : flat_map (misfits_below image inode level) (node_of image (suc k)).children ≡ [] = rw fit at e in
    lost (ap (λ l. misfits_below image inode l (get_or (node_of image (suc k)).children slot d)) is
    ∙ none_at (misfits_below image inode level) (node_of image (suc k)).children slot d low t)

-- one child more
pub take_more : {A : Type 0} (f : ℕ → List A) (xs : List ℕ) (k d : ℕ) → k < length xs
    → flat_map f (take (k + 1) xs) ≡ flat_map f (take k xs) ++ f (get_or xs k d)
take_more f xs k d low =
    ap (λ n. flat_map f (take n xs)) (add-one k) ∙ ap (flat_map f) (take-suc xs k d low)
    ∙ flat_map-append f (take k xs) (get_or xs k d ∷ []) ∙ ap (λ ys. flat_map f (take k xs) ++ ys) (append-nil (f (get_or xs k d)))

pub children_more : (image : Image) (inode level : ℕ) (xs : List ℕ) (k d : ℕ) (old mid new : List ℕ) → k < length xs
    → Walked image old mid (flat_map (misfits_below image inode level) (take k xs)) (flat_map (names_below image inode level) (take k xs))
    → Walked image mid new (misfits_below image inode level (get_or xs k d)) (names_below image inode level (get_or xs k d))
    → Walked image old new (flat_map (misfits_below image inode level) (take (k + 1) xs)) (flat_map (names_below image inode level) (take (k + 1) xs))
children_more image inode level xs k d old mid new low f s =
    subst (λ ms. Walked image old new ms (flat_map (names_below image inode level) (take (k + 1) xs))) (sym (take_more (misfits_below image inode level) xs k d low))
    (subst (λ ns. Walked image old new (flat_map (misfits_below image inode level) (take k xs) ++ misfits_below image inode level (get_or xs k d)) ns)
    (sym (take_more (names_below image inode level) xs k d low))
    (walked_more image old mid new _ _ _ _ f s))

-- the mark of an inode is no level's
pub walked_inode : (image : Image) (inode v : ℕ) (marks : List ℕ) → v ≡ 4 → inode < length marks
    → IsSound image marks → Walked image marks (set marks inode v) [] (own_names image inode)
walked_inode image inode v marks four low sound =
    let some : v ≢ 0 = λ z. absurd (omega arith) in
    let more : (k : ℕ) → get_or marks k 0 ≢ 0 → get_or (set marks inode v) k 0 ≢ 0 = set_kept marks inode v low some in
    let here : get_or (set marks inode v) inode 0 ≢ 0
    = λ z. some (sym (get_or-set_at marks inode inode v 0 refl low) ∙ z) in
    record {
      fit = refl;
      sized = length-set marks inode v;
      kept = more;
      marked = own_marked image inode (set marks inode v) here;
      only = λ k h.
          elim (eqb_tells inode k) [
            | inl (e, same) ↦ inr (0, omega arith, ap (node_name image) same)
            | inr (e, other) ↦ inl (λ z. h (get_or-set_other marks inode k v 0 (λ f. other (sym f)) ∙ z))
          ];
      sound = λ k at under is.
          elim (eqb_tells inode k) [
            | inl (e, same) ↦
                let is_at : v ≡ at + 1 = sym (get_or-set_at marks inode k v 0 (sym same) low) ∙ is in
                absurd (omega arith)
            | inr (e, other) ↦
                let before = sound k at under (sym (get_or-set_other marks inode k v 0 (λ f. other (sym f))) ∙ is) in
                (before.0, marked_kept marks (set marks inode v) (names_below image (entry_of image k).inode at k) more before.1)
          ];
    }

at_child : (image : Image) (inode level n m : ℕ) (old new : List ℕ) → n ≡ m
    → Walked image old new (misfits_below image inode level n) (names_below image inode level n)
    → Walked image old new (misfits_below image inode level m) (names_below image inode level m)
at_child image inode level n m old new is w = subst (λ (j : ℕ). Walked image old new (misfits_below image inode level j) (names_below image inode level j)) is w

-- an inode's own block and its five places
pub walked_walk : (image : Image) (inode n0 n1 n2 n3 n4 : ℕ) (m m0 m1 m2 m3 m4 m5 : List ℕ)
    → n0 ≡ child image inode 0 → n1 ≡ child image inode 1 → n2 ≡ child image inode 2 → n3 ≡ child image inode 3 → n4 ≡ child image inode 4
    → Walked image m m0 [] (own_names image inode)
    → Walked image m0 m1 (misfits_below image inode 0 n0) (names_below image inode 0 n0)
    → Walked image m1 m2 (misfits_below image inode 0 n1) (names_below image inode 0 n1)
    → Walked image m2 m3 (misfits_below image inode 1 n2) (names_below image inode 1 n2)
    → Walked image m3 m4 (misfits_below image inode 1 n3) (names_below image inode 1 n3)
    → Walked image m4 m5 (misfits_below image inode 2 n4) (names_below image inode 2 n4)
    → Walked image m m5 (misfits image inode) (walk image inode)
walked_walk image inode n0 n1 n2 n3 n4 m m0 m1 m2 m3 m4 m5 e0 e1 e2 e3 e4 w f0 f1 f2 f3 f4 =
    let c0 = child image inode 0 in
    let c1 = child image inode 1 in
    let c2 = child image inode 2 in
    let c3 = child image inode 3 in
    let c4 = child image inode 4 in
    let none = walked_none image m5 f4.sound in
    let l4 = walked_more image m4 m5 m5 (misfits_below image inode 2 c4) [] (names_below image inode 2 c4) [] (at_child image inode 2 n4 c4 m4 m5 e4 f4) none in
    let l3 = walked_more image m3 m4 m5 (misfits_below image inode 1 c3) _ (names_below image inode 1 c3) _ (at_child image inode 1 n3 c3 m3 m4 e3 f3) l4 in
    let l2 = walked_more image m2 m3 m5 (misfits_below image inode 1 c2) _ (names_below image inode 1 c2) _ (at_child image inode 1 n2 c2 m2 m3 e2 f2) l3 in
    let l1 = walked_more image m1 m2 m5 (misfits_below image inode 0 c1) _ (names_below image inode 0 c1) _ (at_child image inode 0 n1 c1 m1 m2 e1 f1) l2 in
    let l0 = walked_more image m0 m1 m5 (misfits_below image inode 0 c0) _ (names_below image inode 0 c0) _ (at_child image inode 0 n0 c0 m0 m1 e0 f0) l1 in
    walked_more image m m0 m5 [] _ (own_names image inode) _ w l0

-- what is lost at one of the places is lost in all
pub lost_first : (a b : List ℕ) → a ≢ [] → a ++ b ≢ []
lost_first a b lost = λ e. lost (append_none a b e).0

pub lost_later : (a b : List ℕ) → b ≢ [] → a ++ b ≢ []
lost_later a b lost = λ e. lost (append_none a b e).1

pub at_child_lost : (image : Image) (inode level n m : ℕ) → n ≡ m → misfits_below image inode level n ≢ [] → misfits_below image inode level m ≢ []
at_child_lost image inode level n m is lost = subst (λ (j : ℕ). misfits_below image inode level j ≢ []) is lost

pub second_lost : (image : Image) (inode n : ℕ) → n ≡ child image inode 1 → misfits_below image inode 0 n ≢ [] → misfits image inode ≢ []
second_lost image inode n is lost =
    lost_later (misfits_below image inode 0 (child image inode 0)) _
    (lost_first (misfits_below image inode 0 (child image inode 1)) _ (at_child_lost image inode 0 n (child image inode 1) is lost))

pub third_lost : (image : Image) (inode n : ℕ) → n ≡ child image inode 2 → misfits_below image inode 1 n ≢ [] → misfits image inode ≢ []
third_lost image inode n is lost =
    lost_later (misfits_below image inode 0 (child image inode 0)) _
    (lost_later (misfits_below image inode 0 (child image inode 1)) _
    (lost_first (misfits_below image inode 1 (child image inode 2)) _ (at_child_lost image inode 1 n (child image inode 2) is lost)))

pub fourth_lost : (image : Image) (inode n : ℕ) → n ≡ child image inode 3 → misfits_below image inode 1 n ≢ [] → misfits image inode ≢ []
fourth_lost image inode n is lost =
    lost_later (misfits_below image inode 0 (child image inode 0)) _
    (lost_later (misfits_below image inode 0 (child image inode 1)) _
    (lost_later (misfits_below image inode 1 (child image inode 2)) _
    (lost_first (misfits_below image inode 1 (child image inode 3)) _ (at_child_lost image inode 1 n (child image inode 3) is lost))))

-- no mark at all
pub zeros : (n k : ℕ) → ◌≡◌ {A = ℕ} (get_or (replicate n 0) k 0) 0
zeros n k =
    elim (leb_tells (suc k) n) [
      | inl (e, low) ↦ get_or-replicate n k 0 0 low
      | inr (e, high) ↦ get_or_past (replicate n 0) k 0 (let l : length {A = ℕ} (replicate n 0) ≡ n = length-replicate n 0 in omega arith)
    ]

pub walked_start : (image : Image) (n : ℕ) → Walked image (replicate n 0) (replicate n 0) [] []
walked_start image n = walked_none image (replicate n 0) (λ k level low is. absurd (let z = zeros n k in omega arith))

-- one inode more
pub taken_more : {A : Type 0} (f : ℕ → List A) (image : Image) (k : ℕ) → is_taken image (k + 1) ≡ true
    → flat_map f (filter (is_taken image) (up_to (k + 1))) ≡ flat_map f (filter (is_taken image) (up_to k)) ++ f (k + 1)
taken_more f image k taken =
    let e : k + 1 ≡ suc k = add-one k in
    let last : filter (is_taken image) (suc k ∷ []) ≡ suc k ∷ [] = rw (subst (λ (n : ℕ). is_taken image n ≡ true) e taken) refl in
    ap (λ n. flat_map f (filter (is_taken image) (up_to n))) e
    ∙ ap (flat_map f) (filter-append (is_taken image) (up_to k) (suc k ∷ []) ∙ ap (λ xs. filter (is_taken image) (up_to k) ++ xs) last)
    ∙ flat_map-append f (filter (is_taken image) (up_to k)) (suc k ∷ [])
    ∙ ap (λ ns. flat_map f (filter (is_taken image) (up_to k)) ++ ns) (append-nil (f (suc k)) ∙ ap f (sym e))

-- the list of inodes with one number more that is not taken
pub inodes_same : (image : Image) (k : ℕ) → is_taken image (k + 1) ≡ false
    → filter (is_taken image) (up_to (k + 1)) ≡ filter (is_taken image) (up_to k)
inodes_same image k taken =
    let e : k + 1 ≡ suc k = add-one k in
    let last : filter (is_taken image) (suc k ∷ []) ≡ [] = rw (subst (λ (n : ℕ). is_taken image n ≡ false) e taken) refl in
    ap (λ n. filter (is_taken image) (up_to n)) e
    ∙ filter-append (is_taken image) (up_to k) (suc k ∷ []) ∙ ap (λ xs. filter (is_taken image) (up_to k) ++ xs) last ∙ append-nil _

pub inode_more : (image : Image) (k : ℕ) (old mid new : List ℕ) → is_taken image (k + 1) ≡ true
    → Walked image old mid (flat_map (misfits image) (filter (is_taken image) (up_to k))) (flat_map (walk image) (filter (is_taken image) (up_to k)))
    → Walked image mid new (misfits image (k + 1)) (walk image (k + 1))
    → Walked image old new (flat_map (misfits image) (filter (is_taken image) (up_to (k + 1)))) (flat_map (walk image) (filter (is_taken image) (up_to (k + 1))))
inode_more image k old mid new taken f s =
    subst (λ ms. Walked image old new ms (flat_map (walk image) (filter (is_taken image) (up_to (k + 1))))) (sym (taken_more (misfits image) image k taken))
    (subst (λ ns. Walked image old new (flat_map (misfits image) (filter (is_taken image) (up_to k)) ++ misfits image (k + 1)) ns)
    (sym (taken_more (walk image) image k taken))
    (walked_more image old mid new _ _ _ _ f s))

pub inode_no_more : (image : Image) (k : ℕ) (old new : List ℕ) → is_taken image (k + 1) ≡ false
    → Walked image old new (flat_map (misfits image) (filter (is_taken image) (up_to k))) (flat_map (walk image) (filter (is_taken image) (up_to k)))
    → Walked image old new (flat_map (misfits image) (filter (is_taken image) (up_to (k + 1)))) (flat_map (walk image) (filter (is_taken image) (up_to (k + 1))))
inode_no_more image k old new taken w =
    subst (λ is. Walked image old new (flat_map (misfits image) is) (flat_map (walk image) is)) (sym (inodes_same image k taken)) w

-- a taken number is among the inodes
pub inode_in : (image : Image) (n k : ℕ) → k < n → is_taken image (k + 1) ≡ true → Contains (filter (is_taken image) (up_to n)) (k + 1)
inode_in image zero k low taken = absurd (omega arith)
inode_in image (suc n) k low taken =
    let split = filter-append (is_taken image) (up_to n) (suc n ∷ []) in
    subst (λ xs. Contains xs (k + 1)) (sym split)
    (elim (leb_tells (suc k) n) [
      | inl (e, under) ↦ Contains-append_left (filter (is_taken image) (up_to n)) _ (k + 1) (inode_in image n k under taken)
      | inr (e, over) ↦
          let is : k + 1 ≡ suc n = omega arith in
          let t : is_taken image (suc n) ≡ true = subst (λ (j : ℕ). is_taken image j ≡ true) is taken in
          let last : filter (is_taken image) (suc n ∷ []) ≡ suc n ∷ [] = rw t refl in
          Contains-append_right (filter (is_taken image) (up_to n)) _ (k + 1)
          (subst (λ xs. Contains xs (k + 1)) (sym last) (0, omega arith, sym is))
    ])

pub all_at : {X : Type 0} (P : X → Type 0) (xs : List X) (x : X) → All P xs → Contains xs x → P x
all_at P xs x all (k, below, is) = subst P is (all k _ below)
