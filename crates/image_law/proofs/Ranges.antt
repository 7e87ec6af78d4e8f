-- A child's number is that of a node of the same tree or 0, so where the numbers of all nodes are in range those of the
-- children are; an entry that isn't 0 is a name.
use Rattle.geometry.specs.declared.owner.Mark.{Mark}
use Rattle.std.proofs.Common.{◌≡◌, refl, sym, ◌∙◌, ap, subst, ℕ, zero, suc, ◌+◌, ◌<◌, ◌≤◌, ◌⊎◌, inl, inr, Bool, true, false, cond, List, [], ◌∷◌, map, get_or, arith}
use Rattle.std.specs.Prelude.{Option, Some, None, filter, All}
use Rattle.std.specs.List.{flat_map}
use Rattle.std.proofs.lemmas.Bool.Decides.{eqb_tells}
use Rattle.geometry.specs.declared.owner.Owner.TheVariants.{Data}
use Rattle.image.specs.Walk.{data_names, up_to}
use Rattle.image_law.specs.Items.{Among}
use Rattle.image_law.specs.Parts.{Tree, Stored, nid_of, each, top, stored_in, stored_below, Subtree, subtrees, FileTree, stored_of}
use Rattle.image_law.proofs.Weighing.{among_left, among_right, among_split, among_at}

pub all_of : {A : Type 0} (P : A → Type 0) (xs : List A) → ((x : A) → Among x xs → P x) → All P xs
all_of P xs of_each k d low = of_each (get_or xs k d) (among_at xs k d low)

module _ {A : Type 0} (p : A → Bool) where
  pub among-filter : (x : A) (xs : List A) → Among x xs → p x ≡ true → Among x (filter p xs)
  among-filter x [] m t = m
  among-filter x (y ∷ ys) (inl e) t = rw (ap p e ∙ t) (inl e)
  among-filter x (y ∷ ys) (inr m) t = go (p y) (among-filter x ys m t)
    where
      go : (b : Bool) → Among x (filter p ys) → Among x (cond b (y ∷ filter p ys) (filter p ys))
      go true n = inr n
      go false n = n

  pub of_among-filter : (x : A) (xs : List A) → Among x (filter p xs) → Among x xs × (p x ≡ true)
  of_among-filter x [] m = absurd m
  of_among-filter x (y ∷ ys) m = go (λ n. of_among-filter x ys n) (p y) refl m
    where
      go : (Among x (filter p ys) → Among x ys × (p x ≡ true)) → (b : Bool) → p y ≡ b → Among x (cond b (y ∷ filter p ys) (filter p ys)) → Among x (y ∷ ys) × (p x ≡ true)
      go rest true t (inl e) = (inl e, ap p (sym e) ∙ t)
      go rest true t (inr n) = let r = rest n in (inr r.0, r.1)
      go rest false t n = let r = rest n in (inr r.0, r.1)

pub among_up_to : (n j : ℕ) → j < n → Among (suc j) (up_to n)
among_up_to zero j low = absurd (omega arith)
among_up_to (suc n) j low =
    elim (eqb_tells j n) [
      | inl (t, e) ↦ among_right (suc j) (up_to n) (suc n ∷ []) (inl (omega arith))
      | inr (t, e) ↦ among_left (suc j) (up_to n) (suc n ∷ []) (among_up_to n j (omega arith))
    ]

pub of_among_up_to : (n x : ℕ) → Among x (up_to n) → (j : ℕ) × (j < n) × (x ≡ suc j)
of_among_up_to zero x m = absurd m
of_among_up_to (suc n) x m =
    elim (among_split x (up_to n) (suc n ∷ []) m) [
      | inl l ↦ let r = of_among_up_to n x l in (r.0, (let s = r.1 in omega arith), r.2)
      | inr (inl e) ↦ (n, omega arith, sym e)
      | inr (inr r) ↦ absurd r
    ]

-- an entry of a node is 0 or names a block
pub data_among : (nid from a : ℕ) (xs : List ℕ) → Among a xs → (a ≡ 0) ⊎ ((slot : ℕ) × Among {A = Mark} (record { address = a; owner = Data nid slot }) (data_names nid from xs))
data_among nid from a [] m = absurd m
data_among nid from a (zero ∷ xs) (inl e) = inl (sym e)
data_among nid from a (suc x ∷ xs) (inl e) = inr (from, inl (λ i. record { address = e i; owner = Data nid from }))
data_among nid from a (zero ∷ xs) (inr m) = data_among nid (from + 1) a xs m
data_among nid from a (suc x ∷ xs) (inr m) =
    elim (data_among nid (from + 1) a xs m) [
      | inl e ↦ inl e
      | inr r ↦ inr (r.0, inr r.1)
    ]

-- where the numbers of all nodes of a tree are at most n, those of their children are
module _ (n inode : ℕ) where
  abbrev Low : List Stored → Type 0
  Low xs = (t : Stored) → Among t xs → t.node.nid ≤ n

  abbrev KidsLow : List Stored → Type 0
  KidsLow xs = (s : Stored) → Among s xs → (c : ℕ) → Among c s.node.children → c ≤ n

  top_among : (level : ℕ) (tree : Tree level) → Among (top inode level tree) (stored_in inode level tree)
  top_among zero tree = inl refl
  top_among (suc level) tree = inl refl

  slots_low : (level : ℕ) (slots : List (Option (Tree level))) → Low (flat_map (each (stored_in inode level)) slots)
      → (c : ℕ) → Among c (map nid_of slots) → c ≤ n
  slots_low level [] low c m = absurd m
  slots_low level (None ∷ slots) low c (inl e) = omega arith
  slots_low level (None ∷ slots) low c (inr m) = slots_low level slots low c m
  slots_low level (Some tree ∷ slots) low c (inl e) =
      let l = low (top inode level tree) (among_left _ (stored_in inode level tree) _ (top_among level tree)) in omega arith
  slots_low level (Some tree ∷ slots) low c (inr m) =
      slots_low level slots (λ t r. low t (among_right t (stored_in inode level tree) _ r)) c m

  each_kids : (level : ℕ) → ((tree : Tree level) → Low (stored_in inode level tree) → KidsLow (stored_in inode level tree))
      → (slots : List (Option (Tree level))) → Low (flat_map (each (stored_in inode level)) slots) → KidsLow (flat_map (each (stored_in inode level)) slots)
  each_kids level below [] low s m = absurd m
  each_kids level below (None ∷ slots) low s m = each_kids level below slots low s m
  each_kids level below (Some tree ∷ slots) low s m =
      elim (among_split s (stored_in inode level tree) (flat_map (each (stored_in inode level)) slots) m) [
        | inl l ↦ below tree (λ t r. low t (among_left t (stored_in inode level tree) _ r)) s l
        | inr r ↦ each_kids level below slots (λ t q. low t (among_right t (stored_in inode level tree) _ q)) s r
      ]

  kids_low : (level : ℕ) (tree : Tree level) → Low (stored_in inode level tree) → KidsLow (stored_in inode level tree)
  kids_low zero tree low s (inl e) c m = absurd (subst (λ (x : Stored). Among c x.node.children) (sym e) m)
  kids_low zero tree low s (inr r) c m = absurd r
  kids_low (suc level) tree low s (inl e) c m =
      slots_low level tree.slots (λ t r. low t (inr r)) c (subst (λ (x : Stored). Among c x.node.children) (sym e) m)
  kids_low (suc level) tree low s (inr r) c m = each_kids level (kids_low level) tree.slots (λ t q. low t (inr q)) s r c m

  subs_low : (subs : List Subtree) → Low (stored_below inode subs) → (c : ℕ) → Among c (map (λ (sub : Subtree). nid_of sub.1) subs) → c ≤ n
  subs_low [] low c m = absurd m
  subs_low ((level, None) ∷ subs) low c (inl e) = omega arith
  subs_low ((level, None) ∷ subs) low c (inr m) = subs_low subs low c m
  subs_low ((level, Some tree) ∷ subs) low c (inl e) =
      let l = low (top inode level tree) (among_left _ (stored_in inode level tree) _ (top_among level tree)) in omega arith
  subs_low ((level, Some tree) ∷ subs) low c (inr m) = subs_low subs (λ t r. low t (among_right t (stored_in inode level tree) _ r)) c m

  subs_kids : (subs : List Subtree) → Low (stored_below inode subs) → KidsLow (stored_below inode subs)
  subs_kids [] low s m = absurd m
  subs_kids ((level, None) ∷ subs) low s m = subs_kids subs low s m
  subs_kids ((level, Some tree) ∷ subs) low s m =
      elim (among_split s (stored_in inode level tree) (stored_below inode subs) m) [
        | inl l ↦ kids_low level tree (λ t r. low t (among_left t (stored_in inode level tree) _ r)) s l
        | inr r ↦ subs_kids subs (λ t q. low t (among_right t (stored_in inode level tree) _ q)) s r
      ]

pub file_kids : (n : ℕ) (file : FileTree) → ((t : Stored) → Among t (stored_of file) → t.node.nid ≤ n)
    → (s : Stored) → Among s (stored_of file) → (c : ℕ) → Among c s.node.children → c ≤ n
file_kids n file low s (inl e) c m =
    subs_low n file.inode (subtrees file) (λ t r. low t (inr r)) c (subst (λ (x : Stored). Among c x.node.children) (sym e) m)
file_kids n file low s (inr r) c m = subs_kids n file.inode (subtrees file) (λ t q. low t (inr q)) s r c m
