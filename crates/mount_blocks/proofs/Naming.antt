-- Each name that a walk gives a node stands at the address of the node's entry, and a lawful image names what it marks:
-- so a block that a node owns is that of its entry.
use Rattle.std.proofs.Common.{◌≡◌, ℕ, zero, suc, ◌+◌, ◌<◌, ◌≤◌, ◌==◌, Bool, true, false, List, [], ◌∷◌, ◌++◌, length, get_or, if◌then◌else◌, Some, None, inl, inr, refl, sym, ap, subst, ◌∙◌, eq-eqb, eqb-true, arith}
use Rattle.std.specs.List.{flat_map}
use Rattle.geometry.specs.Weights.{weigh}
use Rattle.geometry.proofs.Weighing.{weigh-append, weigh-at}
use Rattle.geometry.specs.declared.geometry.Geometry.{Geometry}
use Rattle.geometry.specs.declared.owner.Owner.{Owner}
use Rattle.geometry.specs.declared.owner.Owner.TheVariants.{Node, Data}
use Rattle.geometry.specs.declared.owner.Mark.{Mark}
use Rattle.geometry.specs.Owner.{IsOwner}
use Rattle.geometry.specs.Area.{block_count}
use Rattle.geometry.specs.Summary.{owner_in, summary_of}
use Rattle.geometry.proofs.Summaries.{owner_in-summary_of}
use Rattle.image.specs.Image.{Image, entry_of, node_of, is_marked, summary_at}
use Rattle.image.specs.Walk.{data_names, node_name, own_names, fits, names_below, places, walk, inodes, names, is_taken}
use Rattle.image.specs.Rules.{IsLawful}
use Rattle.image.proofs.Marking.{true_or_false}
use Rattle.image.proofs.Testing.{marked_within}
use Rattle.mount_blocks.specs.Marked.{marked_owner}
use Rattle.mount_blocks.proofs.Marked.{name_at}
use Rattle.mount_blocks.proofs.TreeOwners.{names_are_owned}

-- 1 for a node's mark whose address is not that of its entry
off_owner : Image → ℕ → Owner → ℕ
off_owner image a (Node n) = if (entry_of image n).address == a then 0 else 1
off_owner image a (Data n s) = 0

off : Image → Mark → ℕ
off image m = off_owner image m.address m.owner

either : {A : Type 0} (f : List A → ℕ) (b : Bool) (xs : List A) → f xs ≡ 0 → f [] ≡ 0 → f (if b then xs else []) ≡ 0
either f true xs e d = e
either f false xs e d = d

at_entry : (b : Bool) → ◌≡◌ {A = ℕ} (if b then 0 else 1) 0 → b ≡ true
at_entry true e = refl
at_entry false e = absurd (omega arith)

chosen : {A : Type 0} (b : Bool) (x y : A) → b ≡ true → (if b then x else y) ≡ x
chosen true x y e = refl
chosen false x y e = cc

some_apart : {A : Type 0} (x : A) → None ≡ Some x → ⊥
some_apart x e = cc

some_same : {A : Type 0} (x y : A) → Some x ≡ Some y → x ≡ y
some_same x y e = cc

module _ (image : Image) where
  data_right : (nid slot : ℕ) (xs : List ℕ) → weigh (off image) (data_names nid slot xs) ≡ 0
  unfolding off off_owner
  data_right nid slot [] = refl
  data_right nid slot (zero ∷ xs) = data_right nid (slot + 1) xs
  data_right nid slot (suc a ∷ xs) = let rest = data_right nid (slot + 1) xs in omega arith

  own_right : (n : ℕ) → weigh (off image) (own_names image n) ≡ 0
  unfolding off off_owner
  own_right n =
      let here : ◌≡◌ {A = ℕ} (if (entry_of image n).address == (entry_of image n).address then 0 else 1) 0 = rw (eq-eqb (entry_of image n).address (entry_of image n).address refl) refl in
      let rest = data_right n 0 (node_of image n).addresses in
      omega arith

  all_right : {A : Type 0} (f : A → List Mark) → ((x : A) → weigh (off image) (f x) ≡ 0) → (xs : List A) → weigh (off image) (flat_map f xs) ≡ 0
  all_right f each [] = refl
  all_right f each (x ∷ xs) =
      let here = each x in
      let rest = all_right f each xs in
      let joined = weigh-append (off image) (f x) (flat_map f xs) in
      omega arith

  below_right : (inode level n : ℕ) → weigh (off image) (names_below image inode level n) ≡ 0
  below_right inode zero n = either (weigh (off image)) (fits image inode 0 n) (own_names image n) (own_right n) refl
  below_right inode (suc level) n =
      let joined = weigh-append (off image) (own_names image n) (flat_map (names_below image inode level) (node_of image n).children) in
      let own = own_right n in
      let below = all_right (names_below image inode level) (below_right inode level) (node_of image n).children in
      either (weigh (off image)) (fits image inode (suc level) n) (own_names image n ++ flat_map (names_below image inode level) (node_of image n).children) (omega arith) refl

  walk_right : (inode : ℕ) → weigh (off image) (walk image inode) ≡ 0
  walk_right inode =
      let own = own_right inode in
      let below = all_right (λ (place : ℕ × ℕ). names_below image inode place.0 place.1) (λ place. below_right inode place.0 place.1) (places image inode) in
      let joined = weigh-append (off image) (own_names image inode) (flat_map (λ (place : ℕ × ℕ). names_below image inode place.0 place.1) (places image inode)) in
      omega arith

  right : (m : Mark) (n : ℕ) → off image m ≡ 0 → m.owner ≡ Node n → (entry_of image n).address ≡ m.address
  unfolding off off_owner
  right m n e is = eqb-true (entry_of image n).address m.address (at_entry ((entry_of image n).address == m.address) (ap (off_owner image m.address) (sym is) ∙ e))

module _ (geometry : Geometry) (image : Image) (lawful : IsLawful geometry image) where
  -- who owns a block is named there
  pub owner_named : (a : ℕ) (owner : Owner) → marked_owner geometry image a ≡ Some owner
      → (i : ℕ) × (i < length (names geometry image)) × (get_or (names geometry image) i (record { address = a; owner = Node 0 }) ≡ record { address = a; owner = owner })
  owner_named a owner is = elim (true_or_false (is_marked geometry image a)) [
    | inr un ↦ absurd (some_apart owner (sym (ap (λ b. if b then owner_in (summary_at image a) else None) un) ∙ is))
    | inl marked ↦
        let name = name_at geometry image lawful (names_are_owned geometry image lawful) a marked in
        let n = get_or (names geometry image) name.0 (record { address = a; owner = Node 0 }) in
        let at : n.address ≡ a = name.1.at in
        let its : owner_in (summary_at image a) ≡ Some n.owner = name.1.owner in
        let same : n.owner ≡ owner = some_same n.owner owner (sym its ∙ (sym (chosen (is_marked geometry image a) (owner_in (summary_at image a)) None marked) ∙ is)) in
        (name.0, name.1.low, λ k. record { address = at k; owner = same k })
  ]

  -- a block that a node owns has the address of the node's entry
  pub node_owns : (a n : ℕ) → marked_owner geometry image a ≡ Some (Node n) → (entry_of image n).address ≡ a
  node_owns a n is =
      let named = owner_named a (Node n) is in
      let d : Mark = record { address = a; owner = Node 0 } in
      let most = weigh-at (off image) (names geometry image) named.0 d named.1 in
      let none : weigh (off image) (names geometry image) ≡ 0 = all_right image (walk image) (walk_right image) (inodes geometry image) in
      let zero_is : off image (get_or (names geometry image) named.0 d) ≡ 0 = omega arith in
      right image (record { address = a; owner = Node n }) n (ap (off image) (sym named.2) ∙ zero_is) refl

  -- the block of a node's entry is the node's
  pub node_owned : (n : ℕ) → n ≤ geometry.nodes → is_taken image n ≡ true → marked_owner geometry image (entry_of image n).address ≡ Some (Node n)
  node_owned n within taken =
      let m = node_name image n in
      let met = lawful 5 (omega arith) (omega arith) n within taken in
      let marked : is_marked geometry image m.address ≡ true = subst (λ (x : Mark). is_marked geometry image x.address ≡ true) met.2 (lawful 7 (omega arith) (omega arith) met.0 m met.1) in
      let told : summary_at image m.address ≡ summary_of (Node n) = subst (λ (x : Mark). summary_at image x.address ≡ summary_of x.owner) met.2 ((lawful 9 (omega arith) (omega arith)).named met.0 m met.1) in
      let owner : IsOwner (Node n) = subst (λ (x : Mark). IsOwner x.owner) met.2 (names_are_owned geometry image lawful met.0 m met.1) in
      chosen (is_marked geometry image m.address) (owner_in (summary_at image m.address)) None marked ∙ (ap owner_in told ∙ owner_in-summary_of (Node n) owner)

  -- nobody owns what is no address of the main area
  pub outside_unowned : (a : ℕ) → ((1 ≤ a) × (a ≤ block_count geometry) → ⊥) → marked_owner geometry image a ≡ None
  outside_unowned a outside = elim (true_or_false (is_marked geometry image a)) [
    | inl marked ↦ absurd (outside (marked_within geometry image a (lawful 1 (omega arith) (omega arith)) marked))
    | inr un ↦ ap (λ b. if b then owner_in (summary_at image a) else None) un
  ]
