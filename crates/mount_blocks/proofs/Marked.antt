-- By the rules each name is marked, each marked block is named and no address is named twice: so address by address the
-- names weigh what the marks do.
use Rattle.std.proofs.Common.{◌≡◌, ◌≢◌, ℕ, zero, suc, ◌+◌, ◌-◌, ◌<◌, ◌≤◌, ◌==◌, true, List, [], ◌∷◌, length, get_or, if◌then◌else◌, Some, inl, inr, refl, sym, ap, ◌∙◌, ne_eqb, eq-eqb, arith}
use Rattle.std.specs.Prelude.{All, MatchOption}
use Rattle.std.proofs.lemmas.Bool.{cases_eq, cases_lt}
use Rattle.std.proofs.lemmas.List.{length-map, get_or-map}
use Rattle.geometry.specs.Weights.{weigh}
use Rattle.rights_books.specs.Lists.{sum_below}
use Rattle.geometry.specs.declared.geometry.Geometry.{Geometry}
use Rattle.geometry.specs.declared.owner.Mark.{Mark}
use Rattle.geometry.specs.declared.owner.Owner.TheVariants.{Node}
use Rattle.geometry.specs.Owner.{IsOwner}
use Rattle.geometry.specs.Area.{block_count}
use Rattle.geometry.specs.Summary.{owner_in}
use Rattle.geometry.proofs.Summaries.{owner_in-summary_of}
use Rattle.image.specs.Image.{Image, is_marked, summary_at}
use Rattle.image.specs.Walk.{names}
use Rattle.image.specs.Rules.{IsLawful}
use Rattle.image.proofs.Marking.{true_or_false}
use Rattle.image.proofs.Testing.{marked_within}
use Rattle.mount_blocks.specs.Marked.{marked_owner, owned_weight}

module _ {A : Type 0} (f : A → ℕ) where
  none_weighs : (xs : List A) → ((j : ℕ) (d : A) → j < length xs → f (get_or xs j d) ≡ 0) → weigh f xs ≡ 0
  none_weighs [] none = refl
  none_weighs (x ∷ xs) none =
      let here : f x ≡ 0 = none 0 x (omega arith) in
      let rest = none_weighs xs (λ j d within. none (suc j) d (omega arith)) in
      omega arith

  one_weighs : (xs : List A) (i : ℕ) (d : A) → i < length xs → ((j : ℕ) → j < length xs → j ≢ i → f (get_or xs j d) ≡ 0) → weigh f xs ≡ f (get_or xs i d)
  one_weighs [] i d within others = absurd (omega arith)
  one_weighs (x ∷ xs) zero d within others =
      let rest = none_left xs d (λ j low. others (suc j) (omega arith) (λ e. absurd (omega arith))) in
      omega arith
    where
      none_left : (ys : List A) (d : A) → ((j : ℕ) → j < length ys → f (get_or ys j d) ≡ 0) → weigh f ys ≡ 0
      none_left [] d none = refl
      none_left (y ∷ ys) d none =
          let here : f y ≡ 0 = none 0 (omega arith) in
          let rest = none_left ys d (λ j low. none (suc j) (omega arith)) in
          omega arith
  one_weighs (x ∷ xs) (suc i) d within others =
      let here : f x ≡ 0 = others 0 (omega arith) (λ e. absurd (omega arith)) in
      let rest = one_weighs xs i d (omega arith) (λ j low apart. others (suc j) (omega arith) (λ e. apart (omega arith))) in
      omega arith

sum_none : (n : ℕ) (f : ℕ → ℕ) → ((k : ℕ) → k < n → f k ≡ 0) → sum_below n f ≡ 0
sum_none zero f none = refl
sum_none (suc n) f none =
    let here = none n (omega arith) in
    let rest = sum_none n f (λ k low. none k (omega arith)) in
    omega arith

sum_one : (n : ℕ) (f : ℕ → ℕ) (i : ℕ) → i < n → ((k : ℕ) → k ≢ i → f k ≡ 0) → sum_below n f ≡ f i
sum_one zero f i within others = absurd (omega arith)
sum_one (suc n) f i within others = elim (cases_eq i n) [
  | inl e ↦
      let rest = sum_none n f (λ k low. others k (λ same. absurd (omega arith))) in
      let here = ap f e in
      omega arith
  | inr apart ↦
      let here = others n (λ same. apart (sym same)) in
      let rest = sum_one n f i (omega arith) others in
      omega arith
]

sum_plus : (n : ℕ) (f g : ℕ → ℕ) → sum_below n (λ k. f k + g k) ≡ sum_below n f + sum_below n g
sum_plus zero f g = refl
sum_plus (suc n) f g = let rest = sum_plus n f g in omega arith

sum_same : (n : ℕ) (f g : ℕ → ℕ) → ((k : ℕ) → k < n → f k ≡ g k) → sum_below n f ≡ sum_below n g
sum_same zero f g same = refl
sum_same (suc n) f g same =
    let here = same n (omega arith) in
    let rest = sum_same n f g (λ k low. same k (omega arith)) in
    omega arith

-- what a mark weighs, where it is of this address
abbrev here : (Mark → ℕ) → ℕ → Mark → ℕ
here h a m = if m.address == a then h m else 0

here_is : (h : Mark → ℕ) (a : ℕ) (m : Mark) → m.address ≡ a → here h a m ≡ h m
here_is h a m is = rw (eq-eqb m.address a is) refl

here_not : (h : Mark → ℕ) (a : ℕ) (m : Mark) → m.address ≢ a → here h a m ≡ 0
here_not h a m apart = rw (ne_eqb m.address a apart) refl

-- marks by their addresses
by_address : (h : Mark → ℕ) (n : ℕ) (ms : List Mark) → ((j : ℕ) (d : Mark) → j < length ms → (1 ≤ (get_or ms j d).address) × ((get_or ms j d).address ≤ n))
    → weigh h ms ≡ sum_below n (λ k. weigh (here h (k + 1)) ms)
by_address h n [] within = sym (sum_none n (λ k. 0) (λ k low. refl))
by_address h n (m ∷ ms) within =
    let range = within 0 m (omega arith) in
    let rest = by_address h n ms (λ j d low. within (suc j) d (omega arith)) in
    let split = sum_plus n (λ k. here h (k + 1) m) (λ k. weigh (here h (k + 1)) ms) in
    let one = sum_one n (λ k. here h (k + 1) m) (m.address - 1) (omega arith) (λ k apart. here_not h (k + 1) m (λ e. apart (omega arith))) in
    let it = here_is h (m.address - 1 + 1) m (omega arith) in
    omega arith

-- the i-th name is that of the block at an address, and has the block's owner
pub record IsNameAt (geometry : Geometry) (image : Image) (a i : ℕ) : Type 0 where
  pub low : i < length (names geometry image)
  pub at : (get_or (names geometry image) i (record { address = a; owner = Node 0 })).address ≡ a
  pub owner : owner_in (summary_at image a) ≡ Some (get_or (names geometry image) i (record { address = a; owner = Node 0 })).owner

-- a marked block has a name
pub name_at : (geometry : Geometry) (image : Image) → IsLawful geometry image → All (λ (n : Mark). IsOwner n.owner) (names geometry image)
    → (a : ℕ) → is_marked geometry image a ≡ true → (i : ℕ) × IsNameAt geometry image a i
name_at geometry image lawful owners a marked =
    let ns = names geometry image in
    let named = lawful 8 (omega arith) (omega arith) a marked in
    let i = named.0 in
    let d : Mark = record { address = a; owner = Node 0 } in
    let low : i < length ns = let count = length-map ns (λ (n : Mark). n.address) in let some = named.1 in omega arith in
    let at : (get_or ns i d).address ≡ a = sym (get_or-map (λ (m : Mark). m.address) ns i d a low) ∙ named.2 in
    let told = (lawful 9 (omega arith) (omega arith)).named i d low in
    (i, record { low = low; at = at; owner = ap (λ x. owner_in (summary_at image x)) (sym at) ∙ ap owner_in told ∙ owner_in-summary_of (get_or ns i d).owner (owners i d low) })

module _ (geometry : Geometry) (image : Image) (lawful : IsLawful geometry image) (owners : All (λ (n : Mark). IsOwner n.owner) (names geometry image)) (h : Mark → ℕ) where
  abbrev ns : List Mark
  ns = names geometry image

  at_address : (a : ℕ) → weigh (here h a) ns ≡ owned_weight h a (marked_owner geometry image a)
  at_address a = elim (true_or_false (is_marked geometry image a)) [
    | inr unmarked ↦
        let nothing = none_weighs (here h a) ns (λ j d low. here_not h a (get_or ns j d)
        (λ (e : (get_or ns j d).address ≡ a). (let marked : is_marked geometry image (get_or ns j d).address ≡ true = lawful 7 (omega arith) (omega arith) j d low in
        let same = ap (is_marked geometry image) e in cc))) in
        rw unmarked nothing
    | inl marked ↦
        let name = name_at geometry image lawful owners a marked in
        let i = name.0 in
        let d : Mark = record { address = a; owner = Node 0 } in
        let n = get_or ns i d in
        let is : n.address ≡ a = name.1.at in
        let owner : owner_in (summary_at image a) ≡ Some n.owner = name.1.owner in
        let only = one_weighs (here h a) ns i d name.1.low (λ j within apart. here_not h a (get_or ns j d) (λ (e : (get_or ns j d).address ≡ a). alone j i d within name.1.low apart (e ∙ sym is))) in
        let it = here_is h a n is in
        let same : ◌≡◌ {A = Mark} (record { address = a; owner = n.owner }) n = λ k. record { address = sym is k; owner = n.owner } in
        let weight = ap h same in
        rw (marked, owner) (only ∙ it ∙ sym weight)
  ]
    where
      alone : (j i : ℕ) (d : Mark) → j < length ns → i < length ns → j ≢ i → (get_or ns j d).address ≡ (get_or ns i d).address → ⊥
      alone j i d low high apart e = elim (cases_lt j i) [
        | inl lt ↦ lawful 6 (omega arith) (omega arith) j i d lt high e
        | inr ge ↦ lawful 6 (omega arith) (omega arith) i j d (omega arith) low (sym e)
      ]

  pub names_are_marks : weigh h ns ≡ sum_below (block_count geometry) (λ k. owned_weight h (k + 1) (marked_owner geometry image (k + 1)))
  names_are_marks =
      by_address h (block_count geometry) ns (λ j d low. marked_within geometry image (get_or ns j d).address (lawful 1 (omega arith) (omega arith)) (lawful 7 (omega arith) (omega arith) j d low))
      ∙ sum_same (block_count geometry) (λ k. weigh (here h (k + 1)) ns) (λ k. owned_weight h (k + 1) (marked_owner geometry image (k + 1))) (λ k low. at_address (k + 1))

-- who owns a block that is marked is an owner
pub owned : (geometry : Geometry) (image : Image) → IsLawful geometry image → All (λ (n : Mark). IsOwner n.owner) (names geometry image)
    → (a : ℕ) → MatchOption (marked_owner geometry image a) (Unit {0}) IsOwner
owned geometry image lawful owners a = elim (true_or_false (is_marked geometry image a)) [
  | inr unmarked ↦ rw unmarked tt
  | inl marked ↦
      let name = name_at geometry image lawful owners a marked in
      let d : Mark = record { address = a; owner = Node 0 } in
      let owner : owner_in (summary_at image a) ≡ Some (get_or (names geometry image) name.0 d).owner = name.1.owner in
      rw (marked, owner) (owners name.0 d name.1.low)
]
