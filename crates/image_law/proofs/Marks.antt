-- Names weigh what the marks do by every weight: by that of one mark each name is marked and each mark named, and by
-- that of one address no address is named twice.
use Rattle.std.proofs.Common.{◌≡◌, ◌≢◌, refl, sym, ◌∙◌, ap, subst, ℕ, zero, suc, ◌<◌, ◌≤◌, inl, inr, Bool, true, false, List, [], ◌∷◌, map, get_or, if◌then◌else◌, ◌==◌, eq-eqb, eqb-true, arith}
use Rattle.std.specs.Prelude.{Contains, Option, Some, None}
use Rattle.std.proofs.lemmas.Bool.{ne_eqb}
use Rattle.std.proofs.lemmas.Bool.Decides.{eqb_tells}
use Rattle.std.proofs.lemmas.List.Kept.{AllPairs-cons}
use Rattle.geometry.specs.declared.owner.Owner.{Owner}
use Rattle.geometry.specs.declared.owner.Mark.{Mark}
use Rattle.geometry.specs.Mark.{same_mark}
use Rattle.geometry.proofs.MarkTests.{mark_eq, mark_self}
use Rattle.image.specs.Rules.{HaveOwnAddresses}
use Rattle.geometry.specs.Weights.{weigh}
use Rattle.image_law.specs.Items.{sum_below, Among}
use Rattle.image_law.proofs.Weighing.{weigh_among, among_of_weigh, among_at, among-map, place_of, sum_at, sum_some}
use Rattle.image_law.proofs.Marking.{owned}

abbrev one_mark : Mark → Mark → ℕ
one_mark m n = if same_mark m n then 1 else 0

one_self : (m : Mark) → one_mark m m ≡ 1
one_self m = rw (mark_self m) refl

mark_is : (m n : Mark) → 0 < one_mark m n → m ≡ n
mark_is m n some = go (same_mark m n) refl some
  where
    go : (b : Bool) → same_mark m n ≡ b → 0 < (if b then 1 else 0) → m ≡ n
    go true t s = mark_eq m n t
    go false t s = absurd (omega arith)

abbrev at_address : ℕ → Mark → ℕ
at_address a n = if n.address == a then 1 else 0

at_is : (a : ℕ) (n : Mark) → 0 < at_address a n → n.address ≡ a
at_is a n some = go (n.address == a) refl some
  where
    go : (b : Bool) → (n.address == a) ≡ b → 0 < (if b then 1 else 0) → n.address ≡ a
    go true t s = eqb-true n.address a t
    go false t s = absurd (omega arith)

at_self : (a : ℕ) (n : Mark) → n.address ≡ a → at_address a n ≡ 1
at_self a n e = rw (eq-eqb n.address a e) refl

apart_of_weigh : (ns : List Mark) → ((a : ℕ) → weigh (at_address a) ns ≤ 1) → HaveOwnAddresses ns
apart_of_weigh [] few = λ i j d before within. absurd (omega arith)
apart_of_weigh (n ∷ ns) few =
    AllPairs-cons (λ (m n : Mark). m.address ≢ n.address) n ns
    (λ k d low same.
    let a = few n.address in
    let b = at_self n.address n refl in
    let c = at_self n.address (get_or ns k d) (sym same) in
    let e = weigh_among (at_address n.address) (get_or ns k d) ns (among_at ns k d low) in
    omega arith)
    (apart_of_weigh ns (λ a. let w = few a in omega arith))

sum_none : (n : ℕ) (f : ℕ → ℕ) → ((k : ℕ) → k < n → f k ≡ 0) → sum_below n f ≡ 0
sum_none zero f none = refl
sum_none (suc n) f none = let a = sum_none n f (λ k low. none k (omega arith)) in let b = none n (omega arith) in omega arith

pub sum_one : (n c : ℕ) (f : ℕ → ℕ) → ((k : ℕ) → k ≢ c → f k ≡ 0) → f c ≤ 1 → sum_below n f ≤ 1
sum_one zero c f other here = omega arith
sum_one (suc n) c f other here =
    elim (eqb_tells n c) [
      | inl (t, e) ↦
          let a = sum_none n f (λ k low. other k (λ same. omega arith)) in
          let b : f n ≡ f c = ap f e in
          omega arith
      | inr (t, e) ↦ let a = sum_one n c f other here in let b = other n e in omega arith
    ]

-- of each address up to a last one the owner, if somebody names it; and a list of names that weighs the same
module _ (last : ℕ) (owner : ℕ → Option Owner) (ns : List Mark)
    (even : (h : Mark → ℕ) → weigh h ns ≡ sum_below last (λ k. owned h (suc k) (owner k))) where
  pub record IsMarkedName (n : Mark) : Type 0 where
    pub place : ℕ
    pub within : place < last
    pub address : n.address ≡ suc place
    pub owner_is : owner place ≡ Some n.owner

  pub named_marked : (n : Mark) → Among n ns → IsMarkedName n
  named_marked n m =
      let a = weigh_among (one_mark n) n ns m in
      let b = one_self n in
      let c = even (one_mark n) in
      let s = sum_some last (λ k. owned (one_mark n) (suc k) (owner k)) (omega arith) in
      go s.0 s.1 (owner s.0) refl s.2
    where
      go : (k : ℕ) → k < last → (o : Option Owner) → owner k ≡ o → 0 < owned (one_mark n) (suc k) o → IsMarkedName n
      go k low None t some = absurd (omega arith)
      go k low (Some p) t some =
          let e = mark_is n (record { address = suc k; owner = p }) some in
          record { place = k; within = low; address = ap (λ (x : Mark). x.address) e; owner_is = t ∙ ap (λ (x : Mark). Some x.owner) (sym e) }

  pub marked_named : (k : ℕ) → k < last → (p : Owner) → owner k ≡ Some p → Contains (map (λ (n : Mark). n.address) ns) (suc k)
  marked_named k low p t =
      let here : owned (at_address (suc k)) (suc k) (owner k) ≡ 1
      = ap (owned (at_address (suc k)) (suc k)) t ∙ at_self (suc k) (record { address = suc k; owner = p }) refl in
      let a = sum_at last (λ i. owned (at_address (suc k)) (suc i) (owner i)) k low in
      let b = even (at_address (suc k)) in
      let n = among_of_weigh (at_address (suc k)) ns (omega arith) in
      let m : Among (suc k) (map (λ (n : Mark). n.address) ns)
      = subst (λ (x : ℕ). Among x (map (λ (n : Mark). n.address) ns)) (at_is (suc k) n.0 n.2) (among-map (λ (n : Mark). n.address) n.0 ns n.1) in
      let p = place_of (suc k) (map (λ (n : Mark). n.address) ns) m in
      (p.0, p.1, p.2 (suc k))

  weight_other : (a k : ℕ) → suc k ≢ a → owned (at_address a) (suc k) (owner k) ≡ 0
  weight_other a k apart = go (owner k)
    where
      go : (o : Option Owner) → owned (at_address a) (suc k) o ≡ 0
      go None = refl
      go (Some p) = rw (ne_eqb (suc k) a apart) refl

  weight_few : (a k : ℕ) → owned (at_address a) (suc k) (owner k) ≤ 1
  weight_few a k = go (owner k)
    where
      one_at_most : (b : Bool) → (if b then 1 else 0) ≤ 1
      one_at_most true = omega arith
      one_at_most false = omega arith

      go : (o : Option Owner) → owned (at_address a) (suc k) o ≤ 1
      go None = omega arith
      go (Some p) = one_at_most (suc k == a)

  pub names_apart : HaveOwnAddresses ns
  names_apart = apart_of_weigh ns each_few
    where
      each_few : (a : ℕ) → weigh (at_address a) ns ≤ 1
      each_few zero =
          let e = even (at_address 0) in
          let s = sum_one last 0 (λ k. owned (at_address 0) (suc k) (owner k)) (λ k apart. weight_other 0 k (λ z. cc)) (weight_few 0 0) in
          omega arith
      each_few (suc a) =
          let e = even (at_address (suc a)) in
          let s = sum_one last a (λ k. owned (at_address (suc a)) (suc k) (owner k)) (λ k apart. weight_other (suc a) k (λ z. apart (omega arith))) (weight_few (suc a) a) in
          omega arith
