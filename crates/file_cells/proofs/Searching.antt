-- A binary search of rising indexes answers the place of an index, or that it is none of them.
use Rattle.std.proofs.Common.{◌≡◌, ℕ, ◌<◌, ◌≤◌, List, length, get_or, Err, inl, inr, sym, ap, ◌∙◌, arith}
use Rattle.std.specs.declared.cmp.Ordering.TheVariants.{Less, Equal, Greater}
use Rattle.std.specs.Cmp.{nat_cmp_is}
use Rattle.std.specs.Ordering.{nat_cmp, ordering_index}
use Rattle.std.specs.List.Sorted.{IsBinarySearchResult}
use Rattle.std.proofs.lemmas.Bool.{cases_eq, cases_lt}
use Rattle.std.proofs.lemmas.Grind.{get_or_default_zero}
use Rattle.file_cells.specs.Law.{AreRising, IsAmong}

less : (x y : ℕ) → x < y → nat_cmp x y ≡ Less
less x y lt = sym (nat_cmp_is x y Less lt)

greater : (x y : ℕ) → y < x → nat_cmp x y ≡ Greater
greater x y lt = sym (nat_cmp_is x y Greater lt)

equal : (x y : ℕ) → x ≡ y → nat_cmp x y ≡ Equal
equal x y e = sym (nat_cmp_is x y Equal e)

-- what is found is equal
pub equal_is : (x y : ℕ) → nat_cmp x y ≡ Equal → x ≡ y
equal_is x y is = elim (cases_lt x y) [
  | inl lt ↦ absurd (let e = sym (less x y lt) ∙ is in cc)
  | inr ge ↦ elim (cases_lt y x) [
    | inl lt ↦ absurd (let e = sym (greater x y lt) ∙ is in cc)
    | inr le ↦ omega arith
  ]
]

-- the answers rise with the numbers
answers_rise : (x y z : ℕ) → x ≤ y → ordering_index (nat_cmp x z) ≤ ordering_index (nat_cmp y z)
answers_rise x y z le = elim (cases_lt x z) [
  | inl lt ↦ let a = ap ordering_index (less x z lt) in omega arith
  | inr ge ↦ elim (cases_lt z y) [
    | inl lt ↦ let b = ap ordering_index (greater y z lt) in elim (cases_lt z x) [
      | inl far ↦ let a = ap ordering_index (greater x z far) in omega arith
      | inr near ↦ let a = ap ordering_index (equal x z (omega arith)) in omega arith
    ]
    | inr low ↦
        let a = ap ordering_index (equal x z (omega arith)) in
        let b = ap ordering_index (equal y z (omega arith)) in omega arith
  ]
]

rises : (indexes : List ℕ) (i j d : ℕ) → AreRising indexes → i ≤ j → j < length indexes → get_or indexes i d ≤ get_or indexes j d
rises indexes i j d rising le within = elim (cases_eq i j) [
  | inl e ↦ let same = ap (λ k. get_or indexes k d) e in omega arith
  | inr ne ↦
      let up = rising i j (omega arith) within in
      let a = get_or_default_zero indexes i d (omega arith) in
      let b = get_or_default_zero indexes j d within in omega arith
]

-- where no place is answered, the index is none of them
pub not_among : (indexes : List ℕ) (index place : ℕ) → AreRising indexes → IsBinarySearchResult (λ y. nat_cmp y index) indexes (Err place) → IsAmong indexes index → ⊥
not_among indexes index place rising found among =
    let parted = found (λ i j d le within. answers_rise (get_or indexes i d) (get_or indexes j d) index (rises indexes i j d rising le within)) in
    let k = among.0 in
    let same = equal (get_or indexes k 0) index among.2 in
    elim (cases_lt k place) [
      | inl before ↦ let e = sym same ∙ parted.0 k 0 (omega arith) before in absurd (let wrong = e in cc)
      | inr behind ↦ let e = sym same ∙ parted.1 k 0 behind among.1 in absurd (let wrong = e in cc)
    ]
