-- Each pass that is popped takes one living file: so when no pass is left no file lives, and each that was there was
-- given back, the others unchanged until then.
use Rattle.std.proofs.Common.{◌≡◌, ◌≢◌, ℕ, zero, suc, ◌+◌, ◌<◌, List, [], ◌∷◌, ◌++◌, Option, Some, None, Bool, true, false, if◌then◌else◌, length, get_or, set, take, reverse, refl, sym, ap, subst, ◌∙◌, inl, inr, arith}
use Rattle.std.specs.Prelude.{is_some, slice_get, ◌⊎◌}
use mathlib.Core.Logic.{dite}
use native.Mathlib.Decide.{ℕ_discrete}
use Rattle.geometry.specs.Weights.{weigh}
use Rattle.geometry.proofs.Weighing.{weigh-set, weigh-at, weigh-take}
use Rattle.geometry.proofs.Indexing.{EachAt, each_reverse, each_last, each_front}
use Rattle.std.proofs.lemmas.Option.{slice_get-get_or}
use Rattle.image_law.specs.Items.{Among}
use Rattle.nodes.specs.declared.file.FileState.{FileState}
use Rattle.file_cells.specs.Cell.{CellView}
use Rattle.close_area.specs.Returned.{living, EachLeft}

-- ---- items at the end of a list

pub among_last : {A : Type 0} (x : A) (xs : List A) → Among x (xs ++ x ∷ [])
among_last x [] = inl refl
among_last x (y ∷ xs) = inr (among_last x xs)

pub among_front : {A : Type 0} (x y : A) (xs : List A) → Among x xs → Among x (xs ++ y ∷ [])
among_front x y [] m = absurd m
among_front x y (z ∷ xs) (inl e) = inl e
among_front x y (z ∷ xs) (inr m) = inr (among_front x y xs m)

pub of_last : {A : Type 0} (x y : A) (xs : List A) → Among x (xs ++ y ∷ []) → Among x xs ⊎ (y ≡ x)
of_last x y [] (inl e) = inr e
of_last x y [] (inr m) = absurd m
of_last x y (z ∷ xs) (inl e) = inl (inl e)
of_last x y (z ∷ xs) (inr m) = elim (of_last x y xs m) [
  | inl before ↦ inl (inr before)
  | inr last ↦ inr last
]

-- ---- one of the files is another

set_apart : {A : Type 0} (xs : List A) (i : ℕ) (x : A) (k : ℕ) → k ≢ i → slice_get (set xs i x) k ≡ slice_get xs k
set_apart [] i x k ne = refl
set_apart (y ∷ xs) zero x zero ne = absurd (ne refl)
set_apart (y ∷ xs) zero x (suc k) ne = refl
set_apart (y ∷ xs) (suc i) x zero ne = refl
set_apart (y ∷ xs) (suc i) x (suc k) ne = set_apart xs i x k (λ e. ne (ap suc e))

pub some_same : {A : Type 0} (x y : A) → Some x ≡ Some y → x ≡ y
some_same {A} x y e = ap pick e
  where
    pick : Option A → A
    pick None = x
    pick (Some z) = z

pub at_of : {A : Type 0} (xs : List A) (k : ℕ) (x : A) → slice_get xs k ≡ Some x → (k < length xs) × (get_or xs k x ≡ x)
at_of [] k x e = absurd (cc)
at_of (y ∷ xs) zero x e = (omega arith, some_same y x e)
at_of (y ∷ xs) (suc k) x e = let rest = at_of xs k x e in ((let low = rest.0 in omega arith), rest.1)

module _ {B L : Type 0} where
  alive : CellView B L → ℕ
  alive c = if is_some c.state then 1 else 0

  module _ (Is : ℕ → CellView B L → FileState B L → Type 0) (start now : List (CellView B L)) where
    pub left_first : EachLeft Is start start
    left_first k c f there some = inl there

    pub left_on : EachLeft Is start now → (i : ℕ) (c new : CellView B L) (f : FileState B L) → slice_get now i ≡ Some c → c.state ≡ Some f → Is i c f → EachLeft Is start (set now i new)
    left_on was i c new f there some here k d g at state = elim (was k d g at state) [
      | inl still ↦ dite (ℕ_discrete k i)
          (λ e.
          let same : d ≡ c = some_same d c (sym still ∙ (ap (slice_get now) e ∙ there)) in
          let shown : g ≡ f = some_same g f (sym state ∙ (ap (λ (x : CellView B L). x.state) same ∙ some)) in
          inr (subst (λ (t : ℕ × (CellView B L × FileState B L)). Is t.0 t.1.0 t.1.1) (λ j. (sym e j, (sym same j, sym shown j))) here))
          (λ ne. inl (set_apart now i new k ne ∙ still))
      | inr is ↦ inr is
    ]

  -- one file less lives
  pub one_less : (now : List (CellView B L)) (i : ℕ) (c new : CellView B L) (f : FileState B L) → i < length now → c ≡ get_or now i c → c.state ≡ Some f → new.state ≡ None
      → living (set now i new) + 1 ≡ living now
  one_less now i c new f low there some none =
      let all = weigh-set (λ (x : CellView B L). if is_some x.state then 1 else 0) now i new c low in
      let one : ◌≡◌ {A = ℕ} (if is_some (get_or now i c).state then 1 else 0) 1 = ap (λ (x : CellView B L). if is_some x.state then 1 else 0) (sym there) ∙ ap (λ o. if is_some o then 1 else 0) some in
      let gone : ◌≡◌ {A = ℕ} (if is_some new.state then 1 else 0) 0 = ap (λ o. if is_some o then 1 else 0) none in
      omega arith

  -- where none lives, no file is there
  pub none_left : (now : List (CellView B L)) → living now ≡ 0 → (k : ℕ) (c : CellView B L) → slice_get now k ≡ Some c → c.state ≡ None
  none_left now none k c there = go c.state refl
    where
      go : (o : Option (FileState B L)) → c.state ≡ o → c.state ≡ None
      go None e = e
      go (Some f) e =
          let at = at_of now k c there in
          let all = weigh-at (λ (x : CellView B L). if is_some x.state then 1 else 0) now k c at.0 in
          let one : ◌≡◌ {A = ℕ} (if is_some (get_or now k c).state then 1 else 0) 1 = ap (λ (x : CellView B L). if is_some x.state then 1 else 0) at.1 ∙ ap (λ o. if is_some o then 1 else 0) e in
          absurd (omega arith)

  -- so this holds of each that was there
  pub all_left : (Is : ℕ → CellView B L → FileState B L → Type 0) (start now : List (CellView B L)) → living now ≡ 0 → EachLeft Is start now
      → (k : ℕ) (c : CellView B L) (f : FileState B L) → slice_get start k ≡ Some c → c.state ≡ Some f → Is k c f
  all_left Is start now none left k c f there some = elim (left k c f there some) [
    | inl still ↦ (let no = sym (none_left now none k c still) ∙ some in absurd (cc))
    | inr is ↦ is
  ]

  -- ---- how many live

  pub one_more : (xs : List (CellView B L)) (k n m : ℕ) (c : CellView B L) (b : Bool) → k < length xs → c ≡ get_or xs k c → b ≡ is_some c.state → n ≡ living (take k xs)
      → m ≡ n + (if b then 1 else 0) → m ≡ living (take (k + 1) xs)
  one_more xs k n m c b low there lives was more =
      let all = weigh-take (λ (x : CellView B L). if is_some x.state then 1 else 0) xs k c low in
      let here : ◌≡◌ {A = ℕ} (if b then 1 else 0) (if is_some (get_or xs k c).state then 1 else 0) = ap (λ t. if t then 1 else 0) lives ∙ ap (λ (x : CellView B L). if is_some x.state then 1 else 0) there in
      omega arith

  -- ---- numbers without files, the last one first

  abbrev pub IsBareAt : ℕ → ℕ → CellView B L → Type 0
  IsBareAt n k c = (c.number + k ≡ n) × (c.state ≡ None)

  pub turned : (files : List (CellView B L)) (n : ℕ) → length files ≡ n → ((k : ℕ) (c : CellView B L) → slice_get files k ≡ Some c → c.number ≡ k + 1) → living files ≡ 0
      → EachAt (IsBareAt n) (reverse files)
  turned files n count numbers none =
      each_reverse (λ j (x : CellView B L). (x.number ≡ j + 1) × (x.state ≡ None)) (IsBareAt n) files n count
      (λ k x low is. ((let number = is.0 in omega arith), is.1))
      (λ k other low. let at = slice_get-get_or files k other low in (numbers k (get_or files k other) at, none_left files none k (get_or files k other) at))

  pub bare_last : (n : ℕ) (all rest : List (CellView B L)) (file : CellView B L) → all ≡ rest ++ file ∷ [] → EachAt (IsBareAt n) all → IsBareAt n (length rest) file
  bare_last n all rest file popped each = each_last (IsBareAt n) rest file (subst (EachAt (IsBareAt n)) popped each)

  pub bare_front : (n : ℕ) (all rest : List (CellView B L)) (file : CellView B L) → all ≡ rest ++ file ∷ [] → EachAt (IsBareAt n) all → EachAt (IsBareAt n) rest
  bare_front n all rest file popped each = each_front (IsBareAt n) rest (file ∷ []) (subst (EachAt (IsBareAt n)) popped each)
