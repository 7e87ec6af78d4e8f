-- Both lists are in the order of inode numbers, and number by number an image has a file exactly where a pass stands:
-- so both have the same items at every number.
use Rattle.std.proofs.Common.{◌≡◌, ◌∙◌, ◌<◌, ◌≤◌, ◌+◌, ℕ, suc, zero, Bool, true, false, List, [], ◌∷◌, ◌++◌, drop, length, map, take, get_or, Option, Some, None, inl, inr, refl, sym, ap, subst, arith, if◌then◌else◌}
use Rattle.std.specs.Prelude.{◌↔◌, filter}
use Rattle.std.proofs.Math.Seq.{get_or-append_seam}
use Rattle.std.proofs.lemmas.Bool.{cases_eq, cases_lt}
use Rattle.std.proofs.lemmas.List.{get_or_append_left, get_or_past, length-append, map-append, take_all, take_more}
use Rattle.std.proofs.lemmas.List.Elements.{filter-append}
use Rattle.image_law.specs.Items.{Among}
use Rattle.image_law.proofs.Weighing.{among-map, of_among-map}
use Rattle.image_law.proofs.Ranges.{among-filter, of_among-filter, among_up_to}
use Rattle.file_cells.specs.Pass.{Pass}
use Rattle.geometry.specs.declared.geometry.Geometry.{Geometry}
use Rattle.geometry.specs.File.{Block, File}
use Rattle.image.specs.Files.{file_of as image_file, files as files_of}
use Rattle.image.specs.Image.{Image}
use Rattle.image.specs.Walk.{is_taken, up_to}
use Rattle.program_run.specs.Files.{ArePlaced, AreInOrder, Files, StandInPlace, passes_among, shown_files}
use Rattle.program_run.proofs.Placing.{among_place, place_of_pass}

-- the items of the numbers below this one, one behind the other
abbrev below : {A : Type 0} → ℕ → (ℕ → List A) → List A
below zero f = []
below (suc n) f = below n f ++ f n

below_same : {A : Type 0} (n : ℕ) (f g : ℕ → List A) → ((k : ℕ) → k < n → f k ≡ g k) → below n f ≡ below n g
below_same zero f g each = refl
below_same (suc n) f g each =
    ap (λ xs. xs ++ f n) (below_same n f g (λ k low. each k (omega arith))) ∙ ap (λ ys. below n g ++ ys) (each n (omega arith))

heads_same : {A : Type 0} (x y : A) (xs ys : List A) → x ∷ xs ≡ y ∷ ys → x ≡ y
heads_same x y xs ys is = ap (λ zs. get_or zs 0 x) is

tails_same : {A : Type 0} (x y : A) (xs ys : List A) → x ∷ xs ≡ y ∷ ys → xs ≡ ys
tails_same x y xs ys is = ap (drop 1) is

-- ---- passes

not_none : {A : Type 0} (x : A) → None ≡ Some x → ⊥
not_none x is = cc

some_same : {A : Type 0} (x y : A) → Some x ≡ Some y → x ≡ y
some_same x y is = cc

abbrev items_of : {A : Type 0} → Option A → List A
items_of None = []
items_of (Some x) = x ∷ []

kept_last : (xs : List (Option Pass)) (x : Option Pass) → passes_among (xs ++ x ∷ []) ≡ passes_among xs ++ items_of x
kept_last [] None = refl
kept_last [] (Some p) = refl
kept_last (None ∷ ys) x = kept_last ys x
kept_last (Some p ∷ ys) x = ap (λ zs. p ∷ zs) (kept_last ys x)

abbrev pair : Pass → ℕ × File
pair pass = (pass.number, pass.file)

same_pass : (p q : Pass) → pair p ≡ pair q → p ≡ q
same_pass p q is = ap (λ (z : ℕ × File). record { number = z.0; file = z.1 }) is

same_passes : (ps qs : List Pass) → map pair ps ≡ map pair qs → ps ≡ qs
same_passes [] [] is = refl
same_passes [] (q ∷ qs) is = absurd (let no = is in cc)
same_passes (p ∷ ps) [] is = absurd (let no = is in cc)
same_passes (p ∷ ps) (q ∷ qs) is =
    ap (λ r. r ∷ ps) (same_pass p q (heads_same (pair p) (pair q) (map pair ps) (map pair qs) is))
    ∙ ap (λ rs. q ∷ rs) (same_passes ps qs (tails_same (pair p) (pair q) (map pair ps) (map pair qs) is))

abbrev pass_items : List (Option Pass) → ℕ → List (ℕ × File)
pass_items places k = map pair (items_of (get_or places k None))

passes_below : (places : List (Option Pass)) (m : ℕ) → m ≤ length places → map pair (passes_among (take m places)) ≡ below m (pass_items places)
passes_below places zero low = refl
passes_below places (suc m) low =
    let one = get_or places m None in
    let next : suc m ≡ m + 1 = omega arith in
    ap (λ j. map pair (passes_among (take j places))) next
    ∙ ap (λ xs. map pair (passes_among xs)) (take_more places m None (omega arith))
    ∙ ap (map pair) (kept_last (take m places) one)
    ∙ map-append pair (passes_among (take m places)) (items_of one)
    ∙ ap (λ xs. xs ++ pass_items places m) (passes_below places m (omega arith))

-- ---- files

module _ (geometry : Geometry) (image : Image) (blocks : ℕ → Block) where
  abbrev named : ℕ → ℕ × File
  named inode = (inode, image_file geometry.shape image blocks inode)

  abbrev file_items : ℕ → List (ℕ × File)
  file_items k = if is_taken image (suc k) then named (suc k) ∷ [] else []

  one_file : (b : Bool) (inode : ℕ) → map named (if b then inode ∷ [] else []) ≡ (if b then named inode ∷ [] else [])
  one_file true inode = refl
  one_file false inode = refl

  files_below : (m : ℕ) → map named (filter (is_taken image) (up_to m)) ≡ below m file_items
  files_below zero = refl
  files_below (suc m) =
      ap (map named) (filter-append (is_taken image) (up_to m) (suc m ∷ []))
      ∙ map-append named (filter (is_taken image) (up_to m)) (filter (is_taken image) (suc m ∷ []))
      ∙ ap (λ xs. map named (filter (is_taken image) (up_to m)) ++ xs) (one_file (is_taken image (suc m)) (suc m))
      ∙ ap (λ xs. xs ++ file_items m) (files_below m)

-- ---- both

module _ (end : Files) (placed : ArePlaced end) (image : Image) (blocks : ℕ → Block)
    (shown : (number : ℕ) (file : File) → Among (number, file) (files_of end.geometry image blocks) ↔ Among (record { number = number; file = file }) (passes_among end.passes)) where
  abbrev file_at : ℕ → ℕ × File
  file_at = named end.geometry image blocks

  found : (k : ℕ) (p : Pass) → get_or end.passes k None ≡ Some p → (is_taken image (suc k) ≡ true) × (file_at (suc k) ≡ pair p)
  found k p is =
      let r = of_among-map file_at (pair p) (filter (is_taken image) (up_to end.geometry.files)) ((shown p.number p.file).1 (among_place end.passes k p is)) in
      let taken = of_among-filter (is_taken image) r.0 (up_to end.geometry.files) r.1 in
      let number : r.0 ≡ suc k = ap (λ (z : ℕ × File). z.0) r.2 ∙ placed.numbers k p is ∙ (omega arith) in
      (subst (λ n. is_taken image n ≡ true) number taken.1, sym (ap file_at number) ∙ r.2)

  not_found : (k : ℕ) → k < end.geometry.files → get_or end.passes k None ≡ None → is_taken image (suc k) ≡ true → ⊥
  not_found k low none taken =
      let inode = among-filter (is_taken image) (suc k) (up_to end.geometry.files) (among_up_to end.geometry.files k low) taken in
      let one = file_at (suc k) in
      let r = place_of_pass end.passes (record { number = one.0; file = one.1 }) ((shown one.0 one.1).0 (among-map file_at (suc k) (filter (is_taken image) (up_to end.geometry.files)) inode)) in
      let place : r.0 ≡ k = let number = placed.numbers r.0 (record { number = one.0; file = one.1 }) r.1 in omega arith in
      not_none (record { number = one.0; file = one.1 }) (sym (ap (λ j. get_or end.passes j None) place ∙ none) ∙ r.1)

  each : (k : ℕ) → k < end.geometry.files → file_items end.geometry image blocks k ≡ pass_items end.passes k
  each k low = by_place (get_or end.passes k None) refl
    where
      by_bit : (b : Bool) → is_taken image (suc k) ≡ b → get_or end.passes k None ≡ None → (if b then file_at (suc k) ∷ [] else []) ≡ []
      by_bit true is none = absurd (not_found k low none is)
      by_bit false is none = refl

      by_place : (o : Option Pass) → get_or end.passes k None ≡ o → file_items end.geometry image blocks k ≡ map pair (items_of o)
      by_place None is = by_bit (is_taken image (suc k)) refl is
      by_place (Some p) is =
          let there = found k p is in
          ap (λ b. if b then file_at (suc k) ∷ [] else []) there.0 ∙ ap (λ z. z ∷ []) there.1

  -- the image's files are those that the passes showed, in order
  pub files_shown : files_of end.geometry image blocks ≡ shown_files end
  files_shown =
      files_below end.geometry image blocks end.geometry.files
      ∙ below_same end.geometry.files (file_items end.geometry image blocks) (pass_items end.passes) each
      ∙ sym (passes_below end.passes end.geometry.files (omega (arith, placed.count)))
      ∙ ap (λ xs. map pair (passes_among xs)) (take_all end.geometry.files end.passes (omega (arith, placed.count)))

-- ---- the passes of an image's files, in order

module _ (geometry : Geometry) (image : Image) (blocks : ℕ → Block) where
  abbrev pass_of : ℕ → Pass
  pass_of inode = record { number = inode; file = image_file geometry.shape image blocks inode }

  abbrev place_of : ℕ → Option Pass
  place_of k = if is_taken image (suc k) then Some (pass_of (suc k)) else None

  -- a place for each of so many inode numbers
  abbrev places_of : ℕ → List (Option Pass)
  places_of zero = []
  places_of (suc k) = places_of k ++ place_of k ∷ []

  place_items : (k : ℕ) → map pair (items_of (place_of k)) ≡ file_items geometry image blocks k
  place_items k = by_bit (is_taken image (suc k)) refl
    where
      by_bit : (b : Bool) → is_taken image (suc k) ≡ b → map pair (items_of (if b then Some (pass_of (suc k)) else None)) ≡ (if b then named geometry image blocks (suc k) ∷ [] else [])
      by_bit true is = refl
      by_bit false is = refl

  places_show : (m : ℕ) → map pair (passes_among (places_of m)) ≡ below m (file_items geometry image blocks)
  places_show zero = refl
  places_show (suc m) =
      ap (map pair) (kept_last (places_of m) (place_of m))
      ∙ map-append pair (passes_among (places_of m)) (items_of (place_of m))
      ∙ ap (λ xs. xs ++ map pair (items_of (place_of m))) (places_show m)
      ∙ ap (λ ys. below m (file_items geometry image blocks) ++ ys) (place_items m)

  count_is : (m : ℕ) → length (places_of m) ≡ m
  count_is zero = refl
  count_is (suc m) = length-append (places_of m) (place_of m ∷ []) ∙ omega (arith, count_is m)

  at_place : (m k : ℕ) → k < m → get_or (places_of m) k None ≡ place_of k
  at_place zero k low = absurd (omega arith)
  at_place (suc m) k low = elim (cases_eq k m) [
    | inl e ↦ ap (λ j. get_or (places_of m ++ place_of m ∷ []) j None) (e ∙ sym (count_is m)) ∙ get_or-append_seam (places_of m) (place_of m) [] None ∙ ap place_of (sym e)
    | inr ne ↦ get_or_append_left (places_of m) (place_of m ∷ []) None k (omega (arith, count_is m, ne)) ∙ at_place m k (omega (arith, ne))
  ]

  number_is : (k : ℕ) (pass : Pass) → place_of k ≡ Some pass → pass.number ≡ k + 1
  number_is k pass is = by_bit (is_taken image (suc k)) is
    where
      by_bit : (b : Bool) → (if b then Some (pass_of (suc k)) else None) ≡ Some pass → pass.number ≡ k + 1
      by_bit true e =
          let next : suc k ≡ k + 1 = omega arith in
          ap (λ (p : Pass). p.number) (sym (some_same (pass_of (suc k)) pass e)) ∙ next
      by_bit false e = absurd (not_none pass e)

  stand : StandInPlace geometry.files (places_of geometry.files)
  stand = record {
    count = count_is geometry.files;
    numbers = λ k pass at. elim (cases_lt k geometry.files) [
      | inl lt ↦ number_is k pass (sym (at_place geometry.files k lt) ∙ at)
      | inr ge ↦ absurd (not_none pass (sym (get_or_past (places_of geometry.files) k None (omega (arith, count_is geometry.files))) ∙ at))
    ];
  }

  -- passes that show the files of an image are in the order of their numbers
  pub in_order : (passes : List Pass) → map pair passes ≡ files_of geometry image blocks → AreInOrder geometry.files passes
  in_order passes show = record {
    places = places_of geometry.files;
    placed = stand;
    are = same_passes passes (passes_among (places_of geometry.files)) (show ∙ files_below geometry image blocks geometry.files ∙ sym (places_show geometry.files));
  }
