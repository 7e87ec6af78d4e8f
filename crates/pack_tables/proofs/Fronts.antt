-- A row is as wide as every other, so bytes that were read row by row can be read in one way only: one row that is none
-- makes all of them no rows.
use Rattle.std.proofs.Common.{◌≡◌, refl, sym, ◌∙◌, ap, subst, ℕ, ◌+◌, ◌≤◌, List, [], ◌∷◌, ◌++◌, length, take, drop, length-append, append_assoc, append-nil, arith}
use Rattle.std.specs.Prelude.{All}
use Rattle.std.proofs.lemmas.List.{take_at, drop_at, length_push, nil_from_length, flat_map_more}
use Rattle.std.proofs.lemmas.List.Elements.{All-push, All-nil, All-head, All-tail}
use Rattle.std.specs.List.{flat_map}
use Rattle.pack_tables.specs.Rows.{AreRows, AreNoRows}

-- k rows were read, and the rest of the bytes is left
pub record IsFront {X : Type 0} (bytes_of : X → List ℕ) (IsRow : X → Type 0) (k : ℕ) (bytes : List ℕ) (rows : List X) (rest : List ℕ) : Type 0 where
  pub as_many : length rows ≡ k
  pub each : All IsRow rows
  pub joined : bytes ≡ flat_map bytes_of rows ++ rest

module _ {X : Type 0} (f : X → List ℕ) (P : X → Type 0) where
  pub front_none : (bytes : List ℕ) → IsFront f P 0 bytes [] bytes
  front_none bytes = record { as_many = refl; each = All-nil P; joined = refl }

  pub front_more : (k : ℕ) (bytes row rest : List ℕ) (rows : List X) (x : X) → IsFront f P k bytes rows (row ++ rest) → f x ≡ row → P x → IsFront f P (k + 1) bytes (rows ++ x ∷ []) rest
  front_more k bytes row rest rows x front is holds = record {
    as_many = length_push rows x ∙ ap (λ n. n + 1) front.as_many;
    each = All-push P rows x front.each holds;
    joined = front.joined ∙ sym (append_assoc (flat_map f rows) row rest)
        ∙ ap (λ r. (flat_map f rows ++ r) ++ rest) (sym is)
        ∙ ap (λ r. r ++ rest) (flat_map_more f [] rows x);
  }

  -- the next row is the next of the bytes that are left
  pub front_next : (k : ℕ) (bytes rest row after : List ℕ) (rows more : List X) (x : X) → IsFront f P k bytes rows rest → rest ≡ row ++ after → more ≡ rows ++ x ∷ [] → f x ≡ row → P x → IsFront f P (k + 1) bytes more after
  front_next k bytes rest row after rows more x front split pushed is holds =
      let there = subst (λ (r : List ℕ). IsFront f P k bytes rows r) split front in
      subst (λ (m : List X). IsFront f P (k + 1) bytes m after) (sym pushed) (front_more k bytes row after rows x there is holds)

  pub front_all : (k count : ℕ) (bytes rest : List ℕ) (rows : List X) → IsFront f P k bytes rows rest → k ≡ count → length rest ≡ 0 → AreRows f P count bytes rows
  front_all k count bytes rest rows front end none = record {
    as_many = front.as_many ∙ end;
    each = front.each;
    spelled = front.joined ∙ ap (λ r. flat_map f rows ++ r) (nil_from_length rest none) ∙ append-nil (flat_map f rows);
  }

  module _ (w : ℕ) (width : (x : X) → length (f x) ≡ w) (some : 1 ≤ w) (row rest : List ℕ) (whole : length row ≡ w) (never : (x : X) → P x → f x ≡ row → ⊥) where
    clash : (xs ys : List X) → All P ys → flat_map f xs ++ (row ++ rest) ≡ flat_map f ys → ⊥
    clash [] [] all is = let e = ap length is in let l = length-append row rest in omega arith
    clash [] (y ∷ ys) all is =
        never y (All-head P y ys all)
        (sym (take_at (f y) (flat_map f ys) w (width y)) ∙ ap (take w) (sym is) ∙ take_at row rest w whole)
    clash (x ∷ xs) [] all is =
        let e = ap length is in
        let a = length-append (f x ++ flat_map f xs) (row ++ rest) in
        let b = length-append (f x) (flat_map f xs) in
        let c = width x in
        omega arith
    clash (x ∷ xs) (y ∷ ys) all is =
        clash xs ys (All-tail P y ys all)
        (sym (drop_at (f x) (flat_map f xs ++ (row ++ rest)) w (width x))
        ∙ ap (drop w) (sym (append_assoc (f x) (flat_map f xs) (row ++ rest)) ∙ is)
        ∙ drop_at (f y) (flat_map f ys) w (width y))

    pub front_not : (k count : ℕ) (bytes left : List ℕ) (rows : List X) → IsFront f P k bytes rows left → left ≡ row ++ rest → AreNoRows f P count bytes
    front_not k count bytes left rows front split ys are =
        clash rows ys are.each (ap (λ l. flat_map f rows ++ l) (sym split) ∙ sym front.joined ∙ are.spelled)
