-- A file's pass stands at the place before its number: so to put one at a place changes the file of that number alone,
-- and to put back what stood there changes nothing.
use Rattle.std.proofs.Common.{◌≡◌, ◌∙◌, ℕ, zero, suc, refl, [], ◌+◌, ◌-◌, ◌<◌, ◌≤◌, ap, sym, subst, arith, inl, inr, List, length, get_or, set, replicate, Option, Some, None, IsSome, is_some}
use Rattle.std.proofs.lemmas.Bool.{false≢true, cases_eq, cases_lt}
use Rattle.std.proofs.lemmas.List.{get_or-set_same, get_or-set_other, get_or_past, get_or-replicate, length-set, length-replicate, set-get_or, set-set}
use Rattle.geometry.specs.declared.geometry.Geometry.{Geometry}
use Rattle.file_cells.specs.Pass.{Pass}
use Rattle.program_run.specs.Files.{AreInOrder, ArePlaced, Files, HasFile, file_at, file_of, pass_at, passes_among, with_file}

-- a pass, or none, is put at a place
abbrev pub put_at : Files → ℕ → Option Pass → Files
put_at files place pass = record files { passes = set files.passes place pass }

none_is_not : {A : Type 0} (o : Option A) → o ≡ None → ¬ (IsSome o)
none_is_not o is some = false≢true (sym (ap is_some is) ∙ some)

-- a place with a pass is one of the list
pub within : (passes : List (Option Pass)) (place : ℕ) → IsSome (get_or passes place None) → place < length passes
within passes place some = elim (cases_lt place (length passes)) [
  | inl lt ↦ lt
  | inr ge ↦ absurd (none_is_not (get_or passes place None) (get_or_past passes place None ge) some)
]

-- the number's place is that before it
place_is : (place number : ℕ) → place + 1 ≡ number → number - 1 ≡ place
place_is place number is = omega (arith, is)

-- a number's pass stands at the place before it
pub at_place : (files : Files) (place number : ℕ) → place + 1 ≡ number → pass_at files number ≡ get_or files.passes place None
at_place files place number is = ap (λ k. get_or files.passes k None) (place_is place number is)

pub has_at : (files : Files) (place number : ℕ) → place + 1 ≡ number → IsSome (get_or files.passes place None) → HasFile files number
has_at files place number is some = (omega (arith, is), subst IsSome (sym (at_place files place number is)) some)

pub has_none : (files : Files) (number : ℕ) → pass_at files number ≡ None → ¬ (HasFile files number)
has_none files number is has = none_is_not (pass_at files number) is has.1

-- the pass that stands there is of the number and its file
pub pass_is : (files : Files) (place number : ℕ) (pass : Pass) → ArePlaced files → place + 1 ≡ number → get_or files.passes place None ≡ Some pass
    → pass ≡ record { number = number; file = file_at files number }
pass_is files place number pass placed is at =
    let found : file_of (pass_at files number) ≡ pass.file = ap file_of (at_place files place number is ∙ at) in
    ap (λ n. record { number = n; file = pass.file }) (placed.numbers place pass at ∙ is)
    ∙ ap (λ f. record { number = number; file = f }) (sym found)

-- a changed file at its place is that change alone
pub changed : (files : Files) (place number : ℕ) (new : Pass) → place + 1 ≡ number → new.number ≡ number
    → put_at files place (Some new) ≡ with_file files number new.file
changed files place number new is same =
    ap (λ k. put_at files k (Some new)) (sym (place_is place number is))
    ∙ ap (λ n. put_at files (number - 1) (Some (record { number = n; file = new.file }))) same

-- what stands at a place is put there again
pub put_back : (files : Files) (place : ℕ) (pass : Pass) → get_or files.passes place None ≡ Some pass → put_at files place (Some pass) ≡ files
put_back files place pass at =
    ap (λ passes. record files { passes = passes }) (ap (set files.passes place) (sym at) ∙ set-get_or files.passes place None)

-- what was taken away and is put again
pub put_again : (files : Files) (place : ℕ) (first : Option Pass) (pass : Pass) → get_or files.passes place None ≡ Some pass
    → put_at (put_at files place first) place (Some pass) ≡ files
put_again files place first pass at =
    ap (λ passes. record files { passes = passes })
    (set-set files.passes place first (Some pass) ∙ ap (set files.passes place) (sym at) ∙ set-get_or files.passes place None)

-- each pass is still at its place
pub placed_still : (files : Files) (place : ℕ) (one : Option Pass) → ArePlaced files → ((pass : Pass) → one ≡ Some pass → pass.number ≡ place + 1)
    → ArePlaced (put_at files place one)
placed_still files place one placed is = record {
  count = length-set files.passes place one ∙ placed.count;
  numbers = λ k pass at. elim (cases_eq k place) [
    | inl e ↦ elim (cases_lt place (length files.passes)) [
      | inl lt ↦ is pass (sym (get_or-set_same files.passes place one None lt) ∙ subst (λ j. get_or (set files.passes place one) j None ≡ Some pass) e at) ∙ ap (λ j. j + 1) (sym e)
      | inr ge ↦
          let long : length (set files.passes place one) ≤ k = omega (arith, length-set files.passes place one, ge, e) in
          absurd (none_is_not (get_or (set files.passes place one) k None) (get_or_past (set files.passes place one) k None long) (ap is_some at))
    ]
    | inr ne ↦ placed.numbers k pass (sym (get_or-set_other files.passes place k one None ne) ∙ at)
  ];
}

abbrev pub no_pass : Option Pass
no_pass = None

pub all_none : (n k : ℕ) → get_or (replicate n no_pass) k None ≡ None
all_none n k = elim (cases_lt k n) [
  | inl lt ↦ get_or-replicate n k no_pass None lt
  | inr ge ↦ get_or_past (replicate n no_pass) k None (omega (arith, length-replicate n no_pass))
]

-- no pass at all
pub no_passes_in_order : (files : ℕ) → AreInOrder files []
no_passes_in_order files = record {
  places = replicate files no_pass;
  placed = record {
    count = length-replicate files no_pass;
    numbers = λ k pass at. absurd (none_is_not (get_or (replicate files no_pass) k None) (all_none files k) (ap is_some at));
  };
  are = none_among files;
}
  where
    none_among : (n : ℕ) → [] ≡ passes_among (replicate n no_pass)
    none_among zero = refl
    none_among (suc n) = none_among n
