-- Each pass has a place of its own, that of its number: so a place has its pass or is empty with the pass still to
-- come, and when none is to come all stand as they should.
use Rattle.std.proofs.Common.{◌≡◌, ◌∙◌, ◌⊎◌, ℕ, ◌+◌, ◌-◌, ◌<◌, ◌≤◌, ap, sym, subst, refl, arith, inl, inr, suc, zero, List, [], ◌∷◌, length, get_or, set, replicate, Option, Some, None}
use Rattle.std.specs.List.{filter_map}
use Rattle.std.proofs.lemmas.Bool.{cases_eq, cases_lt}
use Rattle.std.proofs.lemmas.List.{ext_get_or, get_or-set_same, get_or-set_other, get_or_past, get_or-replicate, length-set, length-replicate}
use Rattle.image_law.specs.Items.{Among}
use Rattle.file_cells.specs.Pass.{Pass}
use Rattle.program_run.specs.Files.{StandInPlace, passes_among}
use Rattle.program_run.proofs.FilePlaces.{no_pass, all_none}

not_none : {A : Type 0} (x : A) → None ≡ Some x → ⊥
not_none x is = cc

some_same : {A : Type 0} (x y : A) → Some x ≡ Some y → x ≡ y
some_same x y is = cc

pub among_place : (places : List (Option Pass)) (k : ℕ) (p : Pass) → get_or places k None ≡ Some p → Among p (passes_among places)
among_place [] k p is = absurd (not_none p (sym (get_or_past [] k None (omega arith)) ∙ is))
among_place (None ∷ os) zero p is = absurd (not_none p is)
among_place (Some q ∷ os) zero p is = inl (some_same q p is)
among_place (None ∷ os) (suc k) p is = among_place os k p is
among_place (Some q ∷ os) (suc k) p is = inr (among_place os k p is)

pub place_of_pass : (places : List (Option Pass)) (p : Pass) → Among p (passes_among places) → (k : ℕ) × (get_or places k None ≡ Some p)
place_of_pass [] p m = absurd m
place_of_pass (None ∷ os) p m = let r = place_of_pass os p m in (suc r.0, r.1)
place_of_pass (Some q ∷ os) p (inl e) = (0, ap Some e)
place_of_pass (Some q ∷ os) p (inr m) = let r = place_of_pass os p m in (suc r.0, r.1)

-- a place is as it is to be, or it is empty and its pass is still to come
abbrev pub IsAsGoal : List (Option Pass) → List (Option Pass) → List Pass → ℕ → Type 0
IsAsGoal goal places rest k =
    (get_or places k None ≡ get_or goal k None)
    ⊎ ((get_or places k None ≡ None) × ((p : Pass) × (get_or goal k None ≡ Some p) × Among p rest))

-- so many passes are still to come
pub record PlacedSo (goal places : List (Option Pass)) (rest : List Pass) : Type 0 where
  pub count : length places ≡ length goal
  pub each : (k : ℕ) → IsAsGoal goal places rest k
  pub come : (p : Pass) → Among p rest → Among p (passes_among goal)

pub none_yet : (goal : List (Option Pass)) → PlacedSo goal (replicate (length goal) None) (passes_among goal)
none_yet goal = record {
  count = length-replicate (length goal) no_pass;
  each = λ k. by_place k (get_or goal k None) refl;
  come = λ p m. m;
}
  where
    by_place : (k : ℕ) (o : Option Pass) → get_or goal k None ≡ o → IsAsGoal goal (replicate (length goal) None) (passes_among goal) k
    by_place k None is = inl (all_none (length goal) k ∙ sym is)
    by_place k (Some p) is = inr (all_none (length goal) k, (p, is, among_place goal k p is))

pub one_more : (files : ℕ) (goal places : List (Option Pass)) (pass : Pass) (rest : List Pass) (place : ℕ) → StandInPlace files goal → place + 1 ≡ pass.number
    → PlacedSo goal places (pass ∷ rest) → PlacedSo goal (set places place (Some pass)) rest
one_more files goal places pass rest place stand is so_far = record {
  count = length-set places place (Some pass) ∙ so_far.count;
  each = λ k. elim (cases_eq k place) [
    | inl e ↦ subst (IsAsGoal goal (set places place (Some pass)) rest) (sym e) here
    | inr ne ↦ other k ne (so_far.each k)
  ];
  come = λ p m. so_far.come p (inr m);
}
  where
    found : (k : ℕ) × (get_or goal k None ≡ Some pass)
    found = place_of_pass goal pass (so_far.come pass (inl refl))

    at : found.0 ≡ place
    at = let number = stand.numbers found.0 pass found.1 in omega (arith, number, is)

    within : place < length places
    within = elim (cases_lt place (length goal)) [
      | inl lt ↦ omega (arith, lt, so_far.count)
      | inr ge ↦ absurd (not_none pass (sym (get_or_past goal place None ge) ∙ ap (λ j. get_or goal j None) (sym at) ∙ found.1))
    ]

    here : IsAsGoal goal (set places place (Some pass)) rest place
    here = inl (get_or-set_same places place (Some pass) None within ∙ sym (ap (λ j. get_or goal j None) (sym at) ∙ found.1))

    kept : (k : ℕ) → (k ≡ place → ⊥) → get_or (set places place (Some pass)) k None ≡ get_or places k None
    kept k ne = get_or-set_other places place k (Some pass) None ne

    other : (k : ℕ) → (k ≡ place → ⊥) → IsAsGoal goal places (pass ∷ rest) k → IsAsGoal goal (set places place (Some pass)) rest k
    other k ne (inl same) = inl (kept k ne ∙ same)
    other k ne (inr (none, (p, there, inl e))) =
        let number = stand.numbers k p there in
        let same : p.number ≡ pass.number = ap (λ (q : Pass). q.number) (sym e) in
        absurd (ne (omega (arith, number, is, same)))
    other k ne (inr (none, (p, there, inr m))) = inr (kept k ne ∙ none, (p, there, m))

pub all_placed : (goal places : List (Option Pass)) → PlacedSo goal places [] → places ≡ goal
all_placed goal places so_far = ext_get_or None places goal so_far.count (λ k low. by_each k (so_far.each k))
  where
    by_each : (k : ℕ) → IsAsGoal goal places [] k → get_or places k None ≡ get_or goal k None
    by_each k (inl same) = same
    by_each k (inr (none, (p, there, m))) = absurd m

-- where no pass is there, each place is empty
pub nothing_there : {A : Type 0} (places : List (Option A)) → length (filter_map (λ place. place) places) ≡ 0 → places ≡ replicate (length places) None
nothing_there [] none = refl
nothing_there (None ∷ os) none = ap (λ xs. None ∷ xs) (nothing_there os none)
nothing_there (Some x ∷ os) none = absurd (cc)

-- the pass that comes next goes to the place of its number
pub put_next : (files : ℕ) (goal places : List (Option Pass)) (pass : Pass) (rest later : List Pass) (place : ℕ) → StandInPlace files goal → place + 1 ≡ pass.number
    → rest ≡ pass ∷ later → PlacedSo goal places rest → PlacedSo goal (set places place (Some pass)) later
put_next files goal places pass rest later place stand is next so_far = one_more files goal places pass later place stand is (subst (PlacedSo goal places) next so_far)
