-- The lines of one worker more stand behind those of the others.
use Rattle.std.proofs.Common.{◌≡◌, ◌∙◌, ◌+◌, ◌<◌, ℕ, List, [], ◌∷◌, ◌++◌, ap, append-nil, append_assoc, arith, get_or, length, map, sym, take}
use Rattle.std.proofs.lemmas.List.{length-map, length-take-le, map-append, take_more}
use Rattle.flash_volume.specs.Rounds.{Lot}
use Rattle.program_run.specs.PartJobs.{told_text}
use Rattle.program_run.specs.WorkerLines.{end_line}

told_more : (number : ℕ) (all : List (Lot (List ℕ))) (made : Lot (List ℕ)) → told_text number (all ++ made ∷ []) ≡ told_text number all ++ (made.what ++ end_line (number + length all))
told_more number [] made =
    let same : number ≡ number + 0 = omega arith in
    append-nil (made.what ++ end_line number) ∙ ap (λ n. made.what ++ end_line n) same
told_more number (first ∷ all) made =
    let same : number + 1 + length all ≡ number + length (first ∷ all) = omega arith in
    ap (λ xs. (first.what ++ end_line number) ++ xs) (told_more (number + 1) all made ∙ ap (λ n. told_text (number + 1) all ++ (made.what ++ end_line n)) same)
    ∙ sym (append_assoc (first.what ++ end_line number) (told_text (number + 1) all) (made.what ++ end_line (number + length (first ∷ all))))

pub told_next : {A : Type 0} (all : List A) (lot : A → Lot (List ℕ)) (place : ℕ) (made : A) → place < length all → made ≡ get_or all place made
    → told_text 0 (map lot (take (place + 1) all)) ≡ told_text 0 (map lot (take place all)) ++ ((lot made).what ++ end_line place)
told_next all lot place made low is =
    let count : 0 + length (map lot (take place all)) ≡ place = let mapped = length-map (take place all) lot in let taken = length-take-le place all (omega arith) in omega (arith, mapped, taken) in
    ap (λ xs. told_text 0 (map lot xs)) (take_more all place made low ∙ ap (λ m. take place all ++ m ∷ []) (sym is))
    ∙ ap (told_text 0) (map-append lot (take place all) (made ∷ []))
    ∙ told_more 0 (map lot (take place all)) (lot made)
    ∙ ap (λ n. told_text 0 (map lot (take place all)) ++ ((lot made).what ++ end_line n)) count
