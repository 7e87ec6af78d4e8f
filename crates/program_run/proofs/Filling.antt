-- Writing one index after another of a file is one change of it, that grows with the range; the other files stay, and
-- the next write adds the next index.
use Rattle.std.proofs.Common.{◌≡◌, ◌∙◌, ℕ, ◌+◌, ◌-◌, ◌≤◌, ap, sym, refl, arith, suc, get_or, Option, Some, None, IsSome, is_some}
use Rattle.std.proofs.lemmas.Bool.{false≢true}
use Rattle.std.proofs.lemmas.List.{get_or-set_same, set-set}
use Rattle.geometry.specs.File.{File, written}
use Rattle.file_cells.specs.Pass.{Pass}
use Rattle.program_run.specs.Files.{ArePlaced, Files, HasFile, file_at, file_of, with_file}
use Rattle.program_run.specs.Work.{IsFilledTo, equal_block, filled}
use Rattle.program_run.proofs.FilePlaces.{pass_is, put_at, put_back, within}

pub has_still : (files : Files) (number : ℕ) (file : File) → HasFile files number → HasFile (with_file files number file) number
has_still files number file has =
    let lt = within files.passes (number - 1) has.1 in
    (has.0, ap is_some (get_or-set_same files.passes (number - 1) (Some (record { number = number; file = file })) None lt))

file_there : (files : Files) (number : ℕ) (file : File) → HasFile files number → file_at (with_file files number file) number ≡ file
file_there files number file has =
    let lt = within files.passes (number - 1) has.1 in
    ap file_of (get_or-set_same files.passes (number - 1) (Some (record { number = number; file = file })) None lt)

written_again : (files : Files) (number : ℕ) (file other : File) → with_file (with_file files number file) number other ≡ with_file files number other
written_again files number file other =
    ap (λ passes. record files { passes = passes })
    (set-set files.passes (number - 1) (Some (record { number = number; file = file })) (Some (record { number = number; file = other })))

-- the file that stands there may be put there again
same : (files : Files) (number : ℕ) → ArePlaced files → HasFile files number → with_file files number (file_at files number) ≡ files
same files number placed has = same_by (get_or files.passes (number - 1) None) refl has.1
  where
    is_place : number - 1 + 1 ≡ number
    is_place = let some = has.0 in omega arith

    same_by : (o : Option Pass) → get_or files.passes (number - 1) None ≡ o → IsSome o → with_file files number (file_at files number) ≡ files
    same_by None at some = absurd (false≢true some)
    same_by (Some pass) at some =
        ap (λ p. put_at files (number - 1) (Some p)) (sym (pass_is files (number - 1) number pass placed is_place at))
        ∙ put_back files (number - 1) pass at

-- where nothing was filled yet, the file is as it was
pub none_filled : (files : Files) (number first byte : ℕ) → ArePlaced files → HasFile files number → IsFilledTo files number first 0 byte files
none_filled files number first byte placed has = (has, sym (same files number placed has))

-- one index more of a range
pub one_more : (begun now new : Files) (number first index byte : ℕ) → first ≤ index
    → IsFilledTo begun number first (index - first) byte now
    → new ≡ with_file now number (written (file_at now number) index (equal_block now byte))
    → IsFilledTo begun number first (index + 1 - first) byte new
one_more begun now new number first index byte low so_far one =
    let has = so_far.0 in
    let block = equal_block begun byte in
    let file = filled (file_at begun number) first (index - first) block in
    let next : index + 1 - first ≡ suc (index - first) = omega arith in
    let place : first + (index - first) ≡ index = omega arith in
    let there = file_there begun number file has in
    let whole : new ≡ with_file begun number (written file index block) =
    one ∙ ap (λ files. with_file files number (written (file_at files number) index (equal_block files byte))) so_far.1
    ∙ ap (λ f. with_file (with_file begun number file) number (written f index block)) there
    ∙ written_again begun number file (written file index block)
    in
    (has, whole ∙ sym (ap (with_file begun number) (ap (λ count. filled (file_at begun number) first count block) next ∙ ap (λ at. written file at block) place)))
