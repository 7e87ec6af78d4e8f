use Rattle.std.proofs.Common.{◌≡◌, ◌∙◌, ℕ, List, Some, map, get_or, unwrap_or, ap, sym, subst, rules}
use Rattle.geometry.specs.Shape.{block_bytes}
use Rattle.file_cells.specs.Pass.{Pass}
use Rattle.image_reading.specs.Content.{all_bytes}
use Rattle.named_folder.specs.Folder.{Row, BeginsWith}
use Rattle.named_files.specs.Files.{file_at, HasFolder, IsPlace}
use Rattle.named_folder.specs.Rows.{row_of}
use Rattle.named_folder.proofs.Cases.{if_found, if_not_found}
use Rattle.named_files.proofs.Places.{file_at_place}
use Rattle.named_files.proofs.walk.read_folder.Goals as goal

-- the pass of the folder has its file
first_pass : (passes : List Pass) (place : ℕ) (pass : Pass) → IsPlace 1 passes place → pass ≡ get_or passes place pass → file_at 1 passes ≡ Some pass.file
first_pass passes place pass at is = file_at_place 1 passes place pass at ∙ ap (λ p. Some p.file) (sym is)

-- such a pass, whose bytes these are, shows a folder exactly where they spell its rows
is_spelled : (size : ℕ) (passes : List Pass) (place : ℕ) (pass : Pass) (bytes : List ℕ) → IsPlace 1 passes place → pass ≡ get_or passes place pass
    → bytes ≡ all_bytes size pass.file → (rows : List Row) → BeginsWith rows bytes → HasFolder size passes rows
is_spelled size passes place pass bytes at is content rows begins =
    record { folder = pass.file; here = first_pass passes place pass at is; spelled = subst (BeginsWith rows) content begins }

spells : (size : ℕ) (passes : List Pass) (place : ℕ) (pass : Pass) (bytes : List ℕ) → IsPlace 1 passes place → pass ≡ get_or passes place pass
    → bytes ≡ all_bytes size pass.file → (rows : List Row) → HasFolder size passes rows → BeginsWith rows bytes
spells size passes place pass bytes at is content rows has =
    let same : has.folder ≡ pass.file = ap (λ o. unwrap_or o pass.file) (sym has.here ∙ first_pass passes place pass at is) in
    subst (BeginsWith rows) (ap (all_bytes size) same ∙ sym content) has.spelled

pub returns-in_ok-bytes-in-Some-clause-some : goal.returns-in_ok-bytes-in-Some-clause-some
returns-in_ok-bytes-in-Some-clause-some g c =
    let size = block_bytes g.V.Numbers.GeometryName.geometry.shape in
    let passes = c.args.passes.now in
    let bytes = c.as_slice.result.now in
    let shown = is_spelled size passes c.in-Some.place c.index-passes-place.result bytes c.in-Some.ensures.some (search rules) (search rules) in
    if_found c.decode.result (λ entries. BeginsWith (map row_of entries.items) bytes) (λ entries. HasFolder size passes (map row_of entries.items))
    (λ entries begins. shown (map row_of entries.items) begins)
    c.decode.ensures.some

pub returns-in_ok-bytes-in-Some-clause-none : goal.returns-in_ok-bytes-in-Some-clause-none
returns-in_ok-bytes-in-Some-clause-none g c =
    let size = block_bytes g.V.Numbers.GeometryName.geometry.shape in
    let passes = c.args.passes.now in
    let bytes = c.as_slice.result.now in
    let begins = spells size passes c.in-Some.place c.index-passes-place.result bytes c.in-Some.ensures.some (search rules) (search rules) in
    if_not_found c.decode.result ((rows : List Row) → BeginsWith rows bytes → ⊥) ((rows : List Row) → HasFolder size passes rows → ⊥)
    (λ none rows has. none rows (begins rows has))
    c.decode.ensures.none
