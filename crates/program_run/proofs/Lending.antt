-- Lists of places with the same passes, each at the place of its file, are the same. So files that are lent are known by what is
-- lent.
use Rattle.std.proofs.Common.{◌≡◌, ◌∙◌, ◌<◌, ℕ, suc, ◌+◌, List, [], ◌∷◌, ap, sym, subst, refl, arith, length, get_or, drop, Option, Some, None, slice_index_or}
use Rattle.file_cells.specs.Pass.{Pass}
use Rattle.flash_volume.specs.Rounds.{Held}
use Rattle.geometry.specs.declared.geometry.Geometry.{Geometry}
use Rattle.program_run.specs.Files.{Files, Lends, StandInPlace, passes_among}

-- each pass stands at its place, where so many places stand before
abbrev StandFrom : ℕ → List (Option Pass) → Type 0
StandFrom before places = (k : ℕ) (pass : Pass) → slice_index_or places k None ≡ Some pass → pass.number ≡ before + k + 1

tail_stands : (before : ℕ) (place : Option Pass) (places : List (Option Pass)) → StandFrom before (place ∷ places) → StandFrom (before + 1) places
tail_stands before place places stand k pass at = let here = stand (suc k) pass at in omega (arith, here)

first_above : (before : ℕ) (places : List (Option Pass)) (pass : Pass) (rest : List Pass) → StandFrom before places → passes_among places ≡ pass ∷ rest → before < pass.number
first_above before [] pass rest stand is = absurd (let no = is in cc)
first_above before (None ∷ places) pass rest stand is = let above = first_above (before + 1) places pass rest (tail_stands before None places stand) is in omega (arith, above)
first_above before (Some first ∷ places) pass rest stand is =
    let here : first.number ≡ before + 0 + 1 = stand 0 first refl in
    let same : first.number ≡ pass.number = ap (λ (ps : List Pass). (get_or ps 0 first).number) is in
    omega (arith, here, same)

same_from : (before : ℕ) (old new : List (Option Pass)) → StandFrom before old → StandFrom before new → length old ≡ length new → passes_among old ≡ passes_among new → old ≡ new
same_from before [] [] stand other count same = refl
same_from before [] (place ∷ new) stand other count same = absurd (omega (arith, count))
same_from before (place ∷ old) [] stand other count same = absurd (omega (arith, count))
same_from before (None ∷ old) (None ∷ new) stand other count same =
    ap (λ (places : List (Option Pass)). None ∷ places) (same_from (before + 1) old new (tail_stands before None old stand) (tail_stands before None new other) (omega (arith, count)) same)
same_from before (None ∷ old) (Some pass ∷ new) stand other count same =
    let above = first_above (before + 1) old pass (passes_among new) (tail_stands before None old stand) same in
    let here : pass.number ≡ before + 0 + 1 = other 0 pass refl in
    absurd (omega (arith, above, here))
same_from before (Some pass ∷ old) (None ∷ new) stand other count same =
    let above = first_above (before + 1) new pass (passes_among old) (tail_stands before None new other) (sym same) in
    let here : pass.number ≡ before + 0 + 1 = stand 0 pass refl in
    absurd (omega (arith, above, here))
same_from before (Some pass ∷ old) (Some twin ∷ new) stand other count same =
    let first : pass ≡ twin = ap (λ (ps : List Pass). get_or ps 0 pass) same in
    ap (λ (p : Pass). Some p ∷ old) first
    ∙ ap (λ (places : List (Option Pass)). Some twin ∷ places)
    (same_from (before + 1) old new (tail_stands before (Some pass) old stand) (tail_stands before (Some twin) new other) (omega (arith, count)) (ap (λ (ps : List Pass). drop 1 ps) same))

pub same_places : (files : ℕ) (old new : List (Option Pass)) → StandInPlace files old → StandInPlace files new → passes_among old ≡ passes_among new → old ≡ new
same_places files old new stand other same =
    same_from 0 old new (λ k pass at. let here = stand.numbers k pass at in omega (arith, here)) (λ k pass at. let here = other.numbers k pass at in omega (arith, here)) (stand.count ∙ sym other.count) same

module _ (geometry : Geometry) (held : Held) where
  pub same_passes : (time later : ℕ) (files others : Files) → Lends geometry time files held → Lends geometry later others held → files.passes ≡ others.passes
  same_passes time later files others one other =
      same_places geometry.files files.passes others.passes (subst (λ (g : Geometry). StandInPlace g.files files.passes) one.numbers one.placed)
      (subst (λ (g : Geometry). StandInPlace g.files others.passes) other.numbers other.placed) (one.passes_are ∙ sym other.passes_are)

  pub same_files : (time : ℕ) (files others : Files) → Lends geometry time files held → Lends geometry time others held → files ≡ others
  same_files time files others one other =
      ap (λ g. record files { geometry = g }) (one.numbers ∙ sym other.numbers)
      ∙ ap (λ t. record files { geometry = others.geometry; time = t }) (one.time_is ∙ sym other.time_is)
      ∙ ap (λ ps. record files { geometry = others.geometry; time = others.time; passes = ps }) (same_passes time time files others one other)
      ∙ ap (λ rs. record files { geometry = others.geometry; time = others.time; passes = others.passes; readers = rs }) (one.readers_are ∙ sym other.readers_are)
