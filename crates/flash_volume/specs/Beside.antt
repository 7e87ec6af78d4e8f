-- Works that were done side by side, each with the passes of files of its own.
use Rattle.std.specs.Prelude.{◌≡◌, ◌⊎◌, ℕ, ◌==◌, not, Bool, List, [], ◌∷◌, ◌++◌, map, filter, Result, Ok, Err}
use Rattle.std.specs.List.{AllZip, flat_map, list_any}
use Rattle.file_cells.specs.Pass.{Pass}
use Rattle.flash_volume.specs.Rounds.{Held, Lot}
use Rattle.flash_volume.specs.declared.beside.Beside.{Beside}
use Rattle.flash_volume.specs.declared.leave.Leave.{Leave}
use Rattle.flash_volume.specs.declared.works.Works.{Works}
use Rattle.flash_volume.specs.declared.works.Works.TheVariants.{Fresh, Dealt}
use Rattle.geometry.specs.declared.error.Error.{Error}
use Rattle.geometry.specs.declared.error.Error.TheVariants.{NoMemory}
use Rattle.geometry.specs.declared.geometry.Geometry.{Geometry}

-- whether the number is one of these
abbrev pub is_named : List ℕ → ℕ → Bool
is_named files number = list_any (λ file. file == number) files

-- the passes of these files, and those of all others
abbrev pub passes_named : List ℕ → List Pass → List Pass
passes_named files passes = filter (λ pass. is_named files pass.number) passes

abbrev pub passes_unnamed : List ℕ → List Pass → List Pass
passes_unnamed files passes = filter (λ pass. not (is_named files pass.number)) passes

-- one after the other was given the passes of its files, as far as those before had left them, and these are left
abbrev pub AreDealt : List (List ℕ) → List Pass → List (List Pass) → List Pass → Type 0
AreDealt [] passes [] rest = rest ≡ passes
AreDealt [] passes (given ∷ all) rest = ⊥
AreDealt (files ∷ works) passes [] rest = ⊥
AreDealt (files ∷ works) passes (given ∷ all) rest =
    (given ≡ passes_named files passes) × AreDealt works (passes_unnamed files passes) all rest

-- the passes that a work was given, what it answered, and the passes with which it ended
pub record Share (O : Type 0) : Type 0 where
  pub given : List Pass
  pub output : O
  pub back : List Pass

module _ {W O : Type 0} (post : W → Geometry → List Pass → O → List Pass → Type 0) where
  -- each of the works had its share of these passes, and kept what it promises of it; they answered this, and the passes with which
  -- they ended stand behind those that none was given
  pub record AreDoneBeside (geometry : Geometry) (works : List (Beside W)) (before : List Pass) (outputs : List O) (after : List Pass) : Type 0 where
    pub shares : List (Share O)
    pub rest : List Pass
    pub dealt : AreDealt (map (λ beside. beside.files.items) works) before (map (λ share. share.given) shares) rest
    pub kept : AllZip (λ beside share. post beside.work geometry share.given share.output share.back) works shares
    pub answered : outputs ≡ map (λ share. share.output) shares
    pub joined : after ≡ rest ++ flat_map (λ share. share.back) shares

module _ {W : Type 0} (failed : W → Geometry → List Pass → Error → Type 0) where
  -- one of the works ended so, with the passes that it was given
  abbrev pub OneFailed : Geometry → List (Beside W) → List (List Pass) → Error → Type 0
  OneFailed geometry [] given error = ⊥
  OneFailed geometry (beside ∷ works) [] error = ⊥
  OneFailed geometry (beside ∷ works) (given ∷ all) error = failed beside.work geometry given error ⊎ OneFailed geometry works all error

  -- works with their shares of these passes failed with this error: for want of memory, or as one of them did
  abbrev pub HaveFailed : Geometry → List (Beside W) → List Pass → Error → Type 0
  HaveFailed geometry works before error =
      (error ≡ NoMemory)
      ⊎ ((given : List (List Pass)) × (rest : List Pass) × AreDealt (map (λ beside. beside.files.items) works) before given rest × OneFailed geometry works given error)

-- one of them ended with this error
abbrev pub OneEnded : {O : Type 0} → List (Lot (Result O Error)) → Error → Type 0
OneEnded [] error = ⊥
OneEnded (end ∷ ended) error = (end.what ≡ Err error) ⊎ OneEnded ended error

module _ {W : Type 0} (failed : W → Geometry → List Pass → Error → Type 0) where
  -- why works fail that were not begun, and those that were done
  abbrev pub WorksFailed : {O : Type 0} → Works W → Geometry → Held → List (Lot (Result O Error)) → Error → Type 0
  WorksFailed (Fresh works leave) geometry held ended error = HaveFailed failed geometry works.items held.passes error
  WorksFailed (Dealt leave) geometry held ended error = (error ≡ NoMemory) ⊎ OneEnded ended error

module _ {W O : Type 0} (post : W → Geometry → List Pass → O → List Pass → Type 0) where
  -- what works do that were not begun, and what is left to do for those that were done
  abbrev pub WorksDid : Works W → Geometry → Held → List (Lot (Result O Error)) → List O → Leave → List Pass → Type 0
  WorksDid (Fresh works leave) geometry held ended outputs left after = (left ≡ leave) × AreDoneBeside post geometry works.items held.passes outputs after
  WorksDid (Dealt leave) geometry held ended outputs left after =
      (left ≡ leave) × AllZip (λ end output. end.what ≡ Ok output) ended outputs × (after ≡ held.passes ++ flat_map (λ end. end.held.passes) ended)
