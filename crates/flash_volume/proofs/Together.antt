-- What each thread answered is put together, place by place: the works, their shares, what they ended with and what they answered
-- are lists of one length, and so each work did what it promises of its share.
use Rattle.std.proofs.Common.{◌≡◌, ◌<◌, ℕ, suc, List, [], ◌∷◌, ◌++◌, ap, arith, get_or, inl, inr, length, map, refl, subst, sym, Result, Ok, IfOk, IfErr, OnOk, Err}
use Rattle.std.specs.List.{AllZip, flat_map}
use Rattle.file_cells.specs.Pass.{Pass}
use Rattle.flash_volume.specs.Beside.{AreDealt, AreDoneBeside, OneEnded, OneFailed, Share}
use Rattle.flash_volume.specs.Rounds.{Lot}
use Rattle.flash_volume.specs.declared.beside.Beside.{Beside}
use Rattle.geometry.specs.declared.error.Error.{Error}
use Rattle.geometry.specs.declared.geometry.Geometry.{Geometry}

-- what holds of a value and of what is left, and what follows from both
pub ok_both : {T E : Type 0} (result : Result T E) (P : T → Type 0) (O : Type 0) (Q : T → Type 0) → ((value : T) → P value → O → Q value) → IfOk result P → OnOk result O → IfOk result Q
ok_both (Ok value) P O Q step holds too = step value holds too
ok_both (Err error) P O Q step holds too = tt

module _ {J A : Type 0} (R : J → A → Type 0) where
  -- the job at this place and its answer
  pub record Gave (jobs : List J) (place : ℕ) (answer : A) : Type 0 where
    pub job : J
    pub is : (other : J) → get_or jobs place other ≡ job
    pub did : R job answer

  pub zip_answers : (jobs : List J) (answers : List A) → length answers ≡ length jobs
      → ((place : ℕ) (other : A) → place < length jobs → Gave jobs place (get_or answers place other)) → AllZip R jobs answers
  zip_answers [] [] same each = tt
  zip_answers [] (answer ∷ answers) same each = absurd (omega arith)
  zip_answers (job ∷ jobs) [] same each = absurd (omega arith)
  zip_answers (job ∷ jobs) (answer ∷ answers) same each =
      let first = each 0 answer (omega arith) in (
        subst (λ (j : J). R j answer) (sym (first.is job)) first.did,
        zip_answers jobs answers (omega arith) (λ place other within. let own = each (suc place) other (omega arith) in record { job = own.job; is = own.is; did = own.did }),
      )

module _ {W S E O F : Type 0} (post : W → Geometry → List Pass → O → List Pass → Type 0) (failed : W → Geometry → List Pass → F → Type 0) (geometry : Geometry) (work_of : S → W) (given_of : S → List Pass)
    (output_of : E → Result O F) (back_of : E → List Pass) where
  -- what a work with its share ended with
  abbrev pub Did : S → E → Type 0
  Did share one =
      IfOk (output_of one) (λ output. post (work_of share) geometry (given_of share) output (back_of one))
      × IfErr (output_of one) (λ error. failed (work_of share) geometry (given_of share) error)

  abbrev pub Told : E → O → Type 0
  Told one output = output_of one ≡ Ok output

  abbrev Kept : Beside W → Share O → Type 0
  Kept beside share = post beside.work geometry share.given share.output share.back

  record Whole (works : List (Beside W)) (shares : List S) (ended : List E) (outputs : List O) : Type 0 where
    all : List (Share O)
    given : map (λ share. share.given) all ≡ map given_of shares
    kept : AllZip Kept works all
    answered : outputs ≡ map (λ share. share.output) all
    back : flat_map (λ share. share.back) all ≡ flat_map back_of ended

  whole : (works : List (Beside W)) (shares : List S) (ended : List E) (outputs : List O) → map work_of shares ≡ map (λ beside. beside.work) works → AllZip Did shares ended
      → AllZip Told ended outputs → Whole works shares ended outputs
  whole [] [] [] [] same did told = record { all = []; given = refl; kept = tt; answered = refl; back = refl }
  whole [] [] [] (output ∷ outputs) same did told = absurd told
  whole [] [] (one ∷ ended) outputs same did told = absurd did
  whole [] (share ∷ shares) ended outputs same did told = absurd (let no = same in cc)
  whole (beside ∷ works) [] ended outputs same did told = absurd (let no = same in cc)
  whole (beside ∷ works) (share ∷ shares) [] outputs same did told = absurd did
  whole (beside ∷ works) (share ∷ shares) (one ∷ ended) [] same did told = absurd told
  whole (beside ∷ works) (share ∷ shares) (one ∷ ended) (output ∷ outputs) same did told =
      let first : work_of share ≡ beside.work = let is = same in cc in
      let others : map work_of shares ≡ map (λ beside. beside.work) works = let is = same in cc in
      let rest = whole works shares ended outputs others did.1 told.1 in
      let held : post (work_of share) geometry (given_of share) output (back_of one) =
      subst (λ (answer : Result O F). IfOk answer (λ o. post (work_of share) geometry (given_of share) o (back_of one))) told.0 did.0.0 in
      record {
        all = record { given = given_of share; output = output; back = back_of one } ∷ rest.all;
        given = ap (λ (xs : List (List Pass)). given_of share ∷ xs) rest.given;
        kept = (subst (λ (work : W). post work geometry (given_of share) output (back_of one)) first held, rest.kept);
        answered = ap (λ (xs : List O). output ∷ xs) rest.answered;
        back = ap (λ (xs : List Pass). back_of one ++ xs) rest.back;
      }

  pub done_beside : (works : List (Beside W)) (before : List Pass) (shares : List S) (rest : List Pass) (ended : List E) (outputs : List O) (after : List Pass)
      → map work_of shares ≡ map (λ beside. beside.work) works → AreDealt (map (λ beside. beside.files.items) works) before (map given_of shares) rest
      → AllZip Did shares ended → AllZip Told ended outputs → after ≡ rest ++ flat_map back_of ended → AreDoneBeside post geometry works before outputs after
  done_beside works before shares rest ended outputs after same dealt did told joined =
      let all = whole works shares ended outputs same did told in
      record {
        shares = all.all;
        rest = rest;
        dealt = subst (λ (given : List (List Pass)). AreDealt (map (λ beside. beside.files.items) works) before given rest) (sym all.given) dealt;
        kept = all.kept;
        answered = all.answered;
        joined = subst (λ (back : List Pass). after ≡ rest ++ back) (sym all.back) joined;
      }

module _ {W S O : Type 0} (post : W → Geometry → List Pass → O → List Pass → Type 0) (failed : W → Geometry → List Pass → Error → Type 0) (geometry : Geometry) (work_of : S → W) (given_of : S → List Pass) where
  -- the work whose thread ended with an error failed with it
  pub one_failed : (works : List (Beside W)) (shares : List S) (ended : List (Lot (Result O Error))) (error : Error) → map work_of shares ≡ map (λ beside. beside.work) works
      → AllZip (Did post failed geometry work_of given_of (λ (end : Lot (Result O Error)). end.what) (λ end. end.held.passes)) shares ended → OneEnded ended error
      → OneFailed failed geometry works (map given_of shares) error
  one_failed works shares [] error same did lost = absurd lost
  one_failed works [] (one ∷ ended) error same did lost = absurd did
  one_failed [] (share ∷ shares) (one ∷ ended) error same did lost = absurd (let no = same in cc)
  one_failed (beside ∷ works) (share ∷ shares) (one ∷ ended) error same did (inl is) =
      let first : work_of share ≡ beside.work = let all = same in cc in
      inl (subst (λ (work : W). failed work geometry (given_of share) error) first
      (subst (λ (answer : Result O Error). IfErr answer (λ e. failed (work_of share) geometry (given_of share) e)) is did.0.1))
  one_failed (beside ∷ works) (share ∷ shares) (one ∷ ended) error same did (inr later) =
      let others : map work_of shares ≡ map (λ beside. beside.work) works = let all = same in cc in
      inr (one_failed works shares ended error others did.1 later)
