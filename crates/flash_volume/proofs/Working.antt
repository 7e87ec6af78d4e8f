-- A device that was just formatted holds no file, so work on it begins with no pass. However a volume was left, its parts can be mounted
-- again; and whether it was left or given up, the work on it came to what it promised.
use Rattle.std.proofs.Common.{◌≡◌, ◌∙◌, ℕ, List, [], ◌∷◌, Result, Err, IfOk, IfErr, subst, sym, refl, map, inl, inr}
use Rattle.device.specs.declared.parts.Parts.{Parts}
use Rattle.device.specs.Parts.{IsBlockRun}
use Rattle.file_cells.specs.Pass.{Pass}
use Rattle.flash_volume.proofs.Results.{err_both, ok_both}
use Rattle.flash_volume.specs.Worked.{AreGivenUp, AreLeft, EndedWith, IsNotClosed, IsSoOf, WasWorked, WorkedOn}
use Rattle.flash_volume.specs.declared.leave.Done.{Done}
use Rattle.flash_volume.specs.declared.leave.LeaveFault.{LeaveFault}
use Rattle.flash_volume.specs.declared.leave.Leave.{Leave}
use Rattle.flash_volume.specs.declared.leave.Leave.TheVariants.{Close, Discard}
use Rattle.flash_volume.specs.declared.leave.Stage.TheVariants.{Work as AtWork, Close as AtClose}
use Rattle.geometry.specs.File.{File}
use Rattle.geometry.specs.declared.error.Error.{Error}
use Rattle.geometry.specs.declared.geometry.Geometry.{Geometry}
use Rattle.image.specs.Files.{files}
use Rattle.image_codec.specs.Blocks.{bytes_at}

abbrev pair : Pass → ℕ × File
pair pass = (pass.number, pass.file)

-- no file is shown by no pass
no_pass : (passes : List Pass) → map pair passes ≡ [] → passes ≡ []
no_pass [] none = refl
no_pass (pass ∷ passes) none = absurd (let no = none in cc)

module _ {M B : Type 0} (seen : M → List ℕ) (may_leave : M → List ℕ → Type 0) (address_of : B → ℕ) (content_of : B → List ℕ) (promise : Geometry → List Pass → List Pass → Type 0) where
  pub worked_on_new : (geometry : Geometry) (parts : Parts M B) (leave : Leave) (left : Parts M B) (on : WorkedOn seen may_leave address_of content_of promise parts leave left)
      → on.geometry ≡ geometry → files on.geometry on.image (bytes_at content_of parts.blocks.items) ≡ []
      → EndedWith seen may_leave address_of content_of (promise geometry []) leave geometry left
  worked_on_new geometry parts leave left on same no_file =
      let none = no_pass on.worked.before (on.worked.began ∙ no_file) in
      subst (λ (numbers : Geometry). EndedWith seen may_leave address_of content_of (promise numbers []) leave numbers left) same
      (subst (λ (before : List Pass). EndedWith seen may_leave address_of content_of (promise on.geometry before) leave on.geometry left) none on.worked.ended)

module _ {M B : Type 0} (seen : M → List ℕ) (may_leave : M → List ℕ → Type 0) (address_of : B → ℕ) (content_of : B → List ℕ) where
  pub left_run : (leave : Leave) (geometry : Geometry) (passes : List Pass) (left : Parts M B) → AreLeft seen may_leave address_of content_of leave geometry passes left
      → (bytes : ℕ) × IsBlockRun address_of content_of bytes 1 left.blocks.items
  left_run Close geometry passes left closed = (_, closed.mountable.size.run)
  left_run Discard geometry passes left given_up = (_, given_up.size.run)

module _ {M B : Type 0} (seen : M → List ℕ) (address_of : B → ℕ) (content_of : B → List ℕ) (so : Geometry → List Pass → Type 0) where
  pub so_on_new : (geometry : Geometry) (parts : Parts M B) (on : IsSoOf seen address_of content_of parts so) → on.geometry ≡ geometry
      → files on.geometry on.image (bytes_at content_of parts.blocks.items) ≡ [] → so geometry []
  so_on_new geometry parts on same no_file =
      subst (λ (numbers : Geometry). so numbers []) same
      (subst (λ (before : List Pass). so on.geometry before) (no_pass on.before (on.began ∙ no_file)) on.is_so)

module _ {M B O : Type 0} (seen : M → List ℕ) (may_leave : M → List ℕ → Type 0) (address_of : B → ℕ) (content_of : B → List ℕ) (promise : O → List Pass → Type 0) (failing : Error → Type 0) (leave : Leave) (geometry : Geometry) where
  -- work kept its promise with these passes, and its volume was left with them, or the close was refused
  pub was_left : (output : O) (after : List Pass) (result : Result (Done M B O) (LeaveFault M B)) → promise output after → IfOk result (λ done. done.output ≡ output)
      → IfOk result (λ done. AreLeft seen may_leave address_of content_of leave geometry after done.parts)
      → IfErr result (λ fault. AreGivenUp seen may_leave address_of content_of geometry fault.parts) → IfErr result (λ fault. fault.stage ≡ AtClose)
      → IfErr result (λ fault. IsNotClosed fault.error) → WasWorked seen may_leave address_of content_of promise failing leave geometry result
  was_left output after result kept same left given_up stage error = record {
    done = ok_both result _ _ _ (λ done is left_so. record { after = after; kept = subst (λ (o : O). promise o after) (sym is) kept; left_so = left_so }) same left;
    given_up = given_up;
    cause = err_both result _ _ _ (λ fault at_close why. inr (at_close, why)) stage error;
  }

  -- work failed, and its volume was given up
  pub was_given_up : (error : Error) (fault : LeaveFault M B) → failing error → AreGivenUp seen may_leave address_of content_of geometry fault.parts → fault.stage ≡ AtWork
      → fault.error ≡ error → WasWorked seen may_leave address_of content_of promise failing leave geometry (Err fault)
  was_given_up error fault failed given_up stage same = record { done = tt; given_up = given_up; cause = inl (stage, subst (λ (e : Error). failing e) (sym same) failed) }
