-- A visit of a mounted volume is one of the image that the device held, since a mount changes no byte of a block. What work on it comes
-- to, and each fault, follows.
use Rattle.std.proofs.Common.{◌≡◌, ◌≢◌, ◌∙◌, ◌⊎◌, ℕ, ◌-◌, List, [], ap, subst, sym, get_or, map, Result, IfOk, IfErr, inl, inr}
use Rattle.device.specs.Parts.{IsBlockRun}
use Rattle.device.specs.declared.parts.Parts.{Parts}
use Rattle.file_cells.specs.Pass.{Pass}
use Rattle.flash_volume.proofs.Results.{err_then, ok_then, why_failed, why_not_closed}
use Rattle.flash_volume.proofs.Working.{left_run}
use Rattle.flash_volume.specs.Visited.{ArePassesOf, VisitedFrom, VisitedOn, base_of}
use Rattle.flash_volume.specs.Worked.{AreGivenUp, IsNotClosed, IsSoOf, WasWorked, WorkedOn}
use Rattle.flash_volume.specs.declared.leave.Done.{Done}
use Rattle.flash_volume.specs.declared.leave.LeaveFault.{LeaveFault}
use Rattle.flash_volume.specs.declared.leave.Leave.{Leave}
use Rattle.flash_volume.specs.declared.leave.Stage.{Stage}
use Rattle.flash_volume.specs.declared.leave.Stage.TheVariants.{Format, Mount, Work, Close}
use Rattle.geometry.specs.File.{Block}
use Rattle.geometry.specs.declared.error.Error.{Error}
use Rattle.geometry.specs.declared.geometry.Geometry.{Geometry}
use Rattle.image.specs.Image.{Image}
use Rattle.image_codec.specs.Blocks.{bytes_at}
use Rattle.pack_tables.specs.Grammar.{HasSuper}
use Rattle.volume.specs.declared.volume.Base.{Base}
use Rattle.volume_law.specs.Lawful.{HoldsLawfulVolume}

module _ {M B L E : Type 0} (seen : M → List ℕ) (address_of : B → ℕ) (content_of : B → List ℕ) (did : Geometry → Base → List Pass → L → Type 0) where
  pub visited_on : (geometry : Geometry) (image : Image) (blocks : List B) (parts : Parts M B) (result : Result L E)
      → HoldsLawfulVolume seen address_of content_of geometry image parts → map content_of blocks ≡ map content_of parts.blocks.items
      → IfOk result (VisitedFrom did geometry image (bytes_at content_of blocks)) → IfOk result (VisitedOn seen address_of content_of did parts)
  visited_on geometry image blocks parts result held same = ok_then result _ _ (λ left from. record {
    geometry = geometry;
    image = image;
    held = held;
    from = subst (λ (bytes : ℕ → List ℕ). VisitedFrom did geometry image bytes left)
        (ap (λ (contents : List (List ℕ)). λ (address : ℕ). get_or contents (address - 1) []) same) from;
  })

-- what is said under the names of a mounted volume is so of what was mounted
pub visited_from : {L : Type 0} (did : Geometry → Base → List Pass → L → Type 0) (geometry named : Geometry) (image : Image) (blocks : ℕ → Block) (before : List Pass) (base : Base) (left : L)
    → geometry ≡ named → base ≡ base_of image → ArePassesOf geometry image blocks before → did named base before left → VisitedFrom did geometry image blocks left
visited_from did geometry named image blocks before base left same based began visited = record {
  before = before;
  began = began;
  visited = subst (λ (numbers : Geometry). did numbers (base_of image) before left) (sym same) (subst (λ (b : Base). did named b before left) based visited);
}

-- no fault of the work or of the close is one of the mount, or of a format
pub is_late : {P : Type 0} (stage : Stage) (error : Error) → ((stage ≡ Work) × P) ⊎ ((stage ≡ Close) × IsNotClosed error) → (stage ≢ Format) × (stage ≢ Mount)
is_late stage error (inl (at_work, why)) = (λ is. absurd (let no = sym at_work ∙ is in cc), λ is. absurd (let no = sym at_work ∙ is in cc))
is_late stage error (inr (at_close, why)) = (λ is. absurd (let no = sym at_close ∙ is in cc), λ is. absurd (let no = sym at_close ∙ is in cc))

module _ {M B O : Type 0} (seen : M → List ℕ) (may_leave : M → List ℕ → Type 0) (address_of : B → ℕ) (content_of : B → List ℕ) (promise : Geometry → List Pass → O → List Pass → Type 0)
    (failing : Geometry → List Pass → Error → Type 0) (leave : Leave) (parts : Parts M B) (result : Result (Done M B O) (LeaveFault M B)) where
  -- the volume of these parts was visited, to do work that promises this, and fails only so
  abbrev pub IsWorked : Type 0
  IsWorked = VisitedOn seen address_of content_of (λ geometry base before left. WasWorked seen may_leave address_of content_of (promise geometry before) (failing geometry before) leave geometry left) parts result

  module _ (on : IsWorked) where
    pub worked : IfOk result (λ done. WorkedOn seen may_leave address_of content_of (λ geometry before after. promise geometry before done.output after) parts leave done.parts)
    worked = ok_then result _ _ (λ done ended. record {
      geometry = on.geometry;
      image = on.image;
      held = on.held;
      worked = record { before = on.from.before; began = on.from.began; ended = ended };
    }) on.from.visited.done

    pub run_again : IfOk result (λ done. (bytes : ℕ) × IsBlockRun address_of content_of bytes 1 done.parts.blocks.items)
    run_again = ok_then result _ _ (λ done ended. left_run seen may_leave address_of content_of leave on.geometry ended.after done.parts ended.left_so) on.from.visited.done

    pub given_up : IfErr result (λ fault. fault.stage ≢ Mount → (geometry : Geometry) × HasSuper geometry (seen parts.meta) × AreGivenUp seen may_leave address_of content_of geometry fault.parts)
    given_up = err_then result _ _ (λ fault left later. (on.geometry, on.held.held.front, left)) on.from.visited.given_up

    pub fault_run : IfErr result (λ fault. (bytes : ℕ) × IsBlockRun address_of content_of bytes 1 fault.parts.blocks.items)
    fault_run = err_then result _ _ (λ fault left. (_, left.size.run)) on.from.visited.given_up

    pub not_format : IfErr result (λ fault. fault.stage ≢ Format)
    not_format = err_then result _ _ (λ fault cause. (is_late fault.stage fault.error cause).0) on.from.visited.cause

    pub not_mount : (P : LeaveFault M B → Type 0) → IfErr result (λ fault. fault.stage ≡ Mount → P fault)
    not_mount P = err_then result _ _ (λ fault cause is. absurd ((is_late fault.stage fault.error cause).1 is)) on.from.visited.cause

    pub failed : IfErr result (λ fault. fault.stage ≡ Work → IsSoOf seen address_of content_of parts (λ geometry before. failing geometry before fault.error))
    failed = err_then result _ _ (λ fault cause is. record {
      geometry = on.geometry;
      image = on.image;
      held = on.held;
      before = on.from.before;
      began = on.from.began;
      is_so = why_failed fault.stage fault.error cause is;
    }) on.from.visited.cause

    pub not_closed : IfErr result (λ fault. fault.stage ≡ Close → IsNotClosed fault.error)
    not_closed = err_then result _ _ (λ fault cause. why_not_closed fault.stage fault.error cause) on.from.visited.cause
