-- A scheduler that deals works and takes them back, and leaves the volume as it was told to, does the works.
use Rattle.std.proofs.Common.{ℕ, List, [], subst, inl, inr, Result, Vec, Global}
use Rattle.device.specs.declared.parts.Parts.{Parts}
use Rattle.file_cells.specs.Pass.{Pass}
use Rattle.flash_volume.proofs.Results.{err_then, ok_then}
use Rattle.flash_volume.proofs.Visiting.{IsWorked}
use Rattle.flash_volume.specs.Beside.{AreDoneBeside, HaveFailed, WorksDid, WorksFailed}
use Rattle.flash_volume.specs.Rounds.{WasScheduled, at_first}
use Rattle.flash_volume.specs.Visited.{VisitedOn}
use Rattle.flash_volume.specs.Worked.{AreLeft}
use Rattle.flash_volume.specs.declared.beside.Beside.{Beside}
use Rattle.flash_volume.specs.declared.leave.Done.{Done}
use Rattle.flash_volume.specs.declared.leave.LeaveFault.{LeaveFault}
use Rattle.flash_volume.specs.declared.leave.Leave.{Leave}
use Rattle.flash_volume.specs.declared.works.Works.TheVariants.{Fresh}
use Rattle.geometry.specs.declared.error.Error.{Error}
use Rattle.geometry.specs.declared.geometry.Geometry.{Geometry}

module _ {M B W O : Type 0} (seen : M → List ℕ) (may_leave : M → List ℕ → Type 0) (address_of : B → ℕ) (content_of : B → List ℕ)
    (post : W → Geometry → List Pass → O → List Pass → Type 0) (failed : W → Geometry → List Pass → Error → Type 0) (works : Vec (Beside W) Global) (leave : Leave) (parts : Parts M B)
    (result : Result (Done M B (Vec O Global)) (LeaveFault M B)) where
  pub as_worked : VisitedOn seen address_of content_of
      (λ geometry base before left. WasScheduled seen may_leave address_of content_of (λ outputs left_as after. WorksDid post (Fresh works leave) geometry (at_first before) [] outputs.items left_as after)
      (WorksFailed failed {O = O} (Fresh works leave) geometry (at_first before) []) geometry left)
      parts result
      → IsWorked seen may_leave address_of content_of (λ geometry before outputs after. AreDoneBeside post geometry works.items before outputs.items after)
      (λ geometry before error. HaveFailed failed geometry works.items before error) leave parts result
  as_worked on =
      let scheduled = on.from.visited.1 in
      record {
        geometry = on.geometry;
        image = on.image;
        held = on.held;
        from = record {
          before = on.from.before;
          began = on.from.began;
          visited = record {
            done = ok_then result _ _ (λ done ended. record {
              after = ended.after;
              kept = ended.kept.1;
              left_so = subst (λ (left_as : Leave). AreLeft seen may_leave address_of content_of left_as on.geometry ended.after done.parts) ended.kept.0 ended.left_so;
            }) scheduled.done;
            given_up = scheduled.given_up;
            cause = err_then result _ _ (λ fault cause. elim cause [
              | inl at_work ↦ inl (at_work.0, elim at_work.1 [ inl no_memory ↦ inl no_memory | inr why ↦ why ])
              | inr at_close ↦ inr at_close
            ]) scheduled.cause;
          };
        };
      }
