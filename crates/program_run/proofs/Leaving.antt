-- The door leaves a volume as the script's scheduler asked, so what it says of the parts is what a script says of a volume that was left.
use Rattle.std.proofs.Common.{◌≡◌, ◌⊎◌, ◌<◌, ◌-◌, ℕ, List, [], drop, take, length, inl, inr, subst, sym, arith, Option, None, false}
use Rattle.std.specs.Io.KnownBytes.{Appends}
use Rattle.device.specs.declared.parts.Parts.{Parts}
use Rattle.file_cells.specs.Pass.{Pass}
use Rattle.flash_volume.specs.Rounds.{Lot, at_first}
use Rattle.flash_volume.specs.Visited.{ArePassesOf, base_of}
use Rattle.flash_volume.specs.Worked.{AreClosed, AreGivenUp, AreLeft as DoorLeft}
use Rattle.flash_volume.specs.declared.leave.Leave.{Leave}
use Rattle.flash_volume.specs.declared.leave.Leave.TheVariants.{Close, Discard}
use Rattle.geometry.specs.File.{Block}
use Rattle.geometry.specs.declared.geometry.Geometry.{Geometry}
use Rattle.image.specs.Image.{Image}
use Rattle.program_script.specs.declared.script.Step.{Step}
use Rattle.program_run.specs.Scheduler.{IsLeave, RanScript}
use Rattle.program_run.specs.Ending.{AreLeft, HoldsFiles, WasLeft, WentOnWith}
use Rattle.program_run.specs.Run.{IsHalted, WroteSteps, mounted_of, opening_line}
use Rattle.program_run.specs.declared.scheduler.Halt.{Halt}
use Rattle.program_run.specs.declared.remounting.Left.{Left}
use Rattle.program_run.specs.declared.steps.Carried.{Carried}
use Rattle.std.specs.Prelude.{Result}
use Rattle.program_run.proofs.Runs.{behind_line}

module _ {M B : Type 0} (seen : M → List ℕ) (may_leave : M → List ℕ → Type 0) (address_of : B → ℕ) (content_of : B → List ℕ) (seen_is_left : (meta : M) → may_leave meta (seen meta)) (geometry : Geometry) where
  -- what the meta area shows a crash may leave, so the superblock and the pack that counts are there
  closed_holds : (passes : List Pass) (parts : Parts M B) → AreClosed seen may_leave address_of content_of geometry passes parts → HoldsFiles seen address_of content_of geometry passes parts
  closed_holds passes parts closed =
      let area = seen parts.meta in
      let left = seen_is_left parts.meta in
      let stands = closed.mountable in
      record {
        image = closed.image;
        size = stands.size;
        held = record { front = stands.front area left; tables = stands.tables area left; nodes = stands.nodes };
        lawful = stands.lawful;
        shown = closed.shown;
      }

  given_up_left : (parts : Parts M B) → AreGivenUp seen may_leave address_of content_of geometry parts → AreLeft seen address_of content_of geometry parts
  given_up_left parts up = let here = up.counts (seen parts.meta) (seen_is_left parts.meta) in record { size = up.size; front = here.front }

  left_so : (steps : List Step) (run : ℕ) (leave : Leave) (passes : List Pass) (parts : Parts M B) (old new : Option (List ℕ)) → IsLeave steps run leave old new
      → DoorLeft seen may_leave address_of content_of leave geometry passes parts
      → ((run ≡ length steps) × WasLeft seen address_of content_of geometry passes parts old new) ⊎ ((run < length steps) × AreLeft seen address_of content_of geometry parts × (new ≡ old))
  left_so steps run Close passes parts old new (inl (all, same)) closed = inl (all, inl (closed_holds passes parts closed, same))
  left_so steps run Discard passes parts old new (inl (all, told)) up = inl (all, inr (up.size, told))
  left_so steps run Close passes parts old new (inr (some, is, same)) closed = absurd (let no = is in cc)
  left_so steps run Discard passes parts old new (inr (some, is, same)) up = inr (some, given_up_left parts up, same)

  -- a script's scheduler was run, and its volume was left
  pub went_with_script : {L W E : Type 0} (text_of : W → List ℕ) (image : Image) (blocks : ℕ → Block) (steps : List Step) (carried : Carried) (before after : List Pass) (halt : Halt) (leave : Leave)
      (left : Left M B L) (old new : Option (List ℕ)) → ArePassesOf geometry image blocks before
      → RanScript {W = W} {E = E} text_of steps None carried geometry (base_of image) (at_first before) [] halt leave after old new
      → DoorLeft seen may_leave address_of content_of leave geometry after left.parts → left.run ≡ halt.run → left.carried ≡ halt.carried
      → WentOnWith seen address_of content_of geometry image blocks steps carried left old new
  went_with_script text_of image blocks steps carried before after halt leave left old new began script door same_run same_carried = record {
    passes = before;
    shown = began;
    some = record {
      ended = after;
      middle = script.middle;
      ran = record {
        begun = script.start;
        end = script.ran.end;
        opened = script.begins.0;
        ran = behind_line (take left.run steps) script.start script.ran.end (opening_line (mounted_of carried image.version)) old script.told script.middle script.begins.1
            (subst (λ n. WroteSteps (take n steps) script.start script.ran.end [] script.told script.middle) (let is = same_run in omega (arith, is)) script.ran.ran);
        placed = script.ran.placed;
        numbers = script.ran.numbers;
        passes_are = script.ran.passes_are;
        time_is = subst (λ (c : Carried). script.ran.end.time ≡ c.time) (sym same_carried) script.ran.time_is;
        readers_are = subst (λ (c : Carried). length script.ran.end.readers ≡ c.readers) (sym same_carried) script.ran.readers_are;
        later_is = subst (λ (c : Carried). c.formatted ≡ false) (sym same_carried) script.ran.later_is;
        halted = subst (λ n. IsHalted steps n script.ran.end.readers) (sym same_run) script.ran.halted;
      };
      left_so = subst (λ n. ((n ≡ length steps) × WasLeft seen address_of content_of geometry after left.parts script.middle new) ⊎ ((n < length steps) × AreLeft seen address_of content_of geometry left.parts × (new ≡ script.middle)))
          (sym same_run) (left_so steps halt.run leave after left.parts script.middle new script.left_so door);
    };
  }
