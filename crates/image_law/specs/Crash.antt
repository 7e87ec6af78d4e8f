-- What a crash leaves of a volume, whatever happened before it.
use Rattle.std.specs.Prelude.{◌≡◌, ◌≤◌, ℕ, List, Contains}
use Rattle.geometry.specs.declared.geometry.Geometry.{Geometry}
use Rattle.image.specs.Files.{files}
use Rattle.image.specs.Rules.{IsLawful}
use Rattle.image.specs.Reading.{image_in}
use Rattle.image_law.specs.Core.{Core, Event, Left, Written, MayLeave, IsPicked, image_of, Run, IsFormatted}

-- a body that was written before the crash, of the completed version or later, with its image and its files as they
-- were over the blocks when it was written
pub record IsKept (geometry : Geometry) (machine : Core) (left : Left) (slot : ℕ) (w : Written) : Type 0 where
  pub was_written : Contains machine.written w
  pub lawful : IsLawful geometry (image_in geometry w.body w.blocks)
  pub image : image_of geometry left slot ≡ image_in geometry w.body w.blocks
  pub version : machine.version ≤ (image_of geometry left slot).version
  pub files : files geometry (image_of geometry left slot) left.blocks ≡ files geometry (image_in geometry w.body w.blocks) w.blocks

-- After any events, whatever a crash leaves, some slot is picked, and what it holds was kept whole.
abbrev pub CrashLaw : Type 0
CrashLaw =
    (geometry : Geometry) (start machine : Core) (events : List Event) (left : Left)
    → IsFormatted geometry start → Run geometry start events machine → MayLeave machine left
    → (slot : ℕ) × IsPicked left.slots slot × (w : Written) × IsKept geometry machine left slot w
