-- What work on a volume comes to. What the parts of a device show, and what the work promises, are arguments.
use Rattle.std.specs.Prelude.{◌≡◌, ◌⊎◌, ◌↔◌, ℕ, List, map, Result, IfOk, IfErr}
use Rattle.close_area.specs.Refused.{IsNotWritten}
use Rattle.close_area.specs.Shown.{AreShown}
use Rattle.checkpoint.specs.Standing.{HasVolume}
use Rattle.device.specs.Disk.{Leaves}
use Rattle.device.specs.Parts.{HasSize}
use Rattle.device.specs.declared.parts.Parts.{Parts}
use Rattle.file_cells.specs.Pass.{Pass}
use Rattle.flash_volume.specs.declared.leave.Done.{Done}
use Rattle.flash_volume.specs.declared.leave.LeaveFault.{LeaveFault}
use Rattle.flash_volume.specs.declared.leave.Leave.{Leave}
use Rattle.flash_volume.specs.declared.leave.Leave.TheVariants.{Close, Discard}
use Rattle.flash_volume.specs.declared.leave.Stage.TheVariants.{Work as AtWork, Close as AtClose}
use Rattle.geometry.specs.File.{Block}
use Rattle.geometry.specs.declared.error.Error.{Error}
use Rattle.geometry.specs.declared.error.Error.TheVariants.{BadGeometry, NoPack, BadImage, PassesOut, SeatsOut}
use Rattle.geometry.specs.declared.geometry.Geometry.{Geometry}
use Rattle.image.specs.Files.{files}
use Rattle.image.specs.Image.{Image}
use Rattle.image_codec.specs.Blocks.{bytes_at}
use Rattle.image_law.specs.Items.{Among}
use Rattle.volume_law.specs.Lawful.{HoldsLawfulVolume}
use Rattle.volume.specs.Leaving.{IsLeftOut}
use Rattle.volume_format.specs.Mountable.{IsMountable}

-- why a volume is not closed: something of so many seats or of the passes was not handed in, or no checkpoint was written
abbrev pub IsNotClosed : Error → Type 0
IsNotClosed error = ((seats : ℕ) × IsLeftOut seats error) ⊎ IsNotWritten error

-- why a call on a volume ends: not as a mount does or a close
abbrev pub IsOfCall : Error → Type 0
IsOfCall BadGeometry = ⊥
IsOfCall NoPack = ⊥
IsOfCall (BadImage fault) = ⊥
IsOfCall (PassesOut count) = ⊥
IsOfCall (SeatsOut count) = ⊥
IsOfCall other = Unit {0}

-- the passes of the same files
abbrev pub AreSamePasses : List Pass → List Pass → Type 0
AreSamePasses passes others = (pass : Pass) → Among pass passes ↔ Among pass others

module _ {M B : Type 0} (seen : M → List ℕ) (may_leave : M → List ℕ → Type 0) (address_of : B → ℕ) (content_of : B → List ℕ) where
  -- the parts of a volume that was closed: whatever crash comes, they hold a lawful image, whose files are those of the passes
  pub record AreClosed (geometry : Geometry) (passes : List Pass) (parts : Parts M B) : Type 0 where
    pub image : Image
    pub mountable : IsMountable seen may_leave address_of content_of geometry image parts
    pub shown : AreShown (files geometry image (bytes_at content_of parts.blocks.items)) passes

  -- the parts of a volume that was given up: they have its size, and whatever crash comes its superblock and a pack that counts
  pub record AreGivenUp (geometry : Geometry) (parts : Parts M B) : Type 0 where
    pub size : HasSize seen address_of content_of geometry parts
    pub counts : Leaves may_leave parts.meta (HasVolume geometry)

  -- the parts of a volume that was left so, while its files were those of the passes
  abbrev pub AreLeft : Leave → Geometry → List Pass → Parts M B → Type 0
  AreLeft Close geometry passes parts = AreClosed geometry passes parts
  AreLeft Discard geometry passes parts = AreGivenUp geometry parts

  -- work ended with files for which it promised this, and with these its volume was left
  pub record EndedWith (promise : List Pass → Type 0) (leave : Leave) (geometry : Geometry) (left : Parts M B) : Type 0 where
    pub after : List Pass
    pub kept : promise after
    pub left_so : AreLeft leave geometry after left

  -- Work was done, which promises this of what it answers and of the passes that it ends with, and its volume was left; or it
  -- failed so, or the close was refused, and nothing more was written.
  pub record WasWorked {O : Type 0} (promise : O → List Pass → Type 0) (failing : Error → Type 0) (leave : Leave) (geometry : Geometry) (result : Result (Done M B O) (LeaveFault M B)) : Type 0 where
    pub done : IfOk result (λ done. EndedWith (promise done.output) leave geometry done.parts)
    pub given_up : IfErr result (λ fault. AreGivenUp geometry fault.parts)
    pub cause : IfErr result (λ fault. ((fault.stage ≡ AtWork) × failing fault.error) ⊎ ((fault.stage ≡ AtClose) × IsNotClosed fault.error))

  -- work began with the passes of the files of this image over these blocks, and ended
  pub record WorkedFrom (promise : Geometry → List Pass → List Pass → Type 0) (geometry : Geometry) (image : Image) (blocks : ℕ → Block) (leave : Leave) (left : Parts M B) : Type 0 where
    pub before : List Pass
    pub began : map (λ pass. (pass.number, pass.file)) before ≡ files geometry image blocks
    pub ended : EndedWith (promise geometry before) leave geometry left

  -- the same of the lawful image that these parts hold
  pub record WorkedOn (promise : Geometry → List Pass → List Pass → Type 0) (parts : Parts M B) (leave : Leave) (left : Parts M B) : Type 0 where
    pub geometry : Geometry
    pub image : Image
    pub held : HoldsLawfulVolume seen address_of content_of geometry image parts
    pub worked : WorkedFrom promise geometry image (bytes_at content_of parts.blocks.items) leave left

module _ {M B : Type 0} (seen : M → List ℕ) (address_of : B → ℕ) (content_of : B → List ℕ) where
  -- this is so of the passes of the files of the lawful image that these parts hold, with which work began
  pub record IsSoOf (parts : Parts M B) (so : Geometry → List Pass → Type 0) : Type 0 where
    pub geometry : Geometry
    pub image : Image
    pub held : HoldsLawfulVolume seen address_of content_of geometry image parts
    pub before : List Pass
    pub began : map (λ pass. (pass.number, pass.file)) before ≡ files geometry image (bytes_at content_of parts.blocks.items)
    pub is_so : so geometry before
