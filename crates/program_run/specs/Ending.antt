-- What is known between the steps of a script and its end: of the passes, of the device's parts, and of what was written. What a
-- device's parts show is an argument.
use Rattle.std.specs.Prelude.{◌≡◌, ◌⊎◌, ◌<◌, ◌↔◌, ℕ, List, Option, length, map}
use Rattle.std.specs.Io.KnownBytes.{Appends}
use Rattle.image_law.specs.Items.{Among}
use Rattle.device.specs.declared.parts.Parts.{Parts}
use Rattle.device.specs.Parts.{HasSize}
use Rattle.file_cells.specs.Pass.{Pass}
use Rattle.geometry.specs.File.{Block, File}
use Rattle.geometry.specs.declared.geometry.Geometry.{Geometry}
use Rattle.image.specs.Files.{files as files_of}
use Rattle.image.specs.Image.{Image}
use Rattle.image.specs.Rules.{IsLawful}
use Rattle.image_codec.specs.Blocks.{bytes_at}
use Rattle.pack_tables.specs.OneImage.{HoldVolume}
use Rattle.program_script.specs.declared.script.Step.{Step}
use Rattle.program_run.specs.Files.{ArePlaced, Files, no_files, passes_among}
use Rattle.program_run.specs.Lines.{image_lines, unsynced_line}
use Rattle.program_run.specs.Run.{RanSome, WroteSteps, format_line, mounted_of}
use Rattle.mount_reading.specs.Held.{HoldsImage}
use Rattle.pack_tables.specs.Grammar.{HasSuper}
use Rattle.program_run.specs.declared.remounting.Left.{Left}
use Rattle.program_run.specs.declared.steps.Carried.{Carried}
use Rattle.program_run.specs.declared.steps.Opening.{Opening}

-- the steps were run, first on a volume without files, and these are the passes of the last volume's files at the end
pub record RanSteps (steps : List Step) (geometry : Geometry) (passes : List Pass) (old new : Option (List ℕ)) : Type 0 where
  pub first : Geometry
  pub end : Files
  pub ran : WroteSteps steps (no_files first) end format_line old new
  pub placed : ArePlaced end
  pub numbers : end.geometry ≡ geometry
  pub passes_are : passes ≡ passes_among end.passes

module _ {M B : Type 0} (seen : M → List ℕ) (address_of : B → ℕ) (content_of : B → List ℕ) where
  -- a volume was closed, and its parts hold a lawful image, whose files are exactly what the passes showed
  pub record HoldsFiles (geometry : Geometry) (passes : List Pass) (parts : Parts M B) : Type 0 where
    pub image : Image
    pub size : HasSize seen address_of content_of geometry parts
    pub held : HoldVolume geometry image (seen parts.meta) (bytes_at content_of parts.blocks.items)
    pub lawful : IsLawful geometry image
    pub shown : (number : ℕ) (file : File) → Among (number, file) (files_of geometry image (bytes_at content_of parts.blocks.items)) ↔ Among (record { number = number; file = file }) passes

  -- a volume was left as it is: its parts have its size, and its superblock
  pub record AreLeft (geometry : Geometry) (parts : Parts M B) : Type 0 where
    pub size : HasSize seen address_of content_of geometry parts
    pub front : HasSuper geometry (seen parts.meta)

  -- a volume was left with these passes: it was closed, and nothing was written; or it was not, which was written
  abbrev pub WasLeft : Geometry → List Pass → Parts M B → Option (List ℕ) → Option (List ℕ) → Type 0
  WasLeft geometry passes parts old new =
      (HoldsFiles geometry passes parts × (new ≡ old))
      ⊎ (HasSize seen address_of content_of geometry parts × Appends old new unsynced_line)

  -- the steps were run, and the last volume was left
  pub record LeftScript (steps : List Step) (parts : Parts M B) (old new : Option (List ℕ)) : Type 0 where
    pub geometry : Geometry
    pub passes : List Pass
    pub middle : Option (List ℕ)
    pub ran : RanSteps steps geometry passes old middle
    pub left : WasLeft geometry passes parts middle new

module _ {M B L : Type 0} (seen : M → List ℕ) (address_of : B → ℕ) (content_of : B → List ℕ) where
  -- a volume was left where its steps halted: where all were run it was left for good, and else nothing was written
  pub record LeftSome (steps : List Step) (geometry : Geometry) (passes : List Pass) (opening : Opening) (left : Left M B L) (old new : Option (List ℕ)) : Type 0 where
    pub ended : List Pass
    pub middle : Option (List ℕ)
    pub ran : RanSome steps geometry passes opening ended left.run left.carried old middle
    pub left_so : ((left.run ≡ length steps) × WasLeft seen address_of content_of geometry ended left.parts middle new)
        ⊎ ((left.run < length steps) × AreLeft seen address_of content_of geometry left.parts × (new ≡ middle))

  -- the same of a volume that was mounted: its passes showed the files of this image over these blocks
  pub record WentOnWith (geometry : Geometry) (image : Image) (blocks : ℕ → Block) (steps : List Step) (carried : Carried) (left : Left M B L) (old new : Option (List ℕ)) : Type 0 where
    pub passes : List Pass
    pub shown : map (λ pass. (pass.number, pass.file)) passes ≡ files_of geometry image blocks
    pub some : LeftSome steps geometry passes (record { mounted = mounted_of carried image.version; carried = carried }) left old new

  -- the same of the lawful image that these parts hold, of the numbers that their meta area tells
  pub record WentOn (parts : Parts M B) (steps : List Step) (carried : Carried) (left : Left M B L) (old new : Option (List ℕ)) : Type 0 where
    pub geometry : Geometry
    pub front : HasSuper geometry (seen parts.meta)
    pub image : Image
    pub held : HoldsImage seen content_of geometry parts image
    pub lawful : IsLawful geometry image
    pub on : WentOnWith geometry image (bytes_at content_of parts.blocks.items) steps carried left old new

-- the files and the total of the lawful image that the parts hold were written
pub record ToldParts {M B : Type 0} (seen : M → List ℕ) (content_of : B → List ℕ) (parts : Parts M B) (old new : Option (List ℕ)) : Type 0 where
  pub geometry : Geometry
  pub image : Image
  pub held : HoldVolume geometry image (seen parts.meta) (bytes_at content_of parts.blocks.items)
  pub lawful : IsLawful geometry image
  pub told : Appends old new (image_lines geometry image (bytes_at content_of parts.blocks.items))
