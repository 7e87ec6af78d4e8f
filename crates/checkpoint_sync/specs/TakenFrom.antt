-- From what an image of a volume was taken.
use Rattle.std.specs.Prelude.{[], List}
use Rattle.geometry.specs.declared.geometry.Geometry.{Geometry}
use Rattle.image.specs.Image.{Image}
use Rattle.image_law.specs.Parts.{IsImageOf}
use Rattle.checkpoint_image.specs.Cells.{Cells, Filed, parts_of}
use Rattle.checkpoint_image.specs.PartsLaw.{ArePartsOf, IsFaithfulImage}
use Rattle.checkpoint_sync.specs.LocksHeld.{AreaView, held_cells}

-- what lay in all locks, with these files
abbrev pub cells_with : AreaView → List Filed → Cells
cells_with area files = record (held_cells (λ f. f) area []) { files = files }

-- It was taken of these files, with all that lay in the locks of a main area then, whose parts keep their law. So it is
-- lawful, and it has the files' contents whatever the main blocks hold.
pub record IsTakenFrom (geometry : Geometry) (files : List Filed) (image : Image) : Type 0 where
  pub area : AreaView
  pub parts : ArePartsOf geometry (cells_with area files)
  pub assembled : IsImageOf geometry (parts_of (cells_with area files)) image
  pub faithful : IsFaithfulImage geometry (parts_of (cells_with area files)) image
