-- What follows for the parts of an image where all that lies in the locks keeps its law, and a settled audit has learned it.
use Rattle.std.specs.Prelude.{◌≡◌, ℕ, List}
use Rattle.geometry.specs.declared.geometry.Geometry.{Geometry}
use Rattle.geometry.specs.declared.owner.Mark.{Mark}
use Rattle.geometry.specs.File.{Block}
use Rattle.geometry.specs.Weights.{weigh}
use Rattle.rights_books.specs.declared.claim.Copied.{Copied}
use Rattle.rights_books.specs.Rules.{Balanced as AreSettled}
use Rattle.image.specs.Image.{Image}
use Rattle.image.specs.Reading.{read_nodes}
use Rattle.image.specs.Walk.{names}
use Rattle.image.specs.Files.{files}
use Rattle.image.specs.Rules.{IsLawful}
use Rattle.image_law.specs.Parts.{SegmentState, Parts, PartsLaw, Balanced, IsImageOf}
use Rattle.image_law.specs.Contents.{contents}
use Rattle.image_law.specs.Assembled.{AreSpelled}
use Rattle.checkpoint_image.specs.Cells.{Cells, CellsLaw, parts_of}
use Rattle.checkpoint_image.specs.Audited.{AreCopies}
use Rattle.checkpoint_image.specs.Blocks.{HoldNodes, blocks_of}
use Rattle.checkpoint_image.specs.Taken.{AreSized, IsTakenOf}

-- the parts keep their law and balance, and main blocks that hold the nodes spell them
pub record ArePartsOf (geometry : Geometry) (cells : Cells) : Type 0 where
  pub law : PartsLaw geometry (parts_of cells)
  pub balanced : Balanced (parts_of cells)
  pub spelled : (blocks : ℕ → Block) → HoldNodes blocks cells → AreSpelled geometry (parts_of cells) blocks

abbrev pub AuditLaw : Type 0
AuditLaw =
    (geometry : Geometry) (cells : Cells) (copies : List Copied)
    → CellsLaw geometry cells → AreCopies cells copies → AreSettled copies → ArePartsOf geometry cells

-- What follows of an image of parts that keep their law and balance: it keeps all ten rules, it has their files whatever the
-- main blocks hold, and its names are exactly what is marked.
pub record IsFaithfulImage (geometry : Geometry) (parts : Parts) (image : Image) : Type 0 where
  pub lawful : IsLawful geometry image
  pub files_are : (blocks : ℕ → Block) → files geometry image blocks ≡ contents geometry.shape blocks parts geometry.files
  pub names_are : (h : Mark → ℕ) → weigh h (names geometry image) ≡ weigh (λ (s : SegmentState). weigh h s.marks) parts.segments

abbrev pub ImageLaw : Type 0
ImageLaw =
    (geometry : Geometry) (parts : Parts) (image : Image)
    → PartsLaw geometry parts → Balanced parts → IsImageOf geometry parts image → IsFaithfulImage geometry parts image

-- an image that is taken of such parts is theirs
abbrev pub TakenLaw : Type 0
TakenLaw =
    (geometry : Geometry) (parts : Parts) (image : Image)
    → PartsLaw geometry parts → Balanced parts → AreSized geometry parts → IsTakenOf geometry parts image
    → IsImageOf geometry parts image × IsFaithfulImage geometry parts image

-- the nodes of an image of such parts are those that its table reads out of main blocks that spell them
abbrev pub ReadLaw : Type 0
ReadLaw =
    (geometry : Geometry) (parts : Parts) (image : Image) (blocks : ℕ → Block)
    → PartsLaw geometry parts → Balanced parts → IsImageOf geometry parts image → AreSpelled geometry parts blocks
    → image.nodes ≡ read_nodes geometry.shape blocks image.node_table

-- there are such main blocks
abbrev pub BlocksLaw : Type 0
BlocksLaw =
    (geometry : Geometry) (cells : Cells) (copies : List Copied)
    → CellsLaw geometry cells → AreCopies cells copies → AreSettled copies → HoldNodes (blocks_of cells) cells
