-- What follows where the books balance: the assembled image is lawful, has the files' contents, and names exactly what is marked.
use Rattle.geometry.specs.declared.owner.Mark.{Mark}
use Rattle.std.specs.Prelude.{◌≡◌, ◌≤◌, ℕ}
use Rattle.geometry.specs.declared.geometry.Geometry.{Geometry}
use Rattle.geometry.specs.File.{Block}
use Rattle.image.specs.Image.{Image}
use Rattle.image.specs.Walk.{names}
use Rattle.image.specs.Files.{files}
use Rattle.image.specs.Rules.{IsLawful}
use Rattle.geometry.specs.Weights.{weigh}
use Rattle.image_law.specs.Parts.{SegmentState, Parts, PartsLaw, Balanced}
use Rattle.image_law.specs.Contents.{contents}
use Rattle.image_law.specs.Assembled.{assembled, AreSpelled}

pub record IsFaithful (geometry : Geometry) (parts : Parts) (blocks : ℕ → Block) (image : Image) : Type 0 where
  pub lawful : IsLawful geometry image
  pub files : files geometry image blocks ≡ contents geometry.shape blocks parts geometry.files
  pub names : (h : Mark → ℕ) → weigh h (names geometry image) ≡ weigh (λ (s : SegmentState). weigh h s.marks) parts.segments

abbrev pub AssemblyLaw : Type 0
AssemblyLaw =
    (geometry : Geometry) (version : ℕ) (parts : Parts) (blocks : ℕ → Block)
    → 1 ≤ version → PartsLaw geometry parts → Balanced parts → AreSpelled geometry parts blocks
    → IsFaithful geometry parts blocks (assembled geometry version parts blocks)
