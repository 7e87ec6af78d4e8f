-- What a clean answers.
use Rattle.std.specs.Prelude.{◌≡◌, ℕ, ◌+◌, ◌*◌, ◌/◌, ◌<◌, ◌≤◌, List, length, slice_index_or, Option, None}
use Rattle.geometry.specs.declared.geometry.Geometry.{Geometry}
use Rattle.geometry.specs.Shape.{segment_blocks}
use Rattle.victim.specs.declared.row.Candidate.{Candidate}
use Rattle.victim.specs.Choice.{IsRow, IsGreedyChoice, IsCostBenefitChoice}
use Rattle.cleaning.specs.declared.policy.Policy.{Policy}
use Rattle.cleaning.specs.declared.policy.Policy.TheVariants.{Foreground, Background}

-- the sections of a volume, and the blocks of one (Linux filesystems/f2fs: a section is a run of segments that is cleaned as one)
abbrev pub section_count : Geometry → ℕ
section_count g = g.segments / g.per_section

abbrev pub section_blocks : Geometry → ℕ
section_blocks g = g.per_section * segment_blocks g.shape

-- the row of a section of this number
pub record IsRowOf (g : Geometry) (section : ℕ) (row : Candidate) : Type 0 where
  pub number : row.section ≡ section
  pub size : row.size ≡ section_blocks g
  pub within : row.valid ≤ row.size
  pub fits : IsRow row

-- one row for each section, ascending
pub record AreRows (g : Geometry) (rows : List Candidate) : Type 0 where
  pub count : length rows ≡ section_count g
  pub each : (k : ℕ) (d : Candidate) → k < length rows → IsRowOf g k (slice_index_or rows k d)

abbrev pub IsChoiceBy : Policy → List Candidate → ℕ → Option ℕ → Type 0
IsChoiceBy Foreground rows now section = IsGreedyChoice rows section
IsChoiceBy Background rows now section = IsCostBenefitChoice rows now section

-- the rows, the section that was chosen of them, and how many of its blocks were moved and gone
pub record IsCleaned (g : Geometry) (policy : Policy) (now : ℕ) (rows : List Candidate) (section : Option ℕ) (moved gone : ℕ) : Type 0 where
  pub rows_are : AreRows g rows
  pub chosen : IsChoiceBy policy rows now section
  pub within : moved + gone ≤ section_blocks g
  pub none : section ≡ None → moved + gone ≡ 0
