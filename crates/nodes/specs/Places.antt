-- The four ranges of a file's index, and the place of an index: the range that it falls to, and where in it.
use Rattle.std.specs.Prelude.{◌≡◌, ℕ, ◌+◌, ◌*◌, ◌^◌, ◌<◌, Option}
use Rattle.geometry.specs.declared.shape.Shape.{Shape}
use Rattle.geometry.specs.Path.{inode_entries, node_entries}
use Rattle.tickets.specs.Placed.{Placed}
use Rattle.nodes.specs.declared.branch.Branch.{Branch}
use Rattle.nodes.specs.declared.entries.Entries.{Entries}
use Rattle.nodes.specs.Tree.{ShapedIn}
use Rattle.nodes.specs.declared.file.FileState.{FileState}
use Rattle.nodes.specs.declared.place.Place.{Place}
use Rattle.nodes.specs.declared.place.Place.TheVariants.{InTickets, InDirect, InIndirect, InDouble}
use Rattle.nodes.specs.declared.place.Spot.{Spot}
use Rattle.nodes.specs.File.{shaped_direct, shaped_indirect, shaped_double}

-- the tickets of the inode itself, and what lies below its direct, indirect and double indirect nodes
pub data Range : Type 0 where
  OfTickets : Range
  OfDirect : Range
  OfIndirect : Range
  OfDouble : Range

-- what an entry of the inode names there
abbrev pub Named : Range → Type 0
Named OfTickets = Placed
Named OfDirect = Branch Placed
Named OfIndirect = Branch (Branch Placed)
Named OfDouble = Branch (Branch (Branch Placed))

-- how many indexes lie below one entry
abbrev pub span_of : Range → ℕ → ℕ
span_of OfTickets e = 1
span_of OfDirect e = e * 1
span_of OfIndirect e = e * (e * 1)
span_of OfDouble e = e * (e * (e * 1))

-- how many entries there are, and the first index that they hold
abbrev pub width_of : Range → Shape → ℕ
width_of OfTickets s = inode_entries s
width_of OfDirect s = 2
width_of OfIndirect s = 2
width_of OfDouble s = 1

abbrev pub first_of : Range → Shape → ℕ
first_of OfTickets s = 0
first_of OfDirect s = inode_entries s
first_of OfIndirect s = inode_entries s + 2 * node_entries s
first_of OfDouble s = inode_entries s + 2 * node_entries s + 2 * (node_entries s * node_entries s)

abbrev pub shaped_of : (r : Range) → ℕ → Option (Named r) → Type 0
shaped_of OfTickets e = λ _. Unit {0}
shaped_of OfDirect e = shaped_direct e
shaped_of OfIndirect e = shaped_indirect e
shaped_of OfDouble e = shaped_double e

module _ {B L : Type 0} where
  abbrev pub entries_of : (r : Range) → FileState B L → Entries (Named r)
  entries_of OfTickets f = f.tickets
  entries_of OfDirect f = f.direct
  entries_of OfIndirect f = f.indirect
  entries_of OfDouble f = f.double

  -- an index lies in a range, and a walk below its entries may begin
  pub record LiesIn (r : Range) (f : FileState B L) (i : ℕ) (spot : Spot) : Type 0 where
    pub count : spot.count ≡ width_of r f.shape
    pub entries : spot.entries ≡ node_entries f.shape
    pub index : i ≡ first_of r f.shape + spot.index
    pub some : 0 < spot.entries
    pub fits : span_of r spot.entries < 2 ^ 64
    pub inside : spot.index < spot.count * span_of r spot.entries
    pub shaped : ShapedIn (shaped_of r spot.entries) spot.count (entries_of r f).slots.items

  abbrev pub IsPlace : FileState B L → ℕ → Place → Type 0
  IsPlace f i (InTickets spot) = LiesIn OfTickets f i spot
  IsPlace f i (InDirect spot) = LiesIn OfDirect f i spot
  IsPlace f i (InIndirect spot) = LiesIn OfIndirect f i spot
  IsPlace f i (InDouble spot) = LiesIn OfDouble f i spot
