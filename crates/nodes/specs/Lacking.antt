-- The nodes that are made beside a file for the way to an index, and what is still to be made.
use Rattle.std.specs.Prelude.{ℕ, ◌+◌, ◌*◌, Option, Some, None}
use Rattle.rights_books.specs.declared.claim.TakenNumber.{TakenNumber}
use Rattle.geometry.specs.Path.{inode_entries, node_entries}
use Rattle.geometry.specs.declared.path.Path.{Path}
use Rattle.geometry.specs.declared.path.Path.TheVariants.{Inode, Direct, Indirect, Double}
use Rattle.tickets.specs.Placed.{Placed}
use Rattle.nodes.specs.declared.branch.Branch.{Branch}
use Rattle.nodes.specs.Tree.{number_of}
use Rattle.nodes.specs.declared.planting.SpareNodes.{SpareNodes}
use Rattle.nodes.specs.Spares.{lacking_in, lacking_below, token_weight, IsEmptyNode}
use Rattle.nodes.specs.declared.file.FileState.{FileState}
use Rattle.nodes.specs.declared.spare_path.SparePath.{SparePath}
use Rattle.nodes.specs.File.{joined}

-- spare nodes of one level, of two and of three
abbrev pub SpareDirect : Type 0 → Type 0
SpareDirect L = SpareNodes Placed (Unit {0}) Placed L

abbrev pub SpareIndirect : Type 0 → Type 0
SpareIndirect L = SpareNodes (Branch Placed) (SpareDirect L) Placed L

abbrev pub SpareDouble : Type 0 → Type 0
SpareDouble L = SpareNodes (Branch (Branch Placed)) (SpareIndirect L) Placed L

abbrev pub lacking_direct : {L : Type 0} → ℕ → Option (Branch Placed) → ℕ → SpareDirect L → ℕ
lacking_direct e slot i s = lacking_below (λ _ _ _. 0) 1 slot i s.node s.below

abbrev pub lacking_indirect : {L : Type 0} → ℕ → Option (Branch (Branch Placed)) → ℕ → SpareIndirect L → ℕ
lacking_indirect e slot i s = lacking_below (lacking_direct e) (e * 1) slot i s.node s.below

abbrev pub lacking_double : {L : Type 0} → ℕ → Option (Branch (Branch (Branch Placed))) → ℕ → SpareDouble L → ℕ
lacking_double e slot i s = lacking_below (lacking_indirect e) (e * (e * 1)) slot i s.node s.below

-- the entry at the end of a path
abbrev pub last_entry : Option Path → ℕ
last_entry None = 0
last_entry (Some (Inode s)) = s
last_entry (Some (Direct p s)) = s
last_entry (Some (Indirect p a s)) = s
last_entry (Some (Double a b s)) = s

module _ {B L : Type 0} where
  -- the nodes that neither stand on the way to an index nor were made for it
  abbrev pub lacking_to : FileState B L → ℕ → SparePath B L → ℕ
  lacking_to f i spares =
      let e = node_entries f.shape in
      joined (inode_entries f.shape) (λ _. 0)
      (joined (2 * e) (λ k. lacking_in (lacking_direct e) (e * 1) f.direct.slots.items k spares.nodes.below.below)
      (joined (2 * (e * e)) (λ k. lacking_in (lacking_indirect e) (e * (e * 1)) f.indirect.slots.items k spares.nodes.below)
      (λ k. lacking_in (lacking_double e) (e * (e * (e * 1))) f.double.slots.items k spares.nodes))) i

  -- what the tokens of the spare nodes weigh
  abbrev pub spare_tokens : (TakenNumber → ℕ) → SparePath B L → ℕ
  spare_tokens h spares = token_weight h spares.nodes.node + (token_weight h spares.nodes.below.node + (token_weight h spares.nodes.below.below.node + 0))

  -- each of them has so many entries, none of which names anything, and is still to be written
  abbrev pub AreEmptyNodes : ℕ → SparePath B L → Type 0
  AreEmptyNodes e spares =
      IsEmptyNode e spares.nodes.node × (IsEmptyNode e spares.nodes.below.node × (IsEmptyNode e spares.nodes.below.below.node × Unit {0}))

  -- the number of the spare node whose entries name tickets, 0 where there is none
  abbrev pub end_number : SparePath B L → ℕ
  end_number spares = number_of (λ b. b.token.number) spares.nodes.below.below.node
