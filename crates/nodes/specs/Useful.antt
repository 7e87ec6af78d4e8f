-- Which nodes of a file name something: between calls each does, but for the inode (Linux filesystems/f2fs: nodes that a cut
-- empties are given back).
use Rattle.std.specs.Prelude.{Bool, true, not, ◌||◌, ◌&&◌, ◌+◌, ◌*◌, ℕ, nat_lt, Option}
use Rattle.geometry.specs.Path.{inode_entries, node_entries}
use Rattle.tickets.specs.Placed.{Placed}
use Rattle.nodes.specs.declared.branch.Branch.{Branch}
use Rattle.nodes.specs.Tree.{UsefulIn, UsefulBelow}
use Rattle.nodes.specs.declared.file.FileState.{FileState}

-- Which nodes are asked about, by the first index that they hold and the end of them: all,
abbrev pub each_node : ℕ → ℕ → Bool
each_node first end = true

-- those that hold an index, and those that don't,
abbrev pub holds : ℕ → ℕ → ℕ → Bool
holds i first end = not (nat_lt i first) && nat_lt i end

abbrev pub is_off : ℕ → ℕ → ℕ → Bool
is_off i first end = nat_lt i first || not (nat_lt i end)

-- those that reach past an index, and those that don't
abbrev pub reaches : ℕ → ℕ → ℕ → Bool
reaches i first end = nat_lt i end

abbrev pub ends_by : ℕ → ℕ → ℕ → Bool
ends_by i first end = not (nat_lt i end)

abbrev pub useful_direct : ℕ → (ℕ → ℕ → Bool) → ℕ → Option (Branch Placed) → Type 0
useful_direct e = UsefulBelow (λ b. b.entries.slots.items) (λ _ _ _. Unit {0}) 1 e

abbrev pub useful_indirect : ℕ → (ℕ → ℕ → Bool) → ℕ → Option (Branch (Branch Placed)) → Type 0
useful_indirect e = UsefulBelow (λ b. b.entries.slots.items) (useful_direct e) (e * 1) e

abbrev pub useful_double : ℕ → (ℕ → ℕ → Bool) → ℕ → Option (Branch (Branch (Branch Placed))) → Type 0
useful_double e = UsefulBelow (λ b. b.entries.slots.items) (useful_indirect e) (e * (e * 1)) e

module _ {B L : Type 0} where
  -- each node below the inode that is asked about names something
  pub record IsUseful (asked : ℕ → ℕ → Bool) (f : FileState B L) : Type 0 where
    pub direct : (let e = node_entries f.shape in UsefulIn (useful_direct e) (e * 1) asked (inode_entries f.shape) f.direct.slots.items)
    pub indirect : (let e = node_entries f.shape in UsefulIn (useful_indirect e) (e * (e * 1)) asked (inode_entries f.shape + 2 * e) f.indirect.slots.items)
    pub double : (let e = node_entries f.shape in UsefulIn (useful_double e) (e * (e * (e * 1))) asked (inode_entries f.shape + 2 * e + 2 * (e * e)) f.double.slots.items)
