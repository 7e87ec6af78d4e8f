-- Who names the block at an index: the node that has its address, and at which entry (Linux filesystems/f2fs, segment
-- summary area).
use Rattle.std.specs.Prelude.{◌≡◌, ◌-◌, ◌*◌, ℕ, true, false, Option, Some, None}
use Rattle.geometry.specs.Path.{inode_entries, node_entries, path}
use Rattle.tickets.specs.Placed.{Placed}
use Rattle.geometry.specs.declared.path.Path.{Path}
use Rattle.geometry.specs.declared.path.Path.TheVariants.{Inode, Direct, Indirect, Double}
use Rattle.geometry.specs.declared.owner.Owner.{Owner}
use Rattle.geometry.specs.declared.owner.Owner.TheVariants.{Data}
use Rattle.nodes.specs.declared.branch.Branch.{Branch}
use Rattle.nodes.specs.Tree.{entry_at, find_in, namer_below}
use Rattle.nodes.specs.Change.{of_tokens, unnumbered}
use Rattle.nodes.specs.declared.file.FileState.{FileState}
use Rattle.nodes.specs.File.{joined, below, weight_of, ticket_at}

-- an entry of a node, which may be missing
abbrev pub owner_in : {C : Type 0} → Option (Branch C) → ℕ → Option Owner
owner_in None s = None
owner_in (Some b) s = Some (Data b.token.number s)

-- the node of a number, and an entry of it
abbrev pub named_by : Option ℕ → ℕ → Option Owner
named_by None s = None
named_by (Some n) s = Some (Data n s)

-- the number of the node whose entries hold an index, below an entry of the inode
abbrev pub namer_direct : ℕ → Option (Branch Placed) → ℕ → Option ℕ
namer_direct e = namer_below (λ b. b.token.number) (λ b. b.entries.slots.items) true (λ _ _. None) 1

abbrev pub namer_indirect : ℕ → Option (Branch (Branch Placed)) → ℕ → Option ℕ
namer_indirect e = namer_below (λ b. b.token.number) (λ b. b.entries.slots.items) false (namer_direct e) (e * 1)

abbrev pub namer_double : ℕ → Option (Branch (Branch (Branch Placed))) → ℕ → Option ℕ
namer_double e = namer_below (λ b. b.token.number) (λ b. b.entries.slots.items) false (namer_indirect e) (e * (e * 1))

module _ {B L : Type 0} where
  -- the number of the node whose entries hold an index
  abbrev pub namer_at : FileState B L → ℕ → Option ℕ
  namer_at f =
      let e = node_entries f.shape in
      joined (inode_entries f.shape) (λ _. Some f.token.number)
      (joined (2 * e) (find_in (namer_direct e) (e * 1) f.direct.slots.items)
      (joined (2 * (e * e)) (find_in (namer_indirect e) (e * (e * 1)) f.indirect.slots.items)
      (find_in (namer_double e) (e * (e * (e * 1))) f.double.slots.items)))

  -- each node of the file has a number
  abbrev pub HasNumbers : FileState B L → Type 0
  HasNumbers f = weight_of f (of_tokens unnumbered) ≡ 0

  -- the entry at the end of a path
  abbrev pub owner_at : FileState B L → Option Path → Option Owner
  owner_at f None = None
  owner_at f (Some (Inode s)) = Some (Data f.token.number s)
  owner_at f (Some (Direct p s)) = owner_in (entry_at f.direct.slots.items p) s
  owner_at f (Some (Indirect p a s)) = owner_in (below (entry_at f.indirect.slots.items (p - 2)) a) s
  owner_at f (Some (Double a b s)) = owner_in (below (below (entry_at f.double.slots.items 0) a) b) s

  -- who owns the block of a ticket is who names it
  abbrev pub AreNamed : FileState B L → Type 0
  AreNamed f = (i : ℕ) (t : Placed) → ticket_at f i ≡ Some t → owner_at f (path f.shape i) ≡ Some t.mark.owner
