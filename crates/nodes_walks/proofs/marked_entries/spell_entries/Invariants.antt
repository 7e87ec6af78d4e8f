use Rattle.std.proofs.Common.{◌≡◌, length, map, take}
use Rattle.nodes_walks.proofs.marked_entries.spell_entries.Given as goal

abbrev pub invariant-loop-place : goal.invariant-loop-place
invariant-loop-place g l = (length l.numbers ≡ length l.slots.items) × (take l.place l.numbers ≡ map g.C.Subtree.number (take l.place l.slots.items))
