use Rattle.std.proofs.Common.{◌≡◌, ◌+◌, ◌≤◌, ◌++◌, map, length, vec_len, vec_capacity}
use Rattle.std.specs.Vec.Iter.{into_iter_items}
use Rattle.program_run.proofs.disk.without_faults.Given as goal

abbrev pub invariant-loop-block : goal.invariant-loop-block
invariant-loop-block l =
    (l.plain.items ++ map (λ block. block.inner) (into_iter_items l.block-iterator) ≡ map (λ block. block.inner) l.fn.parts.blocks.items)
    × (vec_len l.plain + length (into_iter_items l.block-iterator) ≤ vec_capacity l.plain)
