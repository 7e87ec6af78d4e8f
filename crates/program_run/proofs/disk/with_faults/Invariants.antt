use Rattle.std.proofs.Common.{◌≡◌, ◌+◌, ◌≤◌, ◌++◌, map, length, vec_len, vec_capacity}
use Rattle.std.specs.Vec.Iter.{into_iter_items}
use Rattle.program_run.proofs.disk.with_faults.Given as goal

abbrev pub invariant-loop-block : goal.invariant-loop-block
invariant-loop-block l =
    (map (λ block. block.inner) l.faulty.items ++ into_iter_items l.block-iterator ≡ l.fn.device.parts.blocks.items)
    × (vec_len l.faulty + length (into_iter_items l.block-iterator) ≤ vec_capacity l.faulty)
