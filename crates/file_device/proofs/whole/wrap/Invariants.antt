use Rattle.std.proofs.Common.{◌≡◌, ◌+◌, ◌≤◌, ◌++◌, All, map, length, vec_len, vec_capacity}
use Rattle.geometry.specs.Shape.{block_bytes}
use Rattle.std.specs.Arc.{arc_value}
use Rattle.std.specs.Vec.Iter.{into_iter_items}
use Rattle.device.specs.declared.memory.block.MemBlock.{MemBlock}
use Rattle.file_device.specs.Blocks.{content_of, place_of}
use Rattle.file_device.specs.Place.{block_place}
use Rattle.file_device.proofs.whole.wrap.Given as goal

abbrev pub invariant-loop-block : goal.invariant-loop-block
invariant-loop-block g l =
    (map (λ block. block.address) l.kept.items ++ map (λ (b : MemBlock). b.address) (into_iter_items l.block-iterator) ≡ map (λ (b : MemBlock). b.address) l.fn.device.parts.blocks.items)
    × (map content_of l.kept.items ++ map (λ (b : MemBlock). (arc_value b.bytes).items) (into_iter_items l.block-iterator)
    ≡ map (λ (b : MemBlock). (arc_value b.bytes).items) l.fn.device.parts.blocks.items)
    × (vec_len l.kept + length (into_iter_items l.block-iterator) ≤ vec_capacity l.kept)
    × All (λ block. place_of block ≡ block_place l.fn.geometry block.address) l.kept.items
    × All (λ (b : MemBlock). length (arc_value b.bytes).items ≡ block_bytes l.fn.geometry.shape) (into_iter_items l.block-iterator)
