-- What the parts of a device in memory show.
use Rattle.std.proofs.Common.{ℕ, List}
use Rattle.std.specs.Arc.{arc_value}
use Rattle.device.specs.declared.memory.block.MemBlock.{MemBlock}
use Rattle.device.specs.declared.memory.meta.MemMeta.{MemMeta}

abbrev pub seen : MemMeta → List ℕ
seen meta = meta.bytes.items

abbrev pub address : MemBlock → ℕ
address block = block.address

abbrev pub content : MemBlock → List ℕ
content block = (arc_value block.bytes).items
