-- Who may name a block, so that a summary of two numbers can tell it (Linux filesystems/f2fs, segment summaries).
use Rattle.std.specs.Prelude.{◌<◌, ◌-◌, ◌^◌}
use Rattle.geometry.specs.declared.owner.Owner.{Owner}
use Rattle.geometry.specs.declared.owner.Owner.TheVariants.{Node, Data}

-- node numbers begin at 1, and the largest slot number stands for a node
abbrev pub IsOwner : Owner → Type 0
IsOwner (Node nid) = 0 < nid
IsOwner (Data nid slot) = (0 < nid) × (slot < 2 ^ 32 - 1)
