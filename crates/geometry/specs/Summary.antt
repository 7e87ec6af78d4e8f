-- The summary of a block: two numbers that tell who names it (Linux filesystems/f2fs, segment summary area).
use Rattle.std.specs.Prelude.{◌-◌, ◌^◌, ◌==◌, Option, Some, None, if◌then◌else◌}
use Rattle.geometry.specs.declared.owner.Owner.{Owner}
use Rattle.geometry.specs.declared.owner.Owner.TheVariants.{Node, Data}
use Rattle.geometry.specs.declared.owner.Summary.{Summary}

-- a node's slot is the largest number
abbrev pub summary_of : Owner → Summary
summary_of (Node nid) = record { nid = nid; slot = 2 ^ 32 - 1 }
summary_of (Data nid slot) = record { nid = nid; slot = slot }

-- no node has the number 0
abbrev pub owner_in : Summary → Option Owner
owner_in summary =
    if summary.nid == 0 then None
    else if summary.slot == 2 ^ 32 - 1 then Some (Node summary.nid)
    else Some (Data summary.nid summary.slot)
