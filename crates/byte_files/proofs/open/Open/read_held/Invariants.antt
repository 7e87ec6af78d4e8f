use Rattle.std.proofs.Common.{◌≡◌, ◌-◌, ◌≤◌, length, take, drop}
use Rattle.geometry.specs.Shape.{block_bytes}
use Rattle.image_reading.specs.Content.{all_bytes}
use Rattle.byte_files.proofs.open.Open.read_held.Given as goal

-- the bytes in front are read
abbrev pub invariant-parts : goal.invariant-parts
invariant-parts g l =
    let size = block_bytes g.V.Numbers.GeometryName.geometry.shape in
    (l.done ≤ length l.out) × (length l.block ≡ size) × (take l.done l.out ≡ take l.done (drop l.at (all_bytes size l.pass.file)))

abbrev pub decreases-parts : goal.decreases-parts
decreases-parts g l = length l.initial.out - l.done
