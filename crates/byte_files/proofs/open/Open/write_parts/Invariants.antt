use Rattle.std.proofs.Common.{◌≡◌, ◌-◌, ◌≤◌, length, take}
use Rattle.geometry.specs.Shape.{block_bytes}
use Rattle.byte_files.specs.Calls.{IsWrittenAt}
use Rattle.byte_files.proofs.open.Open.write_parts.Given as goal

-- the bytes in front are written
abbrev pub invariant-parts : goal.invariant-parts
invariant-parts g l =
    let size = block_bytes g.V.Numbers.GeometryName.geometry.shape in
    (l.done ≤ length l.bytes) × (length l.block ≡ size) × IsWrittenAt size l.at (take l.done l.bytes) l.fn.pass.file l.pass.file
    × (l.pass.number ≡ l.fn.pass.number) × (l.pass.file.kind ≡ l.fn.pass.file.kind)

abbrev pub decreases-parts : goal.decreases-parts
decreases-parts g l = length l.bytes - l.done
