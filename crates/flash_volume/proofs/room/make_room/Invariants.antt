use Rattle.std.proofs.Common.{◌≡◌, ◌<◌, ◌≤◌}
use Rattle.file_cells.specs.Status.{all}
use Rattle.flash_volume.specs.declared.room.Ending.TheVariants.{Enough, NothingToWin}
use Rattle.flash_volume.proofs.room.make_room.Given as goal

abbrev pub invariant-loop : goal.invariant-loop
invariant-loop g l = record {
  counted : all l.room.status ≡ g.V.Numbers.GeometryName.geometry.segments;
  enough : l.room.ending ≡ Enough → l.wanted ≤ l.room.status.free;
  too_few : l.room.ending ≡ NothingToWin → l.room.status.free < l.wanted;
}
