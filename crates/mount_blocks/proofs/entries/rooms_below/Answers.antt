use Rattle.std.proofs.Common.{◌-◌, length}
use Rattle.std.specs.Prelude.{slice_index}
use Rattle.image.specs.View.{image_view}
use Rattle.mount_blocks.proofs.entries.rooms_below.Goals as goal

pub free_rooms-requires : goal.free_rooms-requires
free_rooms-requires g c = record {
  rooms = λ k other h. (
    image_view c.args.image.now,
    slice_index c.args.numbers.now (length c.args.numbers.now - 1 - k),
    c.loop-place.invariant.rooms k other h,
  );
}
