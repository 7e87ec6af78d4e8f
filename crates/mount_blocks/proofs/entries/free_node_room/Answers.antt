use Rattle.std.proofs.Common.{◌-◌, length}
use Rattle.std.specs.Prelude.{slice_index}
use Rattle.mount_blocks.proofs.entries.free_node_room.Goals as goal

pub free_rooms-requires : goal.free_rooms-requires
free_rooms-requires g c =
    let room = c.requires.room in
    record { rooms = λ k other h. (room.0, slice_index room.1 (length c.args.room.below.items - 1 - k), room.2.below k other h) }
