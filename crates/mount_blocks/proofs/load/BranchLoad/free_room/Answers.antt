use Rattle.image.specs.Image.{node_of}
use Rattle.mount_blocks.specs.Loaded.{numbers_in}
use Rattle.mount_blocks.proofs.load.BranchLoad.free_room.Goals as goal

pub free_node_room-requires : goal.free_node_room-requires
free_node_room-requires g c =
    let room = rw c.in-Some.is at c.requires.room in
    record { room = (room.0, numbers_in g.C.Subtree.is_leaf (node_of room.0 room.1), room.2.1) }
