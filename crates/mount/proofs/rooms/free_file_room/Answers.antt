use Rattle.std.proofs.Common.{◌∷◌, []}
use Rattle.image.specs.Image.{node_of}
use Rattle.image.specs.Walk.{child}
use Rattle.mount.proofs.rooms.free_file_room.Goals as goal

pub free_node_room-requires : goal.free_node_room-requires
free_node_room-requires g c = record { room = (c.requires.0, (node_of c.requires.0 c.requires.1).addresses, c.requires.2.tickets) }

pub free_node_room-requires-2 : goal.free_node_room-requires-2
free_node_room-requires-2 g c = record { room = (c.requires.0, child c.requires.0 c.requires.1 0 ∷ child c.requires.0 c.requires.1 1 ∷ [], c.requires.2.direct) }

pub free_node_room-requires-3 : goal.free_node_room-requires-3
free_node_room-requires-3 g c = record { room = (c.requires.0, child c.requires.0 c.requires.1 2 ∷ child c.requires.0 c.requires.1 3 ∷ [], c.requires.2.indirect) }

pub free_node_room-requires-4 : goal.free_node_room-requires-4
free_node_room-requires-4 g c = record { room = (c.requires.0, child c.requires.0 c.requires.1 4 ∷ [], c.requires.2.double) }
