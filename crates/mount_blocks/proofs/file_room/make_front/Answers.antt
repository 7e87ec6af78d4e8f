use Rattle.std.proofs.Common.{arith}
use Rattle.image.specs.Image.{node_of}
use Rattle.image.specs.View.{image_view}
use Rattle.mount_blocks.proofs.file_room.make_front.Goals as goal

pub make_pair-requires-clause-fits : goal.make_pair-requires-clause-fits
make_pair-requires-clause-fits g c =
    (c.args.inode, c.requires.fits 0 (omega arith), c.requires.fits 1 (omega arith), λ h. absurd (omega arith))

pub free_node_room-requires : goal.free_node_room-requires
free_node_room-requires g c =
    record { room = (image_view c.args.image.now, (node_of (image_view c.args.image.now) c.args.inode).addresses, c.in_ok-tickets.ensures.room) }
