use Rattle.std.proofs.Common.{ℕ, ◌+◌, ◌<◌, [], ◌∷◌, sym, subst}
use Rattle.image.specs.Image.{node_of}
use Rattle.image.specs.Walk.{child}
use Rattle.image.specs.View.{image_view}
use Rattle.mount_blocks.specs.FileLoaded.{fits_indirect, fits_double}
use Rattle.mount_blocks.proofs.file_room.make_file_room.Goals as goal

pub make_back-requires-clause-indirect : goal.make_back-requires-clause-indirect
make_back-requires-clause-indirect g c =
    subst (λ e. (k : ℕ) → k < 2 → fits_indirect (image_view c.args.image.now) e c.args.inode (child (image_view c.args.image.now) c.args.inode (2 + k))) (sym c.node_entries-entries.ensures) c.requires.fits.indirect

pub make_back-requires-clause-double : goal.make_back-requires-clause-double
make_back-requires-clause-double g c =
    subst (λ e. fits_double (image_view c.args.image.now) e c.args.inode (child (image_view c.args.image.now) c.args.inode 4)) (sym c.node_entries-entries.ensures) c.requires.fits.double

pub free_node_room-requires : goal.free_node_room-requires
free_node_room-requires g c =
    let image = image_view c.args.image.now in
    record { room = (image, (node_of image c.args.inode).addresses, c.in_ok-tickets.ensures.tickets) }

pub free_node_room-requires-in-Err : goal.free_node_room-requires-in-Err
free_node_room-requires-in-Err g c =
    let image = image_view c.args.image.now in
    record { room = (image, child image c.args.inode 0 ∷ child image c.args.inode 1 ∷ [], c.in_ok-tickets.ensures.direct) }
