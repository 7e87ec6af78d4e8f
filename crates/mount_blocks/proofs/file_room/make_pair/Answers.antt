use Rattle.std.proofs.Common.{ℕ, ◌+◌, List, sym, subst}
use Rattle.std.specs.Prelude.{slice_index, IfOk}
use Rattle.image.specs.Walk.{child}
use Rattle.image.specs.View.{image_view}
use Rattle.mount_blocks.specs.Loaded.{IsRoomFor}
use Rattle.mount_blocks.proofs.Children.{two_of, same_two}
use Rattle.mount_blocks.proofs.file_room.make_pair.Goals as goal

pub make_rooms-requires : goal.make_rooms-requires
make_rooms-requires g c =
    let image = image_view c.args.image.now in
    let fits = c.requires.fits in
    let P : ℕ → Type 0 = λ n. g.C.Load.fits image c.args.entries fits.0 n in
    record { fits = (fits.0, subst (λ (ns : List ℕ). (k : ℕ) → P (slice_index ns k)) (sym (same_two c.child.ensures c.child-2.ensures)) (two_of P (child image c.args.inode c.args.first) (child image c.args.inode (c.args.first + 1)) fits.1 fits.2 fits.3)) }

pub returns : goal.returns
returns g c =
    let image = image_view c.args.image.now in
    record { room = subst (λ ns. IfOk c.make_rooms.result (λ room. IsRoomFor (g.C.Load.roomy image) ns room)) (same_two c.child.ensures c.child-2.ensures) c.make_rooms.ensures.room }
