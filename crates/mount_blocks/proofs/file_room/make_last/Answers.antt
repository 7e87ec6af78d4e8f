use Rattle.std.proofs.Common.{ℕ, List, sym, subst}
use Rattle.std.specs.Prelude.{slice_index, IfOk}
use Rattle.image.specs.Walk.{child}
use Rattle.image.specs.View.{image_view}
use Rattle.mount_blocks.specs.Loaded.{IsRoomFor}
use Rattle.mount_blocks.proofs.Children.{one_of, same_one}
use Rattle.mount_blocks.proofs.file_room.make_last.Goals as goal

pub make_rooms-requires : goal.make_rooms-requires
make_rooms-requires g c =
    let image = image_view c.args.image.now in
    let fits = c.requires.fits in
    let P : ℕ → Type 0 = λ n. g.C.Load.fits image c.args.entries fits.0 n in
    record { fits = (fits.0, subst (λ (ns : List ℕ). (k : ℕ) → P (slice_index ns k)) (sym (same_one c.child.ensures)) (one_of P (child image c.args.inode 4) fits.1 fits.2)) }

pub returns : goal.returns
returns g c =
    let image = image_view c.args.image.now in
    record { room = subst (λ ns. IfOk c.make_rooms.result (λ room. IsRoomFor (g.C.Load.roomy image) ns room)) (same_one c.child.ensures) c.make_rooms.ensures.room }
