use Rattle.std.proofs.Common.{ℕ, ◌+◌, List, ap, sym, subst, arith}
use Rattle.std.specs.Prelude.{slice_index}
use Rattle.image.specs.Walk.{child}
use Rattle.image.specs.View.{image_view}
use Rattle.mount_blocks.specs.Loaded.{weigh_from, IsRoomFor, AreLoaded}
use Rattle.mount_blocks.proofs.Children.{two_of, same_two}
use Rattle.mount_blocks.proofs.file_tree.load_pair.Goals as goal

pub load_entries-requires-clause-fits : goal.load_entries-requires-clause-fits
load_entries-requires-clause-fits g c =
    let image = image_view c.args.image.now in
    let fits = c.requires.fits in
    let P : ℕ → Type 0 = λ n. g.C.Load.fits image c.args.entries fits.0 n in
    (fits.0, subst (λ (ns : List ℕ). (k : ℕ) → P (slice_index ns k)) (sym (same_two c.child.ensures c.child-2.ensures)) (two_of P (child image c.args.inode c.args.first) (child image c.args.inode (c.args.first + 1)) fits.1 fits.2 fits.3))

pub load_entries-requires-clause-room : goal.load_entries-requires-clause-room
load_entries-requires-clause-room g c =
    let image = image_view c.args.image.now in
    subst (λ ns. IsRoomFor (g.C.Load.roomy image) ns c.args.room) (sym (same_two c.child.ensures c.child-2.ensures)) c.requires.room

pub load_entries-requires-clause-there : goal.load_entries-requires-clause-there
load_entries-requires-clause-there g c = λ h.
    let image = image_view c.args.image.now in
    let same = ap (weigh_from (g.C.Load.names image h c.args.inode) 0) (same_two c.child.ensures c.child-2.ensures) in
    let all = c.requires.there h in
    omega arith

pub returns-clause-loaded : goal.returns-clause-loaded
returns-clause-loaded g c =
    let image = image_view c.args.image.now in
    subst (λ ns. AreLoaded (g.C.Load.loaded image c.args.stock.now.all c.args.inode) ns c.load_entries.result.slots.items) (same_two c.child.ensures c.child-2.ensures) c.load_entries.ensures.loaded

pub returns-clause-taken : goal.returns-clause-taken
returns-clause-taken g c = λ h.
    let image = image_view c.args.image.now in
    let same = ap (weigh_from (g.C.Load.names image h c.args.inode) 0) (same_two c.child.ensures c.child-2.ensures) in
    let all = c.load_entries.ensures.taken h in
    omega arith
