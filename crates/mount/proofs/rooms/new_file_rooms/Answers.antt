-- Rooms are made in rising order of inodes, one for each that is taken, so those up to the present number stand; after
-- the last one each file has its room.
use Rattle.std.proofs.Common.{◌≡◌, ◌≢◌, ℕ, ◌+◌, set, Some, sym, ap, subst, ◌∙◌, arith}
use Rattle.image.specs.declared.image.NodeEntry.{NodeEntry}
use Rattle.image.specs.Image.{entry_of}
use Rattle.image.specs.View.{image_view}
use Rattle.mount_blocks.specs.FileLoaded.{IsFileRoom}
use Rattle.mount_blocks.proofs.Passing.{taken_of}
use Rattle.mount.proofs.Walks.{untaken}
use Rattle.mount.proofs.Standing.{AreUpTo, up_to_more, up_to_same, up_to_all}
use Rattle.mount.proofs.rooms.new_file_rooms.Goals as goal
use Rattle.mount.proofs.rooms.new_file_rooms.Goals.{then-entry-ne0+in-Ok, else-entry-ne0}

pub loop-before-preserved : goal.loop-before-preserved
loop-before-preserved g c =
    let geometry = c.args.geometry.now in
    let image = image_view c.args.image.now in
    let at = c.loop-before in
    let inode : ℕ = at.before + 1 in
    let entry = c.entry.result in
    let same : entry.address ≡ (entry_of image inode).address = ap (λ (e : NodeEntry). e.address) c.entry.ensures in
    elim c.if-entry-ne0.branch [
      | then-entry-ne0+in-Ok w ↦
          let some : (entry_of image inode).address ≢ 0 = λ z. (let none = same ∙ z in absurd (omega arith)) in
          let room = w.in-Ok.room in
          let rooms : c.if-entry-ne0.rooms.items ≡ set at.rooms.items inode (Some room) = ap (λ v. v.items) w.rooms-is ∙ w.put_at.ensures in
          subst (λ ts. AreUpTo geometry image (λ i r. IsFileRoom image i r) ts inode) (sym rooms)
          (up_to_more geometry image (λ i r. IsFileRoom image i r) at.rooms.items at.before room (omega arith) (taken_of image inode some) w.in-Ok.ensures.room at.invariant)
      | else-entry-ne0 w ↦
          let none : (entry_of image inode).address ≡ 0 = sym same ∙ omega arith in
          let rooms = ap (λ v. v.items) w.rooms-is in
          subst (λ ts. AreUpTo geometry image (λ i r. IsFileRoom image i r) ts inode) (sym rooms)
          (up_to_same geometry image (λ i r. IsFileRoom image i r) at.rooms.items at.before (untaken image inode none) at.invariant)
    ]

pub returns : goal.returns
returns g c =
    let geometry = c.args.geometry.now in
    let image = image_view c.args.image.now in
    let at = c.loop-before in
    let last : at.before ≡ geometry.files = omega arith in
    let all = subst (λ n. AreUpTo geometry image (λ i r. IsFileRoom image i r) at.rooms.items n) last at.invariant in
    record { places = all.places; each = up_to_all geometry image (λ i r. IsFileRoom image i r) at.rooms.items all }
