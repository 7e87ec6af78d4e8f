use Rattle.std.proofs.Common.{ℕ, [], ◌∷◌, subst}
use Rattle.image.specs.Image.{Image}
use Rattle.geometry.proofs.Indexing.{EachAt, each_front}
use Rattle.mount_blocks.proofs.entries.free_rooms.Goals as goal

pub loop-room-preserved : goal.loop-room-preserved
loop-room-preserved g c =
    let P : ℕ → g.row.C-Room.Denot → Type 0 = λ k r. (image : Image) × (number : ℕ) × g.C.Load.roomy image number r in
    each_front P c.pop.new.self.items (c.in-Some.room ∷ []) (subst (EachAt P) c.in-Some.ensures.items c.loop-room.invariant)
