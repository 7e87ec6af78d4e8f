use Rattle.image.specs.View.{image_view}
use Rattle.mount_blocks.specs.FileLoaded.{IsFileRoom}
use Rattle.mount.proofs.Standing.{AreUpTo}
use Rattle.mount.proofs.rooms.new_file_rooms.Given as goal

abbrev pub invariant-loop-before : goal.invariant-loop-before
invariant-loop-before g l = AreUpTo l.geometry (image_view l.image) (λ i room. IsFileRoom (image_view l.image) i room) l.rooms.items l.before
