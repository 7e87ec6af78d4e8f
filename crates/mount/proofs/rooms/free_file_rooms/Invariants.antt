use Rattle.std.proofs.Common.{vec_len}
use Rattle.mount.specs.MountFiles.{AreOfFiles}
use Rattle.mount.proofs.rooms.free_file_rooms.Given as goal

abbrev pub invariant-loop-place : goal.invariant-loop-place
invariant-loop-place g l = AreOfFiles l.rooms.items

abbrev pub decreases-loop-place : goal.decreases-loop-place
decreases-loop-place g l = vec_len l.rooms
