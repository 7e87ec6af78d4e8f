use Rattle.std.proofs.Common.{arith}
use Rattle.mount_blocks.proofs.file_room.make_back.Goals as goal

pub make_pair-requires-clause-fits : goal.make_pair-requires-clause-fits
make_pair-requires-clause-fits g c =
    (c.args.inode, c.requires.indirect 0 (omega arith), c.requires.indirect 1 (omega arith), λ h. absurd (omega arith))

pub make_last-requires : goal.make_last-requires
make_last-requires g c = record { fits = (c.args.inode, c.requires.double, λ h. absurd (omega arith)) }
