use Rattle.std.proofs.Common.{arith}
use Rattle.packs.proofs.packs.Packs.side_for.Goals as goal

pub equals-requires-clause-within : goal.equals-requires-clause-within
equals-requires-clause-within g c = omega (arith, c.part_at-at.ensures.within, c.part_of-bytes.ensures.long, c.requires.area.long)

pub equals-requires-clause-fits : goal.equals-requires-clause-fits
equals-requires-clause-fits g c = omega (arith, c.part_at-at.ensures.within, c.part_of-bytes.ensures.long, c.requires.area.fits)
