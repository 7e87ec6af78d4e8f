use Rattle.image.proofs.Picking.{between_picks, settled_picks}
use Rattle.packs.specs.Pack.{slots_in}
use Rattle.packs.proofs.law.crash_law.Goals as goal

pub returns-clause-between : goal.returns-clause-between
returns-clause-between c = λ reading old new area between. between_picks (slots_in reading area) old new between

pub returns-clause-settled : goal.returns-clause-settled
returns-clause-settled c = λ reading old area settled. settled_picks (slots_in reading area) old settled
