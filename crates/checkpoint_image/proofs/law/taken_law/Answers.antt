use Rattle.checkpoint_image.proofs.Laws.{taken_holds}
use Rattle.checkpoint_image.proofs.law.taken_law.Goals as goal

pub returns : goal.returns
returns c = taken_holds
