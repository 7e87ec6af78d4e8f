use Rattle.checkpoint_image.proofs.Laws.{blocks_law_holds}
use Rattle.checkpoint_image.proofs.law.blocks_law.Goals as goal

pub returns : goal.returns
returns c = blocks_law_holds
