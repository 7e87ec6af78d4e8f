use Rattle.checkpoint_image.proofs.Laws.{image_holds}
use Rattle.checkpoint_image.proofs.law.image_law.Goals as goal

pub returns : goal.returns
returns c = image_holds
