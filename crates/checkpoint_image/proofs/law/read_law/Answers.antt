use Rattle.checkpoint_image.proofs.Laws.{read_holds}
use Rattle.checkpoint_image.proofs.law.read_law.Goals as goal

pub returns : goal.returns
returns c = read_holds
