use Rattle.checkpoint_image.proofs.Laws.{audit_holds}
use Rattle.checkpoint_image.proofs.law.audit_law.Goals as goal

pub returns : goal.returns
returns c = audit_holds
