use Rattle.image_law.proofs.Lawfulness.{assembly_holds}
use Rattle.image_law.proofs.assembly.assembly_law.Goals as goal

pub returns : goal.returns
returns c = assembly_holds
