use Rattle.pack_tables.proofs.Same.{law_holds}
use Rattle.pack_tables.proofs.one_image.one_image_law.Goals as goal

pub returns : goal.returns
returns c = law_holds
