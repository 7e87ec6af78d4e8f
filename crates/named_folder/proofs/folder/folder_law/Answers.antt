use Rattle.named_folder.proofs.Spelling.{rows_unique}
use Rattle.named_folder.proofs.folder.folder_law.Goals as goal

pub returns : goal.returns
returns c = rows_unique
