use Rattle.image.proofs.Emptiness.{is_lawful, no_files, free_are}
use Rattle.image.proofs.empty.empty_law.Goals as goal

pub returns-clause-lawful : goal.returns-clause-lawful
returns-clause-lawful c = is_lawful

pub returns-clause-files : goal.returns-clause-files
returns-clause-files c = no_files

pub returns-clause-free : goal.returns-clause-free
returns-clause-free c = free_are
