use Rattle.byte_files.proofs.Lists.{written_at_end}
use Rattle.byte_files.proofs.laws.append_law.Goals as goal

pub returns : goal.returns
returns c = written_at_end
