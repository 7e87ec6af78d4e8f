use Rattle.byte_files.proofs.Lists.{written_twice}
use Rattle.byte_files.proofs.laws.write_law.Goals as goal

pub returns : goal.returns
returns c = written_twice
