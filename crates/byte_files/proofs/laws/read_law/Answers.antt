use Rattle.byte_files.proofs.Lists.{read_written}
use Rattle.byte_files.proofs.laws.read_law.Goals as goal

pub returns : goal.returns
returns c = read_written
