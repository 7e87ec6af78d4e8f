use Rattle.byte_files.proofs.Lists.{length_truncated, front_truncated}
use Rattle.byte_files.proofs.laws.truncate_law.Goals as goal

pub returns-clause-count : goal.returns-clause-count
returns-clause-count c = length_truncated

pub returns-clause-front : goal.returns-clause-front
returns-clause-front c = front_truncated
