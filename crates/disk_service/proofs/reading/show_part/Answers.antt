-- What lies behind the part was not written.
use Rattle.std.proofs.Common.{rules}
use Rattle.std.proofs.lemmas.Slice.{overwrites}
use Rattle.disk_service.proofs.reading.show_part.Goals as goal

pub returns-then-out-block-clause-behind : goal.returns-then-out-block-clause-behind
returns-then-out-block-clause-behind g c = search (rules, overwrites)

pub returns-else-out-block-clause-behind : goal.returns-else-out-block-clause-behind
returns-else-out-block-clause-behind g c = search (rules, overwrites)
