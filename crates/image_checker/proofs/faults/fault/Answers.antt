use Rattle.std.proofs.Common.{arith}
use Rattle.image.specs.View.{image_view}
use Rattle.image_checker.proofs.FaultLemmas.{fault_join}
use Rattle.image_checker.proofs.faults.fault.Goals as goal

pub returns : goal.returns
returns c =
    let g = c.args.geometry.now in
    let i = image_view c.args.image.now in
    let trees = rw c.in-None-2.is at c.in_ok-k.ensures in
    fault_join g i 1 4 11 c.in_ok-found.found (omega arith) c.in-None.ensures
    (fault_join g i 4 6 11 c.in_ok-found.found (omega arith) trees c.in_ok-found.ensures)
