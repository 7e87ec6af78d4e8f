use Rattle.std.proofs.Common.{subst, arith}
use Rattle.image.specs.Rules.{HaveOwnAddresses}
use Rattle.image.specs.View.{image_view}
use Rattle.image_checker.proofs.FaultLemmas.{kept_none, kept_more, fault_join}
use Rattle.image_checker.proofs.faults.names_fault.Goals as goal

pub returns-in-Some : goal.returns-in-Some
returns-in-Some c =
    let g = c.args.geometry.now in
    let i = image_view c.args.image.now in
    let found = rw c.in-Some.is at c.in_ok-named.ensures in
    let apart = subst HaveOwnAddresses found.0 c.in-Some.named.named.apart in
    fault_join g i 6 7 11 c.named_fault.result (omega arith) (kept_more g i 6 6 (kept_none g i 6) apart) c.named_fault.ensures
