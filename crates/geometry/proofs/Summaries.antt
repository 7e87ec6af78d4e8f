-- A summary tells the owner that it is of.
use Rattle.std.proofs.Common.{◌≡◌, Some, arith}
use Rattle.geometry.specs.declared.owner.Owner.{Owner}
use Rattle.geometry.specs.declared.owner.Owner.TheVariants.{Node, Data}
use Rattle.geometry.specs.Owner.{IsOwner}
use Rattle.geometry.specs.Summary.{summary_of, owner_in}
use Rattle.std.proofs.lemmas.Grind.{common_steps}

pub owner_in-summary_of : (owner : Owner) → IsOwner owner → owner_in (summary_of owner) ≡ Some owner
owner_in-summary_of (Node nid) is = grind (arith, common_steps)
owner_in-summary_of (Data nid slot) is = grind (arith, common_steps)
