-- Whether two marks are the same, as a test.
use Rattle.std.specs.Prelude.{◌==◌, ◌&&◌, Bool, false}
use Rattle.geometry.specs.declared.owner.Owner.{Owner}
use Rattle.geometry.specs.declared.owner.Owner.TheVariants.{Node, Data}
use Rattle.geometry.specs.declared.owner.Mark.{Mark}

abbrev pub same_owner : Owner → Owner → Bool
same_owner (Node k) (Node l) = k == l
same_owner (Node k) (Data l t) = false
same_owner (Data k s) (Node l) = false
same_owner (Data k s) (Data l t) = (k == l) && (s == t)

abbrev pub same_mark : Mark → Mark → Bool
same_mark m n = (m.address == n.address) && same_owner m.owner n.owner
