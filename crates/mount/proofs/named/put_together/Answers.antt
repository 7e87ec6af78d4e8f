use Rattle.std.proofs.Common.{◌≡◌, ◌+◌, ap, ◌∙◌, subst}
use Rattle.atomic_table.specs.Seated.{TableId}
use Rattle.geometry.specs.declared.geometry.Geometry.{Geometry}
use Rattle.area.specs.Opening.{PartsFall}
use Rattle.rights_books.specs.Accounts.{HandView}
use Rattle.mount.proofs.named.put_together.Goals as goal

pub load_locks-area-requires-clause-parts : goal.load_locks-area-requires-clause-parts
load_locks-area-requires-clause-parts g c =
    subst (λ (b : TableId). PartsFall b (c.args.device.packs.geometry.segments + 16) c.args.tables.parts.items) c.requires.of_rows c.requires.rows.parts

pub load_locks-area-requires-clause-every_part : goal.load_locks-area-requires-clause-every_part
load_locks-area-requires-clause-every_part g c = c.requires.rows.every_part

pub lock_packs-packs-requires-clause-body_numbers : goal.lock_packs-packs-requires-clause-body_numbers
lock_packs-packs-requires-clause-body_numbers g c = c.requires.rows.numbers ∙ c.requires.geometry

pub lock_packs-packs-requires-clause-touched : goal.lock_packs-packs-requires-clause-touched
lock_packs-packs-requires-clause-touched g c = c.requires.rows.touched

pub invariant_of-all-clause-home : goal.invariant_of-all-clause-home
invariant_of-all-clause-home g c = ap (λ (v : HandView). v.book) c.load_locks-area.ensures.hand ∙ c.args.all.home

pub invariant_of-all-clause-others_home : goal.invariant_of-all-clause-others_home
invariant_of-all-clause-others_home g c = c.args.all.others_home

pub invariant_of-all-clause-others_count : goal.invariant_of-all-clause-others_count
invariant_of-all-clause-others_count g c = c.args.all.others_count

pub invariant_of-all-clause-all : goal.invariant_of-all-clause-all
invariant_of-all-clause-all g c = c.args.all.all
