use Rattle.std.proofs.Common.{subst}
use Rattle.device.specs.Disk.{Leaves}
use Rattle.geometry.specs.declared.geometry.Geometry.{Geometry}
use Rattle.image.specs.Rules.{IsLawful}
use Rattle.image.specs.View.{image_view}
use Rattle.pack_tables.specs.Holding.{HoldsTables}
use Rattle.mount.proofs.named.lock_packs.Goals as goal

pub of-requires-clause-lawful : goal.of-requires-clause-lawful
of-requires-clause-lawful g c =
    let numbers = c.requires.numbers in
    let image = image_view c.args.image.now in (
      image,
      subst (λ (x : Geometry). IsLawful x image) numbers c.requires.lawful,
      subst (λ (x : Geometry). Leaves g.M.Meta.may_leave c.args.packs.area.meta (HoldsTables x image)) numbers c.requires.held,
    )
