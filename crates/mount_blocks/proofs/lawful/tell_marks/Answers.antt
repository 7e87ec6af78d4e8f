use Rattle.image.specs.View.{image_view}
use Rattle.mount_blocks.proofs.Marked.{names_are_marks, owned}
use Rattle.mount_blocks.proofs.TreeOwners.{names_are_owned}
use Rattle.mount_blocks.proofs.lawful.tell_marks.Goals as goal

pub returns-clause-marks : goal.returns-clause-marks
returns-clause-marks c =
    let image = image_view c.args.image.now in
    names_are_marks c.args.geometry.now image c.requires (names_are_owned c.args.geometry.now image c.requires)

pub returns-clause-owners : goal.returns-clause-owners
returns-clause-owners c = names_are_owned c.args.geometry.now (image_view c.args.image.now) c.requires

pub returns-clause-marked : goal.returns-clause-marked
returns-clause-marked c =
    let image = image_view c.args.image.now in
    owned c.args.geometry.now image c.requires (names_are_owned c.args.geometry.now image c.requires)
