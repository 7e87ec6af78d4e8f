use Rattle.std.proofs.Common.{◌≡◌, ◌∙◌}
use Rattle.image.specs.View.{image_view}
use Rattle.mount.proofs.Passes.{pass_is}
use Rattle.mount.proofs.files.own_file.Goals as goal

pub returns-in-Some-clause-pass : goal.returns-in-Some-clause-pass
returns-in-Some-clause-pass g c =
    let tell = c.tell_file.ensures in
    let file = c.in-Some.file in
    λ bytes goods. (
      (c.requires.found.right file c.in-Some.is).0.taken,
      c.load-cell.ensures.pass ∙ pass_is c.args.geometry.now (image_view c.args.image.now) c.args.number file tell.number tell.shape tell.file tell.kind tell.size tell.slots (c.requires.found.right file c.in-Some.is).0.taken bytes (tell.contents bytes goods),
    )

pub tell_file-requires-clause-has : goal.tell_file-requires-clause-has
tell_file-requires-clause-has g c = (c.requires.found.right c.in-Some.file c.in-Some.is).0

pub tell_file-requires-clause-loaded : goal.tell_file-requires-clause-loaded
tell_file-requires-clause-loaded g c = (c.requires.found.right c.in-Some.file c.in-Some.is).1
