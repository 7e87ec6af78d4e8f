-- What was taken is what was deleted: the folder's file stays.
use Rattle.geometry.specs.Shape.{block_bytes}
use Rattle.named_files.proofs.Works.{was_deleted}
use Rattle.named_files.proofs.work.remove.DeleteFileWork.run.Goals as goal

pub returns-in-Ok-clause-done : goal.returns-in-Ok-clause-done
returns-in-Ok-clause-done g c =
    let size = block_bytes g.V.Numbers.GeometryName.geometry.shape in
    let taken = rw c.in-Ok.is at c.in_ok-_left.ensures.taken in
    was_deleted size c.args.self.name.now c.args.rights.now.passes.items c.take_named.new.passes.items _ taken
