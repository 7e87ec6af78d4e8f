use Rattle.named_files.proofs.Left.{held_in_file, shown_in_file}
use Rattle.named_files.proofs.law.file_law.Goals as goal

pub returns : goal.returns
returns g c =
    let meta = g.M.Meta in
    let block = g.B.Block in
    record {
      holds = held_in_file meta.seen meta.may_leave block.address_of block.content_of;
      shown = λ geometry other passes parts bytes image closed left there.
          shown_in_file meta.seen meta.may_leave block.address_of block.content_of geometry passes parts bytes closed left other image there;
    }
