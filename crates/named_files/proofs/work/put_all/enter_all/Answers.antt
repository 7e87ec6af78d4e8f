use Rattle.std.proofs.Common.{All, map}
use Rattle.geometry.specs.Shape.{block_bytes}
use Rattle.named_folder.specs.Folder.{IsRow}
use Rattle.named_folder.specs.Rows.{row_of}
use Rattle.named_folder.proofs.Cases.{into}
use Rattle.named_files.proofs.Many.{entering_goes_on}
use Rattle.named_files.proofs.work.put_all.enter_all.Goals as goal

pub returns-in-Err-clause-rows : goal.returns-in-Err-clause-rows
returns-in-Err-clause-rows g c =
    let stay = rw c.in-Err.is at c.in_ok-enter_file.ensures.rows_stay in
    into (λ es. All IsRow (map row_of es)) c.enter_file.new.entries.items c.loop-index.entries.items stay c.loop-index.invariant.are_rows

pub loop-index-preserved : goal.loop-index-preserved
loop-index-preserved g c =
    let size = block_bytes g.V.Numbers.GeometryName.geometry.shape in
    let entered = rw c.in-Ok.is at c.in_ok-enter_file.ensures.entered in
    entering_goes_on size c.args.work.files.now c.loop-index.index _ (map row_of c.args.entries.now.items) (map row_of c.loop-index.entries.items) (map row_of c.enter_file.new.entries.items)
    c.args.passes.now.items c.loop-index.passes.items c.enter_file.new.passes.items c.in-Ok.field-0 c.loop-index-test.true c.loop-index.invariant entered
