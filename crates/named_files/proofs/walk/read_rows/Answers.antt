-- The rows that were read are the folder's, and each was looked at.
use Rattle.std.proofs.Common.{map, rules}
use Rattle.geometry.specs.Shape.{block_bytes}
use Rattle.named_folder.specs.Rows.{row_of}
use Rattle.named_folder.proofs.Cases.{some_of}
use Rattle.named_files.specs.Files.{HasFolder}
use Rattle.named_files.proofs.Rows.{rows_there}
use Rattle.named_files.proofs.walk.read_rows.Goals as goal

pub returns-clause-folder : goal.returns-clause-folder
returns-clause-folder g c =
    let size = block_bytes g.V.Numbers.GeometryName.geometry.shape in
    some_of (λ found. HasFolder size c.args.passes.now (map row_of found.items)) c.in_ok-entries.field-0 c.in-Some.entries c.in-Some.is c.in_ok-entries.ensures.some

pub returns-clause-there : goal.returns-clause-there
returns-clause-there g c =
    rows_there c.in-Some.entries.items c.as_slice.result.now c.args.passes.now (search rules) (c.are_there.ensures (search rules))
