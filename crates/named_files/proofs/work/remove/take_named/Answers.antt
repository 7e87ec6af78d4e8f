-- The file of the row's number goes, and other numbers show what they showed, the folder's too.
use Rattle.std.proofs.Common.{◌∙◌, map, ap, sym, rules}
use Rattle.geometry.specs.Shape.{block_bytes}
use Rattle.named_folder.specs.Folder.{IsRow}
use Rattle.named_files.specs.Files.{file_at, HasFolder}
use Rattle.named_folder.specs.Rows.{row_of}
use Rattle.named_folder.proofs.Cases.{into}
use Rattle.named_files.proofs.Rows.{row_of_all}
use Rattle.named_files.proofs.work.remove.take_named.Goals as goal

pub returns-clause-taken : goal.returns-clause-taken
returns-clause-taken g c =
    let size = block_bytes g.V.Numbers.GeometryName.geometry.shape in
    let name = c.args.name.now in
    let before = c.args.passes.now.items in
    let rows = map row_of c.in-Ok.found.entries.items in
    let found = rw c.in-Ok.is at c.in_ok-found.ensures.found in
    let had : HasFolder size before rows = into (λ ps. HasFolder size ps rows) before c.as_slice.result.now (search rules) found.folder in
    let taken = c.take_row-number.ensures.taken name found.here in
    record {
      rows = rows;
      had_folder = had;
      row = taken.0;
      named = taken.2;
      not_folder = (row_of_all IsRow name rows taken.0 found.folder.spelled.are_rows taken.2).not_folder;
      removes = c.take_row-number.ensures.removed name found.here;
      are_rows = c.take_row-number.ensures.rows found.folder.spelled.are_rows;
      gone = ap (λ n. file_at n c.delete_file.new.passes.items) taken.1 ∙ c.in_ok-delete_file.ensures.gone;
      others = λ n other. c.in_ok-delete_file.ensures.others n (λ e. other (e ∙ sym taken.1));
    }
