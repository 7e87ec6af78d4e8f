use Rattle.std.proofs.Common.{◌≡◌, get_or, remove, refl, rules}
use Rattle.named_folder.specs.Rows.{row_of}
use Rattle.named_folder.proofs.Entries.{found_row, removed_row, rows_remove}
use Rattle.named_folder.proofs.rows.take_row.Goals as goal

pub returns-clause-taken : goal.returns-clause-taken
returns-clause-taken c =
    let entries = c.args.entries.now.items in
    let entry = c.remove-entry.result in
    let is : entry ≡ get_or entries c.args.row entry = search rules in
    λ name here. (row_of entry, refl, found_row name entries c.args.row entry is here)

pub returns-clause-removed : goal.returns-clause-removed
returns-clause-removed c =
    let entries = c.args.entries.now.items in
    let items : c.remove-entry.new.self.items ≡ remove entries c.args.row = search rules in
    λ name here. removed_row entries c.remove-entry.new.self.items c.args.row items name here

pub returns-clause-rows : goal.returns-clause-rows
returns-clause-rows c =
    let entries = c.args.entries.now.items in
    let items : c.remove-entry.new.self.items ≡ remove entries c.args.row = search rules in
    λ all. rows_remove entries c.remove-entry.new.self.items c.args.row items all
