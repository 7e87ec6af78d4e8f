use Rattle.std.proofs.Common.{◌≡◌, get_or, string_bytes, ap, refl, rules}
use Rattle.std.proofs.lemmas.Str.{IsUtf8-string_bytes}
use Rattle.named_folder.specs.Folder.{IsRow}
use Rattle.named_folder.specs.Rows.{row_of}
use Rattle.named_folder.specs.declared.entry.FolderRow.{FolderRow}
use Rattle.named_folder.proofs.Entries.{is_row_there, renamed_set, rows_set}
use Rattle.named_folder.proofs.rows.rename_row.Goals as goal

pub returns-clause-renamed : goal.returns-clause-renamed
returns-clause-renamed c =
    let entries = c.args.entries.now in
    let read_is : c.index-entries-row.result ≡ get_or entries c.args.row c.index-entries-row.result = search rules in
    let old : FolderRow = get_or entries c.args.row c.index-entries-row.result in
    let entry : FolderRow = record { name = c.in_ok-name.name; number = old.number; bytes = old.bytes } in
    let is : old ≡ get_or entries c.args.row old = ap (get_or entries c.args.row) read_is in
    let named : string_bytes c.in_ok-name.name ≡ c.args.to.now = search rules in
    λ name here. renamed_set entries _ c.args.row entry refl name c.args.to.now old is named refl refl here

pub returns-clause-rows : goal.returns-clause-rows
returns-clause-rows c =
    let entries = c.args.entries.now in
    let read_is : c.index-entries-row.result ≡ get_or entries c.args.row c.index-entries-row.result = search rules in
    let old : FolderRow = get_or entries c.args.row c.index-entries-row.result in
    let entry : FolderRow = record { name = c.in_ok-name.name; number = old.number; bytes = old.bytes } in
    let is : old ≡ get_or entries c.args.row old = ap (get_or entries c.args.row) read_is in
    λ all.
    let old_row : IsRow (row_of old) = is_row_there entries c.args.row old is c.requires.within all in
    rows_set entries _ c.args.row entry refl
    (record { text = IsUtf8-string_bytes entry.name; not_folder = old_row.not_folder; number_fits = old_row.number_fits; bytes_fit = old_row.bytes_fit; length_fits = search rules }) all
