-- A row of the name is overwritten where it stands, or none stands and one is added: in both cases no other row changes.
use Rattle.std.proofs.Common.{◌≡◌, ◌++◌, [], ◌∷◌, map, string_bytes, refl, rules}
use Rattle.std.proofs.lemmas.Str.{IsUtf8-string_bytes}
use Rattle.named_folder.specs.Folder.{Row}
use Rattle.named_folder.specs.Names.{IsRowPlace}
use Rattle.named_folder.specs.Rows.{row_of}
use Rattle.named_folder.specs.declared.entry.FolderRow.{FolderRow}
use Rattle.named_folder.proofs.Cases.{none_of, some_of}
use Rattle.named_folder.proofs.Entries.{renewed_push, renewed_set, rows_push, rows_set}
use Rattle.named_folder.proofs.Spelling.{same_row}
use Rattle.named_folder.proofs.Updates.{written_back}
use Rattle.named_folder.proofs.rows.put_row.Goals as goal

pub returns-in-Some-clause-renewed : goal.returns-in-Some-clause-renewed
returns-in-Some-clause-renewed c =
    let entry : FolderRow = record { name = c.in_ok-from_str.field-0; number = c.args.number; bytes = c.args.bytes } in
    let row : Row = record { name = c.args.name.now; number = c.args.number; bytes = c.args.bytes } in
    let named : string_bytes c.in_ok-from_str.field-0 ≡ c.args.name.now = search rules in
    let same : c.as_mut_slice.result.now ≡ c.args.entries.now.items = search rules in
    renewed_set c.args.entries.now.items _ c.in-Some.place entry (written_back c.args.entries.now.items c.as_mut_slice.result.now _ _ c.in-Some.place entry same (search rules)) row (same_row (row_of entry) row named refl refl)
    (some_of (IsRowPlace c.args.name.now (map row_of c.args.entries.now.items)) c.args.row c.in-Some.place c.in-Some.is c.requires.some)

pub returns-in-Some-clause-rows : goal.returns-in-Some-clause-rows
returns-in-Some-clause-rows c =
    let entry : FolderRow = record { name = c.in_ok-from_str.field-0; number = c.args.number; bytes = c.args.bytes } in
    let same : c.as_mut_slice.result.now ≡ c.args.entries.now.items = search rules in
    λ past all. rows_set c.args.entries.now.items _ c.in-Some.place entry
    (written_back c.args.entries.now.items c.as_mut_slice.result.now _ _ c.in-Some.place entry same (search rules))
    (record { text = IsUtf8-string_bytes entry.name; not_folder = past; number_fits = search rules; bytes_fit = search rules; length_fits = search rules }) all

pub returns-in_ok-push-in-None-clause-renewed : goal.returns-in_ok-push-in-None-clause-renewed
returns-in_ok-push-in-None-clause-renewed c =
    let entry : FolderRow = record { name = c.in_ok-from_str.field-0; number = c.args.number; bytes = c.args.bytes } in
    let row : Row = record { name = c.args.name.now; number = c.args.number; bytes = c.args.bytes } in
    let named : string_bytes c.in_ok-from_str.field-0 ≡ c.args.name.now = search rules in
    let items : c.push.new.self.items ≡ c.args.entries.now.items ++ entry ∷ [] = search rules in
    renewed_push c.args.entries.now.items c.push.new.self.items entry items row (same_row (row_of entry) row named refl refl) (none_of _ c.args.row c.in-None.is c.requires.none)

pub returns-in_ok-push-in-None-clause-rows : goal.returns-in_ok-push-in-None-clause-rows
returns-in_ok-push-in-None-clause-rows c =
    let entry : FolderRow = record { name = c.in_ok-from_str.field-0; number = c.args.number; bytes = c.args.bytes } in
    let items : c.push.new.self.items ≡ c.args.entries.now.items ++ entry ∷ [] = search rules in
    λ past all. rows_push c.args.entries.now.items c.push.new.self.items entry items
    (record { text = IsUtf8-string_bytes entry.name; not_folder = past; number_fits = search rules; bytes_fit = search rules; length_fits = search rules }) all
