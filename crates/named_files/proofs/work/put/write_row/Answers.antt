use Rattle.std.proofs.Common.{◌≡◌, ◌<◌, ℕ, List, length, get_or, map, ap, subst, rules}
use Rattle.named_folder.specs.Folder.{Row}
use Rattle.named_folder.specs.Names.{IsRowOf, IsRowPlace}
use Rattle.named_folder.specs.Rows.{row_of}
use Rattle.named_folder.proofs.Cases.{some_of}
use Rattle.named_folder.proofs.Entries.{found_row, is_row_there}
use Rattle.named_files.proofs.Rows.{if_some}
use Rattle.named_files.proofs.work.put.write_row.Goals as goal

pub returns-in_ok-write_file-in-Some-clause-past : goal.returns-in_ok-write_file-in-Some-clause-past
returns-in_ok-write_file-in-Some-clause-past g c =
    let entries = c.args.entries.now in
    let entry = c.index-entries-place.result in
    let is : entry ≡ get_or entries c.in-Some.place entry = search rules in
    let low : c.in-Some.place < length entries = some_of (λ place. place < length entries) c.args.row c.in-Some.place c.in-Some.is c.requires.within in
    subst (λ e. 1 < e.number) is (is_row_there entries c.in-Some.place entry is low c.requires.rows).not_folder

pub returns-in_ok-write_file-in-Some-clause-kept : goal.returns-in_ok-write_file-in-Some-clause-kept
returns-in_ok-write_file-in-Some-clause-kept g c =
    let entries = c.args.entries.now in
    let entry = c.index-entries-place.result in
    let is : entry ≡ get_or entries c.in-Some.place entry = search rules in
    if_some (λ place. (name : List ℕ) → IsRowPlace name (map row_of entries) place → (found : Row) × IsRowOf name (map row_of entries) found × (found.number ≡ (get_or entries c.in-Some.place entry).number))
    c.args.row c.in-Some.place c.in-Some.is
    (λ name here. (row_of entry, found_row name entries c.in-Some.place entry is here, ap (λ e. e.number) is))
