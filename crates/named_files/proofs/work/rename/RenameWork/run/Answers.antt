-- Only a row of the folder changes, so each number shows the file that it showed, and the name in the row is the new one.
use Rattle.std.proofs.Common.{◌≡◌, ◌≢◌, ◌∙◌, ◌++◌, ℕ, All, length, map, take, drop, false, ap, subst, sym, rules}
use Rattle.std.specs.Option.{is_some}
use Rattle.std.proofs.lemmas.List.{take_at}
use Rattle.geometry.specs.Shape.{block_bytes}
use Rattle.named_folder.specs.Folder.{IsRow}
use Rattle.named_files.specs.Files.{file_at, HasFolder, WasRenamed}
use Rattle.named_folder.specs.Names.{HasNoRow, IsRowPlace, Renames}
use Rattle.named_folder.specs.Rows.{row_of}
use Rattle.named_folder.proofs.Cases.{into, none_unless}
use Rattle.named_files.proofs.Works.{was_renamed}
use Rattle.named_files.proofs.work.rename.RenameWork.run.Goals as goal

pub write_folder-requires : goal.write_folder-requires
write_folder-requires g c =
    let entries = c.in-Ok.found.entries.items in
    let named = rw c.in-Ok.is at c.in_ok-found.ensures.found in
    let same : c.as_mut_slice.result.now ≡ entries = search rules in
    let renamed = c.rename_row.new.entries in
    let rows : All IsRow (map row_of renamed)
    = c.in_ok-rename_row.ensures.rows (into (λ es. All IsRow (map row_of es)) c.as_mut_slice.result.now entries same named.folder.spelled.are_rows) in
    record { rows = into (λ es. All IsRow (map row_of es)) c.as_slice-2.result.now renamed (c.as_slice-2.ensures.value ∙ take_at renamed (drop (length renamed) entries) c.in-Ok.found.entries.len (search rules)) rows }

pub returns-clause-done : goal.returns-clause-done
returns-clause-done g c =
    let size = block_bytes g.V.Numbers.GeometryName.geometry.shape in
    let name = c.args.self.name.now in
    let to = c.args.self.to.now in
    let before = c.args.rights.now.passes.items in
    let entries = c.in-Ok.found.entries.items in
    let rows = map row_of entries in
    let row = c.in-Ok.found.row in
    let named = rw c.in-Ok.is at c.in_ok-found.ensures.found in
    let had : HasFolder size before rows = into (λ ps. HasFolder size ps rows) before c.as_slice-passes.result.now (search rules) named.folder in
    let same : c.as_mut_slice.result.now ≡ entries = search rules in
    let here_mut : IsRowPlace name (map row_of c.as_mut_slice.result.now) row = into (λ es. IsRowPlace name (map row_of es) row) c.as_mut_slice.result.now entries same named.here in
    let gone : is_some c.row_at.result ≡ false = search rules in
    let same_read : c.as_slice.result.now ≡ entries = search rules in
    let free : HasNoRow to rows = subst (λ es. HasNoRow to (map row_of es)) same_read (none_unless (HasNoRow to (map row_of c.as_slice.result.now)) c.row_at.result gone c.row_at.ensures.none) in
    let renamed = map row_of c.rename_row.new.entries in
    let after = c.write_folder.new.passes in
    let renames : Renames name to rows renamed = subst (λ es. Renames name to (map row_of es) renamed) same (c.in_ok-rename_row.ensures.renamed name here_mut) in
    let has : HasFolder size after renamed = into (λ es. HasFolder size after (map row_of es)) c.rename_row.new.entries c.as_slice-2.result.now (sym (c.as_slice-2.ensures.value ∙ take_at c.rename_row.new.entries (drop (length c.rename_row.new.entries) entries) c.in-Ok.found.entries.len (search rules))) c.in_ok-write_folder.ensures.folder in
    let same_passes : c.as_mut_slice-passes.result.now ≡ before = search rules in
    let others : (n : ℕ) → n ≢ 1 → file_at n after ≡ file_at n before = λ n other. c.in_ok-write_folder.ensures.others n other ∙ ap (file_at n) same_passes in
    into (WasRenamed size name to before) (take c.args.rights.now.passes.len (after ++ drop (length after) before)) after (take_at after (drop (length after) before) c.args.rights.now.passes.len (search rules)) (was_renamed size name to before after rows renamed (c.is_name.ensures.yes (search rules)) free had renames has others)
