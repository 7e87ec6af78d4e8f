-- The file is entered, and the folder is written last: so each name shows what it showed, but this one.
use Rattle.std.proofs.Common.{◌≡◌, ◌≢◌, ◌∙◌, ◌++◌, ℕ, All, length, map, take, drop, ap, refl, rules}
use Rattle.std.proofs.lemmas.List.{take_at}
use Rattle.geometry.specs.Shape.{block_bytes}
use Rattle.named_folder.specs.Folder.{IsRow}
use Rattle.named_files.specs.Files.{file_at, HasFolder, WasPut}
use Rattle.named_folder.specs.Rows.{row_of}
use Rattle.named_folder.proofs.Cases.{into}
use Rattle.named_files.proofs.Many.{put_entered}
use Rattle.named_files.proofs.Rows.{folder_of, there_of}
use Rattle.named_files.proofs.work.put.PutWork.run.Goals as goal

pub enter_file-requires-clause-rows : goal.enter_file-requires-clause-rows
enter_file-requires-clause-rows g c = let folder = rw c.in-Ok.is at c.in_ok-entries.ensures.folder in folder.spelled.are_rows

pub enter_file-requires-clause-folder : goal.enter_file-requires-clause-folder
enter_file-requires-clause-folder g c =
    let had = rw c.in-Ok.is at c.in_ok-entries.ensures.folder in
    let same : c.args.rights.now.passes.items ≡ c.as_slice.result.now = search rules in
    (had.folder, ap (file_at 1) same ∙ had.here)

pub enter_file-requires-clause-there : goal.enter_file-requires-clause-there
enter_file-requires-clause-there g c =
    there_of c.args.rights.now.passes.items c.as_slice.result.now (map row_of c.in-Ok.entries.items) (search rules) (rw c.in-Ok.is at c.in_ok-entries.ensures.there)

pub write_folder-requires : goal.write_folder-requires
write_folder-requires g c =
    let entered = rw c.in-Ok-entered.is at c.in_ok-entered.ensures.entered in
    record { rows = into (λ es. All IsRow (map row_of es)) c.as_slice-2.result.now c.enter_file.new.entries.items (search rules) entered.are_rows }

pub returns-clause-done : goal.returns-clause-done
returns-clause-done g c =
    let size = block_bytes g.V.Numbers.GeometryName.geometry.shape in
    let name = c.args.self.name.now in
    let bytes = c.args.self.bytes.now in
    let before = c.args.rights.now.passes.items in
    let rows = map row_of c.in-Ok.entries.items in
    let had = folder_of size before c.as_slice.result.now rows (search rules) (rw c.in-Ok.is at c.in_ok-entries.ensures.folder) in
    let entered = rw c.in-Ok-entered.is at c.in_ok-entered.ensures.entered in
    let between = c.enter_file.new.passes.items in
    let number = c.in-Ok-entered.number in
    let renewed = map row_of c.enter_file.new.entries.items in
    let after = c.write_folder.new.passes in
    let has : HasFolder size after renewed
    = into (λ es. HasFolder size after (map row_of es)) c.enter_file.new.entries.items c.as_slice-2.result.now (search rules) c.in_ok-write_folder.ensures.folder in
    let same_between : c.as_mut_slice-passes.result.now ≡ between = search rules in
    let others : (n : ℕ) → n ≢ 1 → file_at n after ≡ file_at n between = λ n other. c.in_ok-write_folder.ensures.others n other ∙ ap (file_at n) same_between in
    into (WasPut size name bytes number before) (take c.enter_file.new.passes.len (after ++ drop (length after) between)) after (take_at after (drop (length after) between) c.enter_file.new.passes.len (search rules))
    (put_entered size name bytes number rows renewed before before between after entered had (λ n other. refl) has others)
