-- What was taken is gone, and the folder is written last: so each name shows what it showed, but this one.
use Rattle.std.proofs.Common.{◌≡◌, ◌≢◌, ◌∙◌, ◌++◌, ℕ, All, length, map, take, drop, ap, rules}
use Rattle.std.proofs.lemmas.List.{take_at}
use Rattle.geometry.specs.Shape.{block_bytes}
use Rattle.named_folder.specs.Folder.{IsRow}
use Rattle.named_files.specs.Files.{file_at, HasFolder, WasRemoved}
use Rattle.named_folder.specs.Rows.{row_of}
use Rattle.named_folder.proofs.Cases.{into}
use Rattle.named_files.proofs.Works.{was_removed}
use Rattle.named_files.proofs.work.remove.RemoveWork.run.Goals as goal

pub write_folder-requires : goal.write_folder-requires
write_folder-requires g c =
    let taken = rw c.in-Ok.is at c.in_ok-entries.ensures.taken in
    record { rows = into (λ es. All IsRow (map row_of es)) c.as_slice.result.now c.in-Ok.entries.items (search rules) taken.are_rows }

pub returns-clause-done : goal.returns-clause-done
returns-clause-done g c =
    let size = block_bytes g.V.Numbers.GeometryName.geometry.shape in
    let name = c.args.self.name.now in
    let before = c.args.rights.now.passes.items in
    let between = c.take_named.new.passes.items in
    let left = c.in-Ok.entries.items in
    let after = c.write_folder.new.passes in
    let taken = rw c.in-Ok.is at c.in_ok-entries.ensures.taken in
    let has : HasFolder size after (map row_of left) = into (λ es. HasFolder size after (map row_of es)) left c.as_slice.result.now (search rules) c.in_ok-write_folder.ensures.folder in
    let same_between : c.as_mut_slice-passes.result.now ≡ between = search rules in
    let others : (n : ℕ) → n ≢ 1 → file_at n after ≡ file_at n between = λ n other. c.in_ok-write_folder.ensures.others n other ∙ ap (file_at n) same_between in
    into (WasRemoved size name before) (take c.take_named.new.passes.len (after ++ drop (length after) between)) after (take_at after (drop (length after) between) c.take_named.new.passes.len (search rules))
    (was_removed size name before between (map row_of left) taken after has others)
