-- The files are entered, and the folder is written behind them, where there is one: so it is as if each had been put.
use Rattle.std.proofs.Common.{◌≡◌, ◌≢◌, ◌∙◌, ◌++◌, ℕ, All, MatchResult, length, map, take, drop, ap, refl, rules, arith}
use Rattle.std.proofs.lemmas.Grind.{common_steps}
use Rattle.std.proofs.lemmas.List.{take_at}
use Rattle.geometry.specs.Shape.{block_bytes}
use Rattle.named_folder.specs.Folder.{IsRow}
use Rattle.named_files.specs.Files.{file_at, HasFolder}
use Rattle.named_files.specs.Many.{WerePut}
use Rattle.named_folder.specs.Rows.{row_of}
use Rattle.named_folder.proofs.Cases.{into}
use Rattle.named_files.proofs.Many.{all_or_front, some_taken, were_put}
use Rattle.named_files.proofs.Rows.{folder_of, there_of}
use Rattle.named_files.proofs.work.put_all.PutAllWork.run.Goals as goal

pub enter_all-requires-clause-rows : goal.enter_all-requires-clause-rows
enter_all-requires-clause-rows g c = let folder = rw c.in-Ok.is at c.in_ok-entries.ensures.folder in folder.spelled.are_rows

pub enter_all-requires-clause-folder : goal.enter_all-requires-clause-folder
enter_all-requires-clause-folder g c =
    let had = rw c.in-Ok.is at c.in_ok-entries.ensures.folder in
    let same : c.args.rights.now.passes.items ≡ c.as_slice.result.now = search rules in
    (had.folder, ap (file_at 1) same ∙ had.here)

pub enter_all-requires-clause-there : goal.enter_all-requires-clause-there
enter_all-requires-clause-there g c =
    there_of c.args.rights.now.passes.items c.as_slice.result.now (map row_of c.in-Ok.entries.items) (search rules) (rw c.in-Ok.is at c.in_ok-entries.ensures.there)

pub write_folder-requires : goal.write_folder-requires
write_folder-requires g c =
    record { rows = into (λ es. All IsRow (map row_of es)) c.as_slice-2.result.now c.enter_all.new.entries.items (search rules) c.in_ok-entered.ensures.rows }

pub returns-clause-done : goal.returns-clause-done
returns-clause-done g c =
    let size = block_bytes g.V.Numbers.GeometryName.geometry.shape in
    let files = c.args.self.files.now in
    let before = c.args.rights.now.passes.items in
    let rows = map row_of c.in-Ok.entries.items in
    let had = folder_of size before c.as_slice.result.now rows (search rules) (rw c.in-Ok.is at c.in_ok-entries.ensures.folder) in
    let count = c.in_ok-entered.entered.files in
    let outcome = c.in_ok-entered.entered.outcome in
    let between = c.enter_all.new.passes.items in
    let renewed = map row_of c.enter_all.new.entries.items in
    let after = c.write_folder.new.passes in
    let has : HasFolder size after renewed
    = into (λ es. HasFolder size after (map row_of es)) c.enter_all.new.entries.items c.as_slice-2.result.now (search rules) c.in_ok-write_folder.ensures.folder in
    let same_between : c.as_mut_slice-passes.result.now ≡ between = search rules in
    let others : (n : ℕ) → n ≢ 1 → file_at n after ≡ file_at n between = λ n other. c.in_ok-write_folder.ensures.others n other ∙ ap (file_at n) same_between in
    let some : count ≢ 0 = grind (arith, common_steps) in
    let were : WerePut size (take count files) before after
    = were_put size (take count files) rows renewed before before between after (some_taken files count some c.in_ok-entered.ensures.few) had (λ n other. refl)
    c.in_ok-entered.ensures.entered has others in
    into (λ ps. MatchResult outcome (λ done. WerePut size files before ps) (λ refusal. (front : ℕ) × WerePut size (take front files) before ps))
    (take c.enter_all.new.passes.len (after ++ drop (length after) between)) after (take_at after (drop (length after) between) c.enter_all.new.passes.len (search rules))
    (all_or_front size files count outcome before after c.in_ok-entered.ensures.all were)
