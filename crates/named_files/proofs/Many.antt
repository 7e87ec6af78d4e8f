-- Files are put one after the other, and the folder is written behind them all: between two of them stands the folder that would have
-- been written there.
use Rattle.std.proofs.Common.{◌≡◌, ◌≢◌, ◌∙◌, ◌+◌, ◌++◌, ◌<◌, ◌≤◌, ◌^◌, ℕ, zero, suc, List, [], ◌∷◌, Some, All, Result, Ok, Err, IfOk, MatchResult, cond, length, get_or, take, ap, sym, subst, refl, ne_eqb, inl, inr, arith}
use Rattle.std.proofs.lemmas.Bool.{cases_eq}
use Rattle.std.proofs.lemmas.List.{append-nil, take_all, take_more}
use Rattle.std.proofs.lemmas.List.Elements.{All-cons, All-head, All-nil, All-tail}
use Rattle.file_cells.specs.Pass.{Pass}
use Rattle.geometry.specs.File.{File, new_file, written}
use Rattle.geometry.specs.declared.kind.Kind.TheVariants.{Dir}
use Rattle.image_reading.specs.Content.{front_bytes}
use Rattle.named_folder.specs.Folder.{Row, IsRow, folder_bytes}
use Rattle.named_files.proofs.Contents.{block_written}
use Rattle.named_files.proofs.Named.{renewed_all}
use Rattle.named_files.specs.Files.{file_at, HasFolder, IsThere, WasEntered, WasPut}
use Rattle.named_files.specs.Many.{WereEntered, WerePut}
use Rattle.named_files.specs.declared.work.put_all.NewFile.{NewFile}

-- files apart from the folder are the same
abbrev pub AreSameFiles : List Pass → List Pass → Type 0
AreSameFiles passes others = (n : ℕ) → n ≢ 1 → file_at n passes ≡ file_at n others

not_folder : (number : ℕ) → 1 < number → number ≢ 1
not_folder number past is = omega arith

abbrev folder_of : List Row → File
folder_of rows = written (new_file Dir) 0 (folder_bytes rows)

-- the passes, and in front a folder of these rows
abbrev with_folder : List Row → List Pass → List Pass
with_folder rows passes = record { number = 1; file = folder_of rows } ∷ passes

with_same : (rows : List Row) (passes : List Pass) → AreSameFiles (with_folder rows passes) passes
with_same rows passes = λ n other. ap (λ b. cond b (Some (folder_of rows)) (file_at n passes)) (ne_eqb 1 n (λ e. other (sym e)))

pub some_taken : (files : List NewFile) (count : ℕ) → count ≢ 0 → count ≤ length files → 0 < length (take count files)
some_taken [] count some few = absurd (some (omega arith))
some_taken (file ∷ files) zero some few = absurd (some refl)
some_taken (file ∷ files) (suc count) some few = omega arith

module _ (size : ℕ) where
  with_has : (rows : List Row) (passes : List Pass) → All IsRow rows → length rows < 2 ^ 64 → HasFolder size (with_folder rows passes) rows
  with_has rows passes are few =
      let set = block_written size (new_file Dir) 0 (folder_bytes rows) (omega arith) in
      let one : (folder_of rows).length ≡ suc zero = omega arith in
      record {
        folder = folder_of rows;
        here = refl;
        spelled = record {
          are_rows = are;
          few = few;
          behind = [];
          spelled = ap (front_bytes size (folder_of rows)) one ∙ set.here ∙ sym (append-nil (folder_bytes rows));
        };
      }

  -- a file is put, where the folder is that of the rows on both sides
  pub put_entered : (name bytes : List ℕ) (number : ℕ) (rows renewed : List Row) (shown from to after : List Pass) → WasEntered size name bytes number rows renewed from to
      → HasFolder size shown rows → AreSameFiles shown from → HasFolder size after renewed → AreSameFiles after to → WasPut size name bytes number shown after
  put_entered name bytes number rows renewed shown from to after entered had same has same_after =
      let past = not_folder number entered.not_folder in
      record {
        is_name = entered.is_name;
        rows = rows;
        had_folder = had;
        own = elim entered.own [
          | inl old ↦ inl old
          | inr new ↦ inr (new.0, new.1, same number past ∙ new.2)
        ];
        renewed = renewed;
        has_folder = has;
        renews = entered.renews;
        file = entered.written.file;
        there = same_after number past ∙ entered.written.there;
        content = entered.written.content;
        others = λ n not_folder other. same_after n not_folder ∙ entered.written.others n other ∙ sym (same n not_folder);
      }

  pub were_put : (files : List NewFile) (rows renewed : List Row) (shown from to after : List Pass) → 0 < length files → HasFolder size shown rows → AreSameFiles shown from
      → WereEntered size files rows renewed from to → HasFolder size after renewed → AreSameFiles after to → WerePut size files shown after
  were_put [] rows renewed shown from to after some had same were has same_after = absurd (omega arith)
  were_put (file ∷ []) rows renewed shown from to after some had same (number, next, between, entered, (same_rows, same_passes)) has same_after =
      let has_next : HasFolder size after next = subst (HasFolder size after) same_rows has in
      let same_between : AreSameFiles after between = subst (AreSameFiles after) same_passes same_after in
      (number, after, put_entered file.name.now file.bytes.now number rows next shown from between after entered had same has_next same_between, refl)
  were_put (file ∷ second ∷ files) rows renewed shown from to after some had same (number, next, between, entered, rest) has same_after =
      let stands = with_folder next between in
      let has_next = with_has next between entered.are_rows entered.few in (
        number,
        stands,
        put_entered file.name.now file.bytes.now number rows next shown from between stands entered had same has_next (with_same next between),
        were_put (second ∷ files) next renewed stands between to after (omega arith) has_next (with_same next between) rest has same_after,
      )

  then_entered : (files : List NewFile) (file : NewFile) (rows next renewed : List Row) (before between after : List Pass) (number : ℕ)
      → WereEntered size files rows next before between → WasEntered size file.name.now file.bytes.now number next renewed between after
      → WereEntered size (files ++ file ∷ []) rows renewed before after
  then_entered [] file rows next renewed before between after number (same_rows, same) entered =
      let of_rows = subst (λ rs. WasEntered size file.name.now file.bytes.now number rs renewed between after) same_rows entered in
      (number, renewed, after, subst (λ ps. WasEntered size file.name.now file.bytes.now number rows renewed ps after) same of_rows, (refl, refl))
  then_entered (first ∷ files) file rows next renewed before between after number (n, following, passes, entered, rest) last =
      (n, following, passes, entered, then_entered files file following next renewed passes between after number rest last)

  -- so many files are entered, and the folder and all its files are among the passes
  pub record Entering (files : List NewFile) (i : ℕ) (rows renewed : List Row) (before passes : List Pass) : Type 0 where
    pub were : WereEntered size (take i files) rows renewed before passes
    pub are_rows : All IsRow renewed
    pub folder : IsThere passes 1
    pub there : All (λ (row : Row). IsThere passes row.number) renewed

  pub entering_begins : (files : List NewFile) (rows : List Row) (passes : List Pass) → All IsRow rows → IsThere passes 1 → All (λ (row : Row). IsThere passes row.number) rows
      → Entering files 0 rows rows passes passes
  entering_begins files rows passes are folder there = record { were = (refl, refl); are_rows = are; folder = folder; there = there }

  still_there : (number : ℕ) (before after : List Pass) (file : File) → file_at number after ≡ Some file → ((n : ℕ) → n ≢ number → file_at n after ≡ file_at n before)
      → (n : ℕ) → IsThere before n → IsThere after n
  still_there number before after file there others n was = elim (cases_eq n number) [
    | inl same ↦ (file, ap (λ m. file_at m after) same ∙ there)
    | inr other ↦ (was.0, others n other ∙ was.1)
  ]

  all_there : (before after : List Pass) (rows : List Row) → ((n : ℕ) → IsThere before n → IsThere after n) → All (λ (row : Row). IsThere before row.number) rows
      → All (λ (row : Row). IsThere after row.number) rows
  all_there before after [] so all = All-nil (λ (row : Row). IsThere after row.number)
  all_there before after (row ∷ rows) so all =
      All-cons (λ (row : Row). IsThere after row.number) row rows (so row.number (All-head (λ (row : Row). IsThere before row.number) row rows all))
      (all_there before after rows so (All-tail (λ (row : Row). IsThere before row.number) row rows all))

  pub entering_goes_on : (files : List NewFile) (i : ℕ) (other : NewFile) (rows next renewed : List Row) (before between after : List Pass) (number : ℕ) → i < length files
      → Entering files i rows next before between
      → WasEntered size (get_or files i other).name.now (get_or files i other).bytes.now number next renewed between after
      → Entering files (i + 1) rows renewed before after
  entering_goes_on files i other rows next renewed before between after number low entering entered =
      let stays = still_there number between after entered.written.file entered.written.there entered.written.others in
      record {
        were =
            subst (λ fs. WereEntered size fs rows renewed before after) (sym (take_more files i other low))
            (then_entered (take i files) (get_or files i other) rows next renewed before between after number entering.were entered);
        are_rows = entered.are_rows;
        folder = stays 1 entering.folder;
        there =
            renewed_all (IsThere after) (record { name = (get_or files i other).name.now; number = number; bytes = length (get_or files i other).bytes.now }) next renewed
            (entered.written.file, entered.written.there) entered.renews (all_there between after next stays entering.there);
      }

  -- where no file was entered nothing changed
  pub none_put : (files : List NewFile) (count : ℕ) (rows renewed : List Row) (before after : List Pass) → count ≡ 0
      → WereEntered size (take count files) rows renewed before after → WerePut size (take count files) before after
  none_put files count rows renewed before after none were =
      let nothing : WereEntered size [] rows renewed before after = subst (λ n. WereEntered size (take n files) rows renewed before after) none were in
      subst (λ n. WerePut size (take n files) before after) (sym none) nothing.1

  -- all files were put, or those in front of one that was refused
  pub all_or_front : {T E : Type 0} (files : List NewFile) (count : ℕ) (outcome : Result T E) (before after : List Pass) → IfOk outcome (λ done. count ≡ length files)
      → WerePut size (take count files) before after
      → MatchResult outcome (λ done. WerePut size files before after) (λ refusal. (front : ℕ) × WerePut size (take front files) before after)
  all_or_front files count (Ok done) before after all were =
      subst (λ fs. WerePut size fs before after) (take_all count files (omega arith)) were
  all_or_front files count (Err refusal) before after all were = (count, were)
