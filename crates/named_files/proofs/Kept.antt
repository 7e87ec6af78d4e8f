-- What was put stays under its name while what has other names is changed: the folder keeps its row, and since no two rows have one
-- number, no other file that changes is its own.
use Rattle.std.proofs.Common.{◌≡◌, ◌≢◌, ◌∙◌, ◌<◌, ℕ, List, [], ◌∷◌, All, unwrap_or, length, ap, sym, subst, refl, inl, inr, arith}
use Rattle.std.proofs.lemmas.List.Elements.{All-head, All-tail}
use Rattle.file_cells.specs.Pass.{Pass}
use Rattle.geometry.specs.File.{File}
use Rattle.image_reading.specs.Content.{all_bytes}
use Rattle.named_folder.specs.Folder.{Row, BeginsWith, IsRow}
use Rattle.named_folder.specs.Names.{HasNoRow, IsRowOf}
use Rattle.named_folder.proofs.Spelling.{rows_unique}
use Rattle.named_files.specs.Files.{file_at, HasFolder, WasPut, WasRemoved, WasDeleted, WasRenamed}
use Rattle.named_files.specs.Kept.{HasNamed, HaveOwnNumbers, IsOrderly, IsRunOn}
use Rattle.named_files.specs.Many.{WerePut}
use Rattle.named_files.specs.declared.work.put_all.NewFile.{NewFile}
use Rattle.named_files.proofs.Named.{not_free, removed_other, removed_own, renamed_other, renamed_own, renewed_new, renewed_other, renewed_row, renewed_same, rows_apart}
use Rattle.named_files.proofs.Rows.{row_of_all}

not_folder : (number : ℕ) → 1 < number → number ≢ 1
not_folder number past is = omega arith

module _ (size : ℕ) where
  -- passes have one folder
  one_folder : (passes : List Pass) (rows others : List Row) → HasFolder size passes rows → HasFolder size passes others → rows ≡ others
  one_folder passes rows others has too =
      let same : has.folder ≡ too.folder = ap (λ o. unwrap_or o has.folder) (sym has.here ∙ too.here) in
      rows_unique rows others (all_bytes size too.folder) (subst (λ (file : File). BeginsWith rows (all_bytes size file)) same has.spelled) too.spelled

  own_of : (passes : List Pass) (rows : List Row) → HasFolder size passes rows → IsOrderly size passes → HaveOwnNumbers rows
  own_of passes rows has orderly = subst HaveOwnNumbers (one_folder passes orderly.rows rows orderly.folder has) orderly.own

  pub put_named : (name bytes : List ℕ) (number : ℕ) (before after : List Pass) → WasPut size name bytes number before after → HasNamed size name bytes after
  put_named name bytes number before after put = record {
    rows = put.renewed;
    folder = put.has_folder;
    row = record { name = name; number = number; bytes = length bytes };
    named = renewed_row (record { name = name; number = number; bytes = length bytes }) put.rows put.renewed put.renews;
    count = refl;
    file = put.file;
    there = put.there;
    content = put.content;
  }

  put_orderly : (name bytes : List ℕ) (number : ℕ) (before after : List Pass) → IsOrderly size before → WasPut size name bytes number before after → IsOrderly size after
  put_orderly name bytes number before after orderly put =
      let new : Row = record { name = name; number = number; bytes = length bytes } in
      let own = own_of before put.rows put.had_folder orderly in
      record {
        rows = put.renewed;
        folder = put.has_folder;
        own = elim put.own [
          | inl had ↦ renewed_same new put.rows put.renewed had.0 had.1 had.2 put.renews own
          | inr none ↦ renewed_new new put.rows put.renewed none.1 put.renews own
        ];
      }

  many_orderly : (files : List NewFile) (before after : List Pass) → IsOrderly size before → WerePut size files before after → IsOrderly size after
  many_orderly [] before after orderly same = subst (IsOrderly size) (sym same) orderly
  many_orderly (file ∷ files) before after orderly (number, between, put, rest) =
      many_orderly files between after (put_orderly file.name.now file.bytes.now number before between orderly put) rest

  removed_orderly : (name : List ℕ) (before after : List Pass) → IsOrderly size before → WasRemoved size name before after → IsOrderly size after
  removed_orderly name before after orderly removed = record {
    rows = removed.left;
    folder = removed.has_folder;
    own = removed_own name removed.rows removed.left removed.removes (own_of before removed.rows removed.had_folder orderly);
  }

  renamed_orderly : (name to : List ℕ) (before after : List Pass) → IsOrderly size before → WasRenamed size name to before after → IsOrderly size after
  renamed_orderly name to before after orderly renamed = record {
    rows = renamed.renamed;
    folder = renamed.has_folder;
    own = renamed_own name to renamed.rows renamed.renamed renamed.renames (own_of before renamed.rows renamed.had_folder orderly);
  }

  deleted_orderly : (name : List ℕ) (before after : List Pass) → IsOrderly size before → WasDeleted size name before after → IsOrderly size after
  deleted_orderly name before after orderly deleted = record {
    rows = deleted.rows;
    folder = deleted.has_folder;
    own = own_of before deleted.rows deleted.had_folder orderly;
  }

  pub run_orderly : (before after : List Pass) → IsOrderly size before → IsRunOn (λ name. Unit {0}) size before after → IsOrderly size after
  run_orderly before after orderly run = elim run [
    | inl put ↦ put_orderly put.0 put.1 put.2 before after orderly put.4
    | inr others ↦ elim others [
      | inl many ↦ many_orderly many.0 before after orderly many.2
      | inr more ↦ elim more [
        | inl removed ↦ removed_orderly removed.0 before after orderly removed.2
        | inr rest ↦ elim rest [
          | inl renamed ↦ renamed_orderly renamed.0 renamed.1 before after orderly renamed.3
          | inr last ↦ elim last [
            | inl deleted ↦ deleted_orderly deleted.0 before after orderly deleted.2
            | inr same ↦ subst (IsOrderly size) (sym same) orderly
          ]
        ]
      ]
    ]
  ]

  module _ (name bytes : List ℕ) (before after : List Pass) (has : HasNamed size name bytes before) where
    named_in : (rows : List Row) → HasFolder size before rows → IsRowOf name rows has.row
    named_in rows folder = subst (λ (rs : List Row). IsRowOf name rs has.row) (one_folder before has.rows rows has.folder folder) has.named

    -- the file of the row is another one than the folder
    past : has.row.number ≢ 1
    past = not_folder has.row.number (row_of_all IsRow name has.rows has.row has.folder.spelled.are_rows has.named).not_folder

    -- the folder has the row again, and the file is there
    still : (rows : List Row) → HasFolder size after rows → IsRowOf name rows has.row → file_at has.row.number after ≡ file_at has.row.number before → HasNamed size name bytes after
    still rows folder named same = record {
      rows = rows;
      folder = folder;
      row = has.row;
      named = named;
      count = has.count;
      file = has.file;
      there = same ∙ has.there;
      content = has.content;
    }

    put_keeps : IsOrderly size before → (other others : List ℕ) (number : ℕ) → other ≢ name → WasPut size other others number before after → HasNamed size name bytes after
    put_keeps orderly other others number differ put =
        let new : Row = record { name = other; number = number; bytes = length others } in
        let named = named_in put.rows put.had_folder in
        let own = own_of before put.rows put.had_folder orderly in
        let apart : has.row.number ≢ number
        = elim put.own [
          | inl had ↦ λ is. rows_apart name other put.rows has.row had.0 (λ same. differ (sym same)) own named had.1 (is ∙ sym had.2)
          | inr none ↦ row_of_all (λ (row : Row). row.number ≢ number) name put.rows has.row none.1 named
        ] in
        still put.renewed put.has_folder (renewed_other new name put.rows put.renewed has.row differ put.renews named) (put.others has.row.number past apart)

    removal_keeps : IsOrderly size before → (other : List ℕ) → other ≢ name → WasRemoved size other before after → HasNamed size name bytes after
    removal_keeps orderly other differ removed =
        let named = named_in removed.rows removed.had_folder in
        let own = own_of before removed.rows removed.had_folder orderly in
        let apart = rows_apart name other removed.rows has.row removed.row (λ same. differ (sym same)) own named removed.named in
        still removed.left removed.has_folder (removed_other other name removed.rows removed.left has.row differ removed.removes named) (removed.others has.row.number past apart)

    renaming_keeps : (other to : List ℕ) → other ≢ name → WasRenamed size other to before after → HasNamed size name bytes after
    renaming_keeps other to differ renamed =
        let named = named_in renamed.rows renamed.had_folder in
        let free : to ≢ name = λ same. not_free name renamed.rows has.row (subst (λ (n : List ℕ). HasNoRow n renamed.rows) same renamed.free) named in
        still renamed.renamed renamed.has_folder (renamed_other other to name renamed.rows renamed.renamed has.row differ free renamed.renames named) (renamed.others has.row.number past)

    deletion_keeps : IsOrderly size before → (other : List ℕ) → other ≢ name → WasDeleted size other before after → HasNamed size name bytes after
    deletion_keeps orderly other differ deleted =
        let named = named_in deleted.rows deleted.had_folder in
        let own = own_of before deleted.rows deleted.had_folder orderly in
        let apart = rows_apart name other deleted.rows has.row deleted.row (λ same. differ (sym same)) own named deleted.named in
        still deleted.rows deleted.has_folder named (deleted.others has.row.number apart)

  module _ (name bytes : List ℕ) where
    many_keep : (files : List NewFile) (before after : List Pass) → HasNamed size name bytes before → IsOrderly size before → All (λ (file : NewFile). file.name.now ≢ name) files
        → WerePut size files before after → HasNamed size name bytes after
    many_keep [] before after has orderly others same = subst (HasNamed size name bytes) (sym same) has
    many_keep (file ∷ files) before after has orderly others (number, between, put, rest) =
        many_keep files between after
        (put_keeps name bytes before between has orderly file.name.now file.bytes.now number (All-head (λ (file : NewFile). file.name.now ≢ name) file files others) put)
        (put_orderly file.name.now file.bytes.now number before between orderly put) (All-tail (λ (file : NewFile). file.name.now ≢ name) file files others) rest

    pub run_keeps : (before after : List Pass) → HasNamed size name bytes before → IsOrderly size before → IsRunOn (λ other. other ≢ name) size before after → HasNamed size name bytes after
    run_keeps before after has orderly run = elim run [
      | inl put ↦ put_keeps name bytes before after has orderly put.0 put.1 put.2 put.3 put.4
      | inr others ↦ elim others [
        | inl many ↦ many_keep many.0 before after has orderly many.1 many.2
        | inr more ↦ elim more [
          | inl removed ↦ removal_keeps name bytes before after has orderly removed.0 removed.1 removed.2
          | inr rest ↦ elim rest [
            | inl renamed ↦ renaming_keeps name bytes before after has renamed.0 renamed.1 renamed.2 renamed.3
            | inr last ↦ elim last [
              | inl deleted ↦ deletion_keeps name bytes before after has orderly deleted.0 deleted.1 deleted.2
              | inr same ↦ subst (HasNamed size name bytes) (sym same) has
            ]
          ]
        ]
      ]
    ]
