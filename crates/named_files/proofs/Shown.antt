-- An image has one file of each number. So the passes with which a run begins show the files that the run before left, and what is got
-- out of the image is what the passes showed.
use Rattle.std.proofs.Common.{◌≡◌, ◌∙◌, ◌++◌, ℕ, cond, List, [], ◌∷◌, Some, None, unwrap_or, length, take, replicate, ap, sym, subst, refl, inl, inr}
use Rattle.std.proofs.lemmas.List.{take_at}
use Rattle.std.proofs.lemmas.Bool.Decides.{eqb_tells}
use Rattle.close_area.specs.Shown.{AreShown}
use Rattle.file_cells.specs.Pass.{Pass}
use Rattle.flash_volume.specs.Visited.{ArePassesOf}
use Rattle.flash_volume.specs.Worked.{AreSamePasses}
use Rattle.geometry.specs.File.{Block, File}
use Rattle.geometry.specs.declared.geometry.Geometry.{Geometry}
use Rattle.image.specs.Files.{file_of, files}
use Rattle.image.specs.Image.{Image}
use Rattle.image_law.proofs.Weighing.{among-map}
use Rattle.image_law.specs.Items.{Among}
use Rattle.image_reading.specs.Content.{all_bytes}
use Rattle.named_folder.specs.Folder.{Row, BeginsWith}
use Rattle.named_folder.specs.Names.{IsRowOf}
use Rattle.named_folder.proofs.Spelling.{rows_unique}
use Rattle.named_files.specs.Files.{file_at, IsThere}
use Rattle.named_files.specs.Kept.{HasNamed, IsOrderly}
use Rattle.named_files.proofs.Named.{one_row}
use Rattle.named_reading.specs.Named.{HasFile}
use Rattle.named_reading.proofs.Found.{one_file}

abbrev pass_of : ℕ → File → Pass
pass_of number file = record { number = number; file = file }

-- the first pass of a number is among the passes
among_first : (number : ℕ) (passes : List Pass) (file : File) → file_at number passes ≡ Some file → Among (pass_of number file) passes
among_first number [] file at = let none : None ≡ Some file = at in absurd (cc)
among_first number (pass ∷ passes) file at = elim (eqb_tells pass.number number) [
  | inl (t, e) ↦
      let here : Some pass.file ≡ Some file = sym (ap (λ b. cond b (Some pass.file) (file_at number passes)) t) ∙ at in
      let same : pass.file ≡ file = ap (λ o. unwrap_or o pass.file) here in
      inl (λ i. record { number = e i; file = same i })
  | inr (t, e) ↦ inr (among_first number passes file (sym (ap (λ b. cond b (Some pass.file) (file_at number passes)) t) ∙ at))
]

-- a number that is among the passes has a first pass
first_of : (number : ℕ) (passes : List Pass) (file : File) → Among (pass_of number file) passes → IsThere passes number
first_of number [] file among = absurd among
first_of number (pass ∷ passes) file among = elim (eqb_tells pass.number number) [
  | inl (t, e) ↦ (pass.file, ap (λ b. cond b (Some pass.file) (file_at number passes)) t)
  | inr (t, e) ↦
      let rest = first_of number passes file (elim among [ inl is ↦ absurd (e (ap (λ (p : Pass). p.number) is)) | inr later ↦ later ]) in
      (rest.0, ap (λ b. cond b (Some pass.file) (file_at number passes)) t ∙ rest.1)
]

module _ (geometry : Geometry) (image : Image) (blocks : ℕ → Block) where
  abbrev of : ℕ → File
  of number = file_of geometry.shape image blocks number

  -- a run begins with the passes of these files, which are those that were left
  module _ (left begun : List Pass) (same : AreSamePasses left begun) (are : ArePassesOf geometry image blocks begun) where
    of_begun : (number : ℕ) (file : File) → Among (pass_of number file) begun → file ≡ of number
    of_begun number file among =
        one_file geometry image blocks number file (subst (Among (number, file)) are (among-map (λ (pass : Pass). (pass.number, pass.file)) (pass_of number file) begun among))

    still_there : (number : ℕ) (file : File) → file_at number left ≡ Some file → file_at number begun ≡ Some file
    still_there number file at =
        let among = (same (pass_of number file)).0 (among_first number left file at) in
        let there = first_of number begun file among in
        there.1 ∙ ap (λ (f : File). Some f) (of_begun number there.0 (among_first number begun there.0 there.1) ∙ sym (of_begun number file among))

    pub named_next : (size : ℕ) (name bytes : List ℕ) → HasNamed size name bytes left → HasNamed size name bytes begun
    named_next size name bytes has = record {
      rows = has.rows;
      folder = record { folder = has.folder.folder; here = still_there 1 has.folder.folder has.folder.here; spelled = has.folder.spelled };
      row = has.row;
      named = has.named;
      count = has.count;
      file = has.file;
      there = still_there has.row.number has.file has.there;
      content = has.content;
    }

    pub orderly_next : (size : ℕ) → IsOrderly size left → IsOrderly size begun
    orderly_next size orderly = record {
      rows = orderly.rows;
      folder = record { folder = orderly.folder.folder; here = still_there 1 orderly.folder.folder orderly.folder.here; spelled = orderly.folder.spelled };
      own = orderly.own;
    }

  -- of the image's files a reader gets the bytes
  module _ (size : ℕ) (name bytes : List ℕ) (passes : List Pass) (got : List ℕ)
      (held : HasNamed size name bytes passes) (shown : AreShown (files geometry image blocks) passes) (has : HasFile size (files geometry image blocks) name got) where
    from_pass : (number : ℕ) (file : File) → file_at number passes ≡ Some file → file ≡ of number
    from_pass number file at = one_file geometry image blocks number file ((shown number file).1 (among_first number passes file at))

    same_folder : has.in_folder.folder ≡ held.folder.folder
    same_folder = one_file geometry image blocks 1 has.in_folder.folder has.in_folder.here ∙ sym (from_pass 1 held.folder.folder held.folder.here)

    same_rows : has.rows ≡ held.rows
    same_rows =
        rows_unique has.rows held.rows (all_bytes size held.folder.folder)
        (subst (λ folder. BeginsWith has.rows (all_bytes size folder)) same_folder has.in_folder.spelled) held.folder.spelled

    row_is : has.row ≡ held.row
    row_is = one_row name held.rows has.row held.row (subst (λ rows. IsRowOf name rows has.row) same_rows has.named) held.named

    same_file : has.file ≡ held.file
    same_file = one_file geometry image blocks has.row.number has.file has.there ∙ ap (λ (row : Row). of row.number) row_is ∙ sym (from_pass held.row.number held.file held.there)

    pub named_got : got ≡ bytes
    named_got =
        has.content
        ∙ ap (λ (row : Row). take row.bytes (all_bytes size has.file)) row_is
        ∙ ap (λ file. take held.row.bytes (all_bytes size file)) same_file
        ∙ ap (take held.row.bytes) held.content.spelled
        ∙ ap (λ n. take n (bytes ++ replicate held.content.zeros 0)) held.count
        ∙ take_at bytes (replicate held.content.zeros 0) (length bytes) refl
