-- A number that is taken is that of a file of the image, and no two files have one number.
use Rattle.std.proofs.Common.{◌≡◌, ◌∙◌, ◌≤◌, ℕ, zero, suc, true, Option, Some, None, IfSome, ap, sym, arith}
use Rattle.std.proofs.lemmas.Bool.{false≢true}
use Rattle.geometry.specs.File.{File, Block}
use Rattle.geometry.specs.declared.geometry.Geometry.{Geometry}
use Rattle.image.specs.Files.{file_of, files}
use Rattle.image.specs.Image.{Image}
use Rattle.image.specs.Walk.{is_taken, inodes, up_to}
use Rattle.image_law.specs.Items.{Among}
use Rattle.image_law.proofs.Ranges.{among-filter, among_up_to}
use Rattle.image_law.proofs.Weighing.{among-map, of_among-map}

module _ (geometry : Geometry) (image : Image) (blocks : ℕ → Block) where
  abbrev numbered : ℕ → ℕ × File
  numbered inode = (inode, file_of geometry.shape image blocks inode)

  pub file_there : (number : ℕ) → number ≤ geometry.files → is_taken image number ≡ true → Among (numbered number) (files geometry image blocks)
  file_there zero within taken = absurd (false≢true taken)
  file_there (suc n) within taken =
      among-map numbered (suc n) (inodes geometry image) (among-filter (is_taken image) (suc n) (up_to geometry.files) (among_up_to geometry.files n (omega arith)) taken)

  pub one_file : (number : ℕ) (file : File) → Among (number, file) (files geometry image blocks) → file ≡ file_of geometry.shape image blocks number
  one_file number file there =
      let found = of_among-map numbered (number, file) (inodes geometry image) there in
      let same : (found.0, file_of geometry.shape image blocks found.0) ≡ (number, file) = found.2 in
      sym (ap (λ (p : ℕ × File). p.1) same) ∙ ap (λ (n : ℕ). file_of geometry.shape image blocks n) (ap (λ (p : ℕ × File). p.0) same)

-- what holds of what is found, by another fact
pub if_some : {X : Type 0} (o : Option X) (P Q : X → Type 0) → ((x : X) → P x → Q x) → IfSome o P → IfSome o Q
if_some None P Q so is = tt
if_some (Some x) P Q so is = so x is
