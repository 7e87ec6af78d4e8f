-- The image has the nodes of each file's tree, so each path leads to the same address in both: the inodes that are
-- taken, in their order, give the contents of the trees.
use Rattle.std.proofs.Common.{◌≡◌, refl, sym, ◌∙◌, ap, ℕ, zero, suc, ◌≤◌, inl, [], ◌∷◌, ◌++◌, map, arith}
use Rattle.std.specs.Prelude.{Option, Some, None, filter}
use Rattle.std.specs.List.{filter_map}
use Rattle.std.specs.FinMap.{from_entries}
use Rattle.std.proofs.lemmas.List.{append-nil, map-append}
use Rattle.std.proofs.lemmas.List.Elements.{filter-append}
use Rattle.geometry.specs.declared.shape.Shape.{Shape}
use Rattle.geometry.specs.declared.geometry.Geometry.{Geometry}
use Rattle.geometry.specs.File.{File, Block}
use Rattle.image.specs.Image.{Image}
use Rattle.image.specs.Walk.{is_taken, up_to}
use Rattle.image.specs.Files.{below, block_at, file_of, files}
use Rattle.image_law.specs.Parts.{each, FileTree, inode_stored, stored_of, Parts, file_at, PartsLaw, Balanced, IsImageOf}
use Rattle.image_law.specs.Contents.{content_of, numbered, contents}
use Rattle.image_law.proofs.Trees.{HoldsAll}
use Rattle.image_law.proofs.Linking.{file_held}
use Rattle.image_law.proofs.Looking.{data_address_is}
use Rattle.image_law.proofs.Naming.{file_taken, none_taken, number_of}

pub file_is : (shape : Shape) (image : Image) (blocks : ℕ → Block) (file : FileTree) → HoldsAll image (stored_of file)
    → file_of shape image blocks file.inode ≡ content_of shape blocks file
file_is shape image blocks file held =
    let n = (held (inode_stored file) (inl refl)).1 in
    λ i. record {
      kind = (n i).kind;
      length = (n i).length;
      blocks = from_entries (filter_map (λ index. block_at blocks index (data_address_is image file held shape index i)) (below (n i).length));
    }

module _ (geometry : Geometry) (parts : Parts) (image : Image) (blocks : ℕ → Block) (law : PartsLaw geometry parts) (even : Balanced parts) (is : IsImageOf geometry parts image) where
  abbrev with_file : ℕ → ℕ × File
  with_file inode = (inode, file_of geometry.shape image blocks inode)

  files_up_to : (n : ℕ) → n ≤ geometry.files → map with_file (filter (is_taken image) (up_to n)) ≡ contents geometry.shape blocks parts n
  files_up_to zero low = refl
  files_up_to (suc n) low = go (files_up_to n (omega arith)) (file_at parts n) refl
    where
      go : map with_file (filter (is_taken image) (up_to n)) ≡ contents geometry.shape blocks parts n
          → (o : Option FileTree) → file_at parts n ≡ o
          → map with_file (filter (is_taken image) (up_to n ++ suc n ∷ []))
          ≡ contents geometry.shape blocks parts n ++ each (numbered geometry.shape blocks (suc n)) (file_at parts n)
      go there None e =
          let fit = geometry.limits.inodes in
          let none = none_taken geometry parts image law even is n (omega arith) (omega arith) e in
          let last : filter (is_taken image) (suc n ∷ []) ≡ [] = rw none refl in
          let all : filter (is_taken image) (up_to n ++ suc n ∷ []) ≡ filter (is_taken image) (up_to n)
          = filter-append (is_taken image) (up_to n) (suc n ∷ []) ∙ ap (λ xs. filter (is_taken image) (up_to n) ++ xs) last ∙ append-nil _ in
          ap (map with_file) all ∙ there ∙ sym (append-nil _)
          ∙ ap (λ (o : Option FileTree). contents geometry.shape blocks parts n ++ each (numbered geometry.shape blocks (suc n)) o) (sym e)
      go there (Some file) e =
          let taken = file_taken geometry parts image law even is n file e in
          let last : filter (is_taken image) (suc n ∷ []) ≡ suc n ∷ [] = rw taken refl in
          let number : file.inode ≡ suc n = number_of geometry parts image law even is n file e in
          let content : file_of geometry.shape image blocks (suc n) ≡ content_of geometry.shape blocks file
          = ap (file_of geometry.shape image blocks) (sym number) ∙ file_is geometry.shape image blocks file (file_held geometry parts image law even is n file e) in
          ap (map with_file) (filter-append (is_taken image) (up_to n) (suc n ∷ []) ∙ ap (λ xs. filter (is_taken image) (up_to n) ++ xs) last)
          ∙ map-append with_file (filter (is_taken image) (up_to n)) (suc n ∷ [])
          ∙ (λ i. there i ++ (suc n, content i) ∷ [])
          ∙ ap (λ (o : Option FileTree). contents geometry.shape blocks parts n ++ each (numbered geometry.shape blocks (suc n)) o) (sym e)

  pub files_are : files geometry image blocks ≡ contents geometry.shape blocks parts geometry.files
  files_are = files_up_to geometry.files (omega arith)
