-- An image of the written files has their trees, and the main blocks hold what the tickets and tokens showed: so its
-- files over them are, each at its number, what the passes show.
use Rattle.std.proofs.Common.{◌≡◌, ◌≢◌, ℕ, zero, suc, ◌+◌, ◌<◌, ◌≤◌, List, [], ◌∷◌, ◌++◌, Option, Some, None, length, map, get_or, refl, sym, ap, subst, ◌∙◌, inl, inr, arith}
use Rattle.std.specs.Prelude.{slice_get, ◌⊎◌, ◌↔◌}
use Rattle.std.proofs.lemmas.Bool.{cases_lt}
use Rattle.atomic_table.specs.Seated.{TableId}
use Rattle.geometry.specs.declared.geometry.Geometry.{Geometry}
use Rattle.geometry.specs.declared.shape.Shape.{Shape}
use Rattle.geometry.specs.File.{Block, File}
use Rattle.geometry.specs.Path.{largest_length}
use Rattle.image.specs.Image.{Image}
use Rattle.image.specs.Node.{Spells}
use Rattle.image.specs.Files.{files}
use Rattle.image.specs.Reading.{read_nodes}
use Rattle.image_law.specs.Items.{Among}
use Rattle.image_law.specs.Parts.{FileTree, Stored, Parts, Token, stored_of, file_at, each}
use Rattle.image_law.specs.Assembled.{AreSpelled}
use Rattle.image_law.specs.Contents.{contents, content_of, numbered}
use Rattle.checkpoint_image.specs.Cells.{Filed, IsWrittenIn, parts_of, tree_in}
use Rattle.checkpoint_image.proofs.Laws.{read_holds}
use Rattle.checkpoint.specs.Files.{HoldContents}
use Rattle.nodes.specs.declared.file.FileState.{FileState}
use Rattle.nodes.specs.File.{file_of}
use Rattle.checkpoint_sync.specs.TreeOf.{seen, tree_of}
use Rattle.checkpoint_sync.proofs.Contents.{content_is}
use Rattle.checkpoint_sync.specs.FileParts.{filed_of, IsFlushed, IsFlushedOrNone}
use Rattle.checkpoint_sync.proofs.Filing.{filed}
use Rattle.file_cells.specs.Cell.{CellView}
use Rattle.file_cells.specs.Pass.{Pass}
use Rattle.checkpoint_sync.specs.WrittenFiles.{AreWritten}
use Rattle.checkpoint_sync.specs.TakenFrom.{IsTakenFrom, cells_with}
use Rattle.close_area.specs.HeldTokens.{HoldTokens}
use Rattle.close_area.specs.Returned.{IsFileOf}
use Rattle.close_area.specs.Shown.{AreShown}
use Rattle.close_area.proofs.Giving.{some_same}

of_append : {A : Type 0} (x : A) (xs ys : List A) → Among x (xs ++ ys) → Among x xs ⊎ Among x ys
of_append x [] ys m = inr m
of_append x (y ∷ xs) ys (inl e) = inl (inl e)
of_append x (y ∷ xs) ys (inr m) = elim (of_append x xs ys m) [
  | inl before ↦ inl (inr before)
  | inr after ↦ inr after
]

in_front : {A : Type 0} (x : A) (xs ys : List A) → Among x xs → Among x (xs ++ ys)
in_front x [] ys m = absurd m
in_front x (y ∷ xs) ys (inl e) = inl e
in_front x (y ∷ xs) ys (inr m) = inr (in_front x xs ys m)

behind : {A : Type 0} (x : A) (xs ys : List A) → Among x ys → Among x (xs ++ ys)
behind x [] ys m = m
behind x (y ∷ xs) ys m = inr (behind x xs ys m)

module _ {B L : Type 0} where
  abbrev filed_in : CellView B L → Filed
  filed_in c = filed_of c.account c.state

  -- the file whose tree stands at a place
  record IsTreeOf (xs : List (CellView B L)) (k : ℕ) (tree : FileTree) : Type 0 where
    pub cell : CellView B L
    pub state : FileState B L
    pub there : slice_get xs k ≡ Some cell
    pub lives : cell.state ≡ Some state
    pub tree_is : tree_of state ≡ tree

  tree_found : (xs : List (CellView B L)) (k : ℕ) (tree : FileTree) → get_or (map tree_in (map filed_in xs)) k None ≡ Some tree → IsTreeOf xs k tree
  tree_found [] k tree e = absurd (cc)
  tree_found (x ∷ xs) zero tree e = go x.state refl e
    where
      go : (o : Option (FileState B L)) → x.state ≡ o → seen tree_of o ≡ Some tree → IsTreeOf (x ∷ xs) zero tree
      go None is none = absurd (cc)
      go (Some f) is found = record { cell = x; state = f; there = refl; lives = is; tree_is = some_same (tree_of f) tree found }
  tree_found (x ∷ xs) (suc k) tree e =
      let rest = tree_found xs k tree e in
      record { cell = rest.cell; state = rest.state; there = rest.there; lives = rest.lives; tree_is = rest.tree_is }

  tree_there : (xs : List (CellView B L)) (k : ℕ) (c : CellView B L) (f : FileState B L) → slice_get xs k ≡ Some c → c.state ≡ Some f → get_or (map tree_in (map filed_in xs)) k None ≡ Some (tree_of f)
  tree_there [] k c f there lives = absurd (cc)
  tree_there (x ∷ xs) zero c f there lives = ap (λ (y : CellView B L). seen tree_of y.state) (some_same x c there) ∙ ap (seen tree_of) lives
  tree_there (x ∷ xs) (suc k) c f there lives = tree_there xs k c f there lives

  module _ (book : TableId) (geometry : Geometry) (cells : List (CellView B L)) (image : Image) (bytes : ℕ → Block) (passes : List Pass)
      (are : AreWritten book geometry cells) (taken : IsTakenFrom geometry (map filed_in cells) image)
      (hold : (k : ℕ) (c : CellView B L) (f : FileState B L) → slice_get cells k ≡ Some c → c.state ≡ Some f → HoldContents bytes f × HoldTokens bytes c.account.tokens) where
    abbrev parts : Parts
    parts = parts_of (cells_with taken.area (map filed_in cells))

    flushed : (k : ℕ) (c : CellView B L) (f : FileState B L) → slice_get cells k ≡ Some c → c.state ≡ Some f → IsFlushed geometry c.account.inode c.account f
    flushed k c f there lives = subst (IsFlushedOrNone geometry c.account.inode c.account) lives (are k c there).1.flushed

    spelled : AreSpelled geometry parts bytes
    spelled k tree s at m =
        let t = tree_found cells k tree at in
        let law = taken.parts.law.files k tree at in
        let mine = subst (λ (x : FileTree). Among s (stored_of x)) (sym t.tree_is) m in
        let w : IsWrittenIn geometry.shape t.cell.account.tokens s = (filed geometry t.cell.account.inode t.cell.account (Some t.state) (flushed k t.cell t.state t.there t.lives)).written s mine in
        let address : w.token.address ≡ s.address = ap (λ (x : Token). x.address) w.token_is in
        let some : w.token.address ≢ 0 = (λ e. law.flushed s m (sym address ∙ e)) in
        let here = (hold k t.cell t.state t.there t.lives).1 w.token w.lodged (positive w.token.address some) in
        subst (λ (b : List ℕ). Spells geometry.shape b s.node) (sym here ∙ ap bytes address) w.spelled
      where
        positive : (n : ℕ) → n ≢ 0 → 0 < n
        positive zero not = absurd (not refl)
        positive (suc n) not = omega arith

    -- the nodes of the image are those that its table names in the blocks
    pub nodes_are : image.nodes ≡ read_nodes geometry.shape bytes image.node_table
    nodes_are = read_holds geometry parts image bytes taken.parts.law taken.parts.balanced taken.assembled spelled

    content : (k : ℕ) (c : CellView B L) (f : FileState B L) → slice_get cells k ≡ Some c → c.state ≡ Some f → content_of geometry.shape bytes (tree_of f) ≡ file_of f
    content k c f there lives =
        let is = flushed k c f there lives in
        subst (λ (s : Shape). content_of s bytes (tree_of f) ≡ file_of f) is.shape
        (content_is f is.file (subst (λ (s : Shape). f.length ≤ largest_length s) (sym is.shape) is.short) bytes (hold k c f there lives).0)

    module _ (given : (k : ℕ) (c : CellView B L) (f : FileState B L) → slice_get cells k ≡ Some c → c.state ≡ Some f → Among (record { number = k + 1; file = file_of f }) passes)
        (shown : (pass : Pass) → Among pass passes → IsFileOf cells pass) where
      to : (n number : ℕ) (file : File) → Among (number, file) (contents geometry.shape bytes parts n) → Among (record { number = number; file = file }) passes
      to zero number file m = absurd m
      to (suc n) number file m = elim (of_append (number, file) (contents geometry.shape bytes parts n) (each (numbered geometry.shape bytes (suc n)) (file_at parts n)) m) [
        | inl before ↦ to n number file before
        | inr here ↦ go (file_at parts n) refl here
      ]
        where
          go : (o : Option FileTree) → file_at parts n ≡ o → Among (number, file) (each (numbered geometry.shape bytes (suc n)) o) → Among (record { number = number; file = file }) passes
          go None at m' = absurd m'
          go (Some tree) at (inr m') = absurd m'
          go (Some tree) at (inl e) =
              let t = tree_found cells n tree at in
              let same : content_of geometry.shape bytes tree ≡ file_of t.state = ap (content_of geometry.shape bytes) (sym t.tree_is) ∙ content n t.cell t.state t.there t.lives in
              let file_is : file_of t.state ≡ file = sym same ∙ ap (λ (x : ℕ × File). x.1) e in
              let next : n + 1 ≡ suc n = omega arith in
              let number_is : n + 1 ≡ number = next ∙ ap (λ (x : ℕ × File). x.0) e in
              subst (λ (x : ℕ × File). Among (record { number = x.0; file = x.1 }) passes) (λ i. (number_is i, file_is i)) (given n t.cell t.state t.there t.lives)

      from : (n k : ℕ) (c : CellView B L) (f : FileState B L) → k < n → slice_get cells k ≡ Some c → c.state ≡ Some f → Among (k + 1, file_of f) (contents geometry.shape bytes parts n)
      from zero k c f low there lives = absurd (omega arith)
      from (suc n) k c f low there lives = elim (cases_lt k n) [
        | inl before ↦ in_front (k + 1, file_of f) (contents geometry.shape bytes parts n) (each (numbered geometry.shape bytes (suc n)) (file_at parts n)) (from n k c f before there lives)
        | inr last ↦
            let here : n ≡ k = omega arith in
            let next : suc n ≡ k + 1 = omega arith in
            let at : file_at parts n ≡ Some (tree_of f) = ap (file_at parts) here ∙ tree_there cells k c f there lives in
            behind (k + 1, file_of f) (contents geometry.shape bytes parts n) (each (numbered geometry.shape bytes (suc n)) (file_at parts n))
            (subst (λ (o : Option FileTree). Among (k + 1, file_of f) (each (numbered geometry.shape bytes (suc n)) o)) (sym at)
            (inl (λ i. (next i, content k c f there lives i))))
      ]

      -- its files over the blocks are what the passes show
      pub files_shown : length cells ≡ geometry.files → AreShown (files geometry image bytes) passes
      files_shown every number file =
          let is = taken.faithful.files_are bytes in (
            (λ m. to geometry.files number file (subst (Among (number, file)) is m)),
            (λ m.
                let p = shown (record { number = number; file = file }) m in
                let low = within cells p.place p.cell p.there in
                subst (Among (number, file)) (sym is)
                (subst (λ (x : ℕ × File). Among x (contents geometry.shape bytes parts geometry.files)) (λ i. (sym p.number i, sym p.file i)) (from geometry.files p.place p.cell p.state (omega (arith, low, every)) p.there p.lives))),
          )
        where
          within : (xs : List (CellView B L)) (k : ℕ) (x : CellView B L) → slice_get xs k ≡ Some x → k < length xs
          within [] k x e = absurd (cc)
          within (y ∷ xs) zero x e = omega arith
          within (y ∷ xs) (suc k) x e = let rest = within xs k x e in omega arith
