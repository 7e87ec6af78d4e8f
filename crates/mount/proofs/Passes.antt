-- An inode that is taken has a file, whose pass shows it as the image does, and one that isn't has none: so the passes
-- so far show the image's files up to that number.
use Rattle.std.proofs.Common.{append-nil, ◌≡◌, ℕ, suc, ◌+◌, ◌-◌, ◌<◌, ◌≤◌, Bool, true, false, if◌then◌else◌, List, [], ◌∷◌, ◌++◌, length, get_or, map, Option, Some, None, inl, inr, refl, sym, ap, subst, ◌∙◌, arith}
use Rattle.std.specs.Prelude.{is_some, filter, MatchOption}
use Rattle.std.proofs.lemmas.List.{map-append, get_or-map}
use Rattle.std.specs.Option.{option_to_list}
use Rattle.geometry.specs.Weights.{weigh}
use Rattle.atomic_table.specs.Seated.{TableId}
use Rattle.geometry.specs.declared.geometry.Geometry.{Geometry}
use Rattle.geometry.specs.File.{File, Block}
use Rattle.rights_books.specs.Accounts.{FileView}
use Rattle.rights_books.specs.declared.claim.TakenNumber.{TakenNumber}
use Rattle.tickets.specs.Placed.{Placed}
use Rattle.nodes.specs.declared.file.FileState.{FileState}
use Rattle.nodes.specs.File.{IsFile, ticket_at, address_of, weight_of, file_of}
use Rattle.nodes.specs.Held.{AreHeld}
use Rattle.nodes.specs.Owners.{HasNumbers, AreNamed}
use Rattle.nodes.specs.Change.{of_tickets}
use Rattle.std.specs.FinMap.{len}
use Rattle.geometry.specs.Path.{largest_length}
use Rattle.geometry.specs.Shape.{block_bytes}
use Rattle.nodes_law.specs.Law.{FileStateLaw}
use Rattle.file_cells.specs.Cell.{IsLodged}
use Rattle.image.specs.Image.{Image, node_of}
use Rattle.image.specs.Files.{data_address, file_of as image_file}
use Rattle.image.specs.Rules.{IsLawful}
use Rattle.image.specs.Walk.{is_taken, up_to}
use Rattle.checkpoint.specs.Files.{IsStateOf, HoldContents}
use Rattle.checkpoint.proofs.ImageFiles.{shown_is_of_image}
use Rattle.mount_blocks.specs.TreeGoods.{Shelves, in_place}
use Rattle.mount_blocks.specs.Loaded.{of_rights}
use Rattle.mount_blocks.specs.Goods.{AreGoods}
use Rattle.image_codec.specs.Blocks.{bytes_at}
use Rattle.mount_blocks.specs.Table.{HaveBytes}
use Rattle.mount.specs.MountFiles.{HasFile, StandsFor, AreFiles}
use Rattle.mount.proofs.Accounted.{file_held, no_tickets_of, no_tokens_of}
use Rattle.mount.proofs.NothingLeft.{has_nothing}
use Rattle.file_cells.specs.Pass.{Pass}
use Rattle.mount.specs.Lodged.{HasLodged}

-- ---- the files so far

module _ {A : Type 0} (p : A → Bool) where
  pub kept_last : (xs : List A) (x : A) → p x ≡ true → filter p (xs ++ x ∷ []) ≡ filter p xs ++ x ∷ []
  kept_last [] x is = ap (λ (b : Bool). if b then x ∷ [] else []) is
  kept_last (y ∷ ys) x is = by_bit (p y) (kept_last ys x is)
    where
      by_bit : (b : Bool) → filter p (ys ++ x ∷ []) ≡ filter p ys ++ x ∷ [] → (if b then y ∷ filter p (ys ++ x ∷ []) else filter p (ys ++ x ∷ [])) ≡ (if b then y ∷ filter p ys else filter p ys) ++ x ∷ []
      by_bit true rest = ap (λ zs. y ∷ zs) rest
      by_bit false rest = rest

  pub left_last : (xs : List A) (x : A) → p x ≡ false → filter p (xs ++ x ∷ []) ≡ filter p xs
  left_last [] x is = ap (λ (b : Bool). if b then x ∷ [] else []) is
  left_last (y ∷ ys) x is = by_bit (p y) (left_last ys x is)
    where
      by_bit : (b : Bool) → filter p (ys ++ x ∷ []) ≡ filter p ys → (if b then y ∷ filter p (ys ++ x ∷ []) else filter p (ys ++ x ∷ [])) ≡ (if b then y ∷ filter p ys else filter p ys)
      by_bit true rest = ap (λ zs. y ∷ zs) rest
      by_bit false rest = rest

-- what a pass shows
abbrev pub shown : Pass → ℕ × File
shown pass = (pass.number, pass.file)

module _ (geometry : Geometry) (image : Image) (bytes : ℕ → Block) where
  abbrev pub named_file : ℕ → ℕ × File
  named_file inode = (inode, image_file geometry.shape image bytes inode)

  -- the files of the inodes up to a number
  abbrev pub files_to : ℕ → List (ℕ × File)
  files_to n = map named_file (filter (is_taken image) (up_to n))

  pub passes_none : (n m : ℕ) (passes : List Pass) → map shown passes ≡ files_to n → m ≡ suc n → is_taken image m ≡ false → map shown passes ≡ files_to m
  passes_none n m passes are next free =
      let here = subst (λ k. is_taken image k ≡ false) next free in
      let all : map shown passes ≡ files_to (suc n) = are ∙ sym (ap (map named_file) (left_last (is_taken image) (up_to n) (suc n) here)) in
      subst (λ k. map shown passes ≡ files_to k) (sym next) all

  pub passes_some : (n m : ℕ) (passes : List Pass) (pass : Pass) → map shown passes ≡ files_to n → m ≡ suc n → is_taken image m ≡ true
      → pass ≡ record { number = m; file = image_file geometry.shape image bytes m } → map shown (passes ++ pass ∷ []) ≡ files_to m
  passes_some n m passes pass are next taken is =
      map-append shown passes (pass ∷ [])
      ∙ ap (λ fs. fs ++ shown pass ∷ []) are
      ∙ ap (λ x. files_to n ++ x ∷ []) (ap shown is)
      ∙ ap (λ k. files_to n ++ named_file k ∷ []) next
      ∙ sym (map-append named_file (filter (is_taken image) (up_to n)) (suc n ∷ []))
      ∙ sym (ap (map named_file) (kept_last (is_taken image) (up_to n) (suc n) (subst (λ k. is_taken image k ≡ true) next taken)))
      ∙ ap files_to (sym next)

  pub passes_kept : (n m : ℕ) (passes : List Pass) (pass : Option Pass) → map shown passes ≡ files_to n → m ≡ suc n
      → MatchOption pass (is_taken image m ≡ false) (λ (p : Pass). (is_taken image m ≡ true) × (p ≡ record { number = m; file = image_file geometry.shape image bytes m }))
      → map shown (passes ++ option_to_list pass) ≡ files_to m
  passes_kept n m passes None are next free = ap (map shown) (append-nil passes) ∙ passes_none n m passes are next free
  passes_kept n m passes (Some pass) are next found = passes_some n m passes pass are next found.0 found.1

-- ---- one file

module _ {B L : Type 0} (geometry : Geometry) (image : Image) (inode : ℕ) (f : FileState B L) (number : f.token.number ≡ inode) (shape : f.shape ≡ geometry.shape) (is : IsFile f)
    (kind : f.kind ≡ (node_of image inode).kind) (size : f.length ≡ (node_of image inode).length)
    (slots : (index : ℕ) → address_of (ticket_at f index) ≡ data_address f.shape image inode index) (taken : is_taken image inode ≡ true) where
  state_of : IsStateOf image f
  state_of = record {
    there = ap (is_taken image) number ∙ taken;
    kind = kind ∙ ap (λ k. (node_of image k).kind) (sym number);
    length = size ∙ ap (λ k. (node_of image k).length) (sym number);
    slots = λ index low. slots index ∙ ap (λ k. data_address f.shape image k index) (sym number);
  }

  pub image_is : (bytes : ℕ → Block) → HoldContents bytes f → image_file geometry.shape image bytes inode ≡ file_of f
  image_is bytes held =
      ap (λ k. image_file geometry.shape image bytes k) (sym number)
      ∙ ap (λ s. image_file s image bytes f.token.number) (sym shape)
      ∙ shown_is_of_image image f state_of is bytes held

  -- what a pass shows that shows the file
  pub pass_is : (bytes : ℕ → Block) → HoldContents bytes f → ◌≡◌ {A = Pass} (record { number = f.token.number; file = file_of f }) (record { number = inode; file = image_file geometry.shape image bytes inode })
  pass_is bytes held = let same = sym (image_is bytes held) in λ i. record { number = number i; file = same i }

-- what a file's account has lodged, where a mounted volume's file is stored
pub lodged_of : {B L : Type 0} (geometry : Geometry) (f : FileState B L) (account : FileView) → IsFile f → f.length ≤ largest_length f.shape → HasNumbers f → AreNamed f
    → ((index : ℕ) (t : Placed) → ticket_at f index ≡ Some t → length t.content ≡ block_bytes f.shape) → weight_of f (of_tickets (λ (t : Placed). 1)) ≡ len (file_of f).blocks
    → f.shape ≡ geometry.shape → FileStateLaw geometry.files f → AreHeld f account.tickets account.tokens → IsLodged geometry account f
lodged_of geometry f account file short numbered named whole counted shape law held = record {
  stored = record {
    file = file;
    short = short;
    numbered = numbered;
    named = named;
    whole = whole;
    counted = counted;
  };
  shape_is = shape;
  law = law;
  lodged = held;
}

-- whether an inode has a file
module _ {A : Type 0} (geometry : Geometry) (image : Image) (Right : ℕ → A → Type 0) (inode : ℕ) (low : 1 ≤ inode) (high : inode ≤ geometry.files) where
  pub none_taken : (found : Option A) → found ≡ None → StandsFor geometry image Right inode found → is_taken image inode ≡ false
  none_taken found none stands = by_bit (is_taken image inode) refl
    where
      by_bit : (b : Bool) → is_taken image inode ≡ b → is_taken image inode ≡ false
      by_bit false e = e
      by_bit true e =
          let there = stands.file (record { low = low; high = high; taken = e }) in
          let no = ap (λ (o : Option (A)). is_some o) (sym none ∙ there.1) in cc

-- ---- the accounts

module _ {B L : Type 0} (geometry : Geometry) (image : Image) (lawful : IsLawful geometry image) (bytes : ℕ → List ℕ) (all : Shelves Placed) (goods : AreGoods geometry image bytes all.tickets all.tokens) (files : List (Option (FileState B L)))
    (are : AreFiles geometry image all files)
    (whole : (ticket : Placed → ℕ) (token : TakenNumber → ℕ) → weigh (in_place (λ (f : FileState B L). weight_of f (of_rights ticket token))) files ≡ weigh (in_place ticket) all.tickets + weigh (in_place token) all.tokens)
    (book : TableId) (inode : ℕ) (account : FileView) (has : HasLodged book image all inode account) where
  pub lodged_by : (found : Option (FileState B L)) → get_or files inode None ≡ found → MatchOption found ((account.tickets ≡ []) × (account.tokens ≡ [])) (λ file. AreHeld file account.tickets account.tokens)
  lodged_by None at = (
    has_nothing account.tickets (has.tickets (λ _. 1) ∙ no_tickets_of geometry image lawful bytes all goods files are whole inode at (λ _. 1)),
    has_nothing account.tokens (has.tokens (λ _. 1) ∙ no_tokens_of geometry image lawful bytes all goods files are whole inode at (λ _. 1)),
  )
  lodged_by (Some f) at = file_held geometry image lawful bytes all goods files are whole inode f at account.tickets account.tokens has.tickets has.tokens

-- ---- the bytes of a device's blocks

pub have_bytes : {B : Type 0} (content : B → List ℕ) (blocks : List B) → HaveBytes content (bytes_at content blocks) blocks
have_bytes content blocks k other low =
    let back : k + 1 - 1 ≡ k = omega arith in
    sym (ap (λ j. get_or (map content blocks) j []) back ∙ get_or-map content blocks k other [] low)
