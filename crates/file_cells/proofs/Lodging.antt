-- Taking all that is lodged into an empty hand and lodging it again loses nothing: so what a call makes of the hand is
-- what the account has after it, and the hand is empty again.
use Rattle.std.proofs.Common.{◌≡◌, ◌<◌, ◌≤◌, ℕ, length, true, Option, Some, None, List, [], ◌∷◌, ◌++◌, refl, sym, ap, subst, ◌∙◌, arith}
use Rattle.std.specs.Prelude.{is_some, MatchOption, unwrap_or, replicate}
use Rattle.tickets.specs.Placed.{Placed}
use Rattle.nodes.proofs.Files.{shows_file_of}
use Rattle.atomic_table.specs.Seated.{TableId}
use Rattle.geometry.specs.Weights.{weigh}
use Rattle.geometry.specs.declared.geometry.Geometry.{Geometry}
use Rattle.geometry.specs.declared.kind.Kind.{Kind}
use Rattle.geometry.specs.File.{File, Block, bytes_at, new_file}
use Rattle.geometry.specs.Shape.{block_bytes}
use Rattle.rights_books.specs.Accounts.{FileView, HandView, PassView}
use Rattle.rights_books.specs.declared.claim.FileContent.{FileContent}
use Rattle.rights_books.specs.declared.claim.TakenNumber.{TakenNumber}
use Rattle.rights_books.specs.Contents.{as_content, as_file}
use Rattle.rights_books.specs.Rules.{bare_entry}
use Rattle.rights_books.proofs.Contents.{as_file_again}
use Rattle.rights_permits.specs.Turns.{at_home}
use Rattle.nodes.specs.declared.file.FileState.{FileState}
use Rattle.nodes.specs.File.{IsFile, IsBare, inode_of, ticket_at, blocks_below, content_of, file_of}
use Rattle.nodes.specs.Held.{AreHeld, no_others}
use Rattle.nodes_law.specs.Law.{FileStateLaw}
use Rattle.nodes_law.proofs.Lasting.{law_new}
use Rattle.nodes_law.specs.Contents.{InHand, Serves, AreWhole as Whole}
use Rattle.file_cells.proofs.Born.{stored_new, in_hand_new}
use Rattle.file_cells.specs.Cell.{IsLodged, IsCell, CellView}
use Rattle.file_cells.specs.Pass.{Pass, IsPassOf, AreWhole, AreWithin}
use Rattle.file_cells.specs.Serving.{CanServe}

pub same_number : {B L : Type 0} {x y : CellView B L} → x ≡ y → x.number ≡ y.number
same_number {B} {L} is = ap (λ (c : CellView B L). c.number) is

-- all is taken into the hand, and lodged again
abbrev pub emptied : FileView → FileView
emptied a = record a { tickets = []; tokens = [] }

abbrev pub holding : FileView → HandView → HandView
holding a h = record h { tickets = h.tickets ++ a.tickets; tokens = h.tokens ++ a.tokens }

abbrev pub refilled : HandView → FileView → FileView
refilled h a = record a { tickets = a.tickets ++ h.tickets; tokens = a.tokens ++ h.tokens }

abbrev pub released : HandView → HandView
released h = record h { tickets = []; tokens = [] }

module _ (book : TableId) (a a1 a2 : FileView) (h h1 h2 h3 : HandView) (home : h ≡ at_home book) where
  -- what was lodged is in hand
  pub taken : h1 ≡ holding a h → h1 ≡ record { book = book; tickets = a.tickets; tokens = a.tokens }
  taken is = is ∙ ap (holding a) home

  pub home_again : h1 ≡ holding a h → h2.book ≡ h1.book → h3 ≡ released h2 → h3 ≡ h
  home_again is same empty = empty ∙ (ap at_home (same ∙ ap (λ (v : HandView). v.book) (taken is)) ∙ sym home)

  pub account_kept : a1 ≡ emptied a → a2 ≡ refilled h2 a1 → (a2.book ≡ a.book) × (a2.inode ≡ a.inode) × (a2.content ≡ a.content)
  account_kept empty full =
      let both = full ∙ ap (refilled h2) empty in
      (ap (λ (v : FileView). v.book) both, ap (λ (v : FileView). v.inode) both, ap (λ (v : FileView). v.content) both)

  module _ {B L : Type 0} where
    pub in_hand : (f : FileState B L) → h1 ≡ holding a h → AreHeld f a.tickets a.tokens → InHand no_others f h1
    in_hand f is held = subst (λ (v : HandView). InHand no_others f v) (sym (taken is)) held

    -- and is lodged again
    pub lodged : (f : FileState B L) → a1 ≡ emptied a → a2 ≡ refilled h2 a1 → InHand no_others f h2 → AreHeld f a2.tickets a2.tokens
    lodged f empty full held = subst (λ (v : FileView). AreHeld f v.tickets v.tokens) (sym (full ∙ ap (refilled h2) empty)) held

    pub lodged_again : (geometry : Geometry) (f g : FileState B L) → IsLodged geometry a f → a1 ≡ emptied a → a2 ≡ refilled h2 a1 → h1 ≡ holding a h → Serves f g h1 h2 → FileStateLaw geometry.files g → IsLodged geometry a2 g
    lodged_again geometry f g was empty full is serves law = record {
      stored = serves.stored;
      shape_is = serves.shape ∙ was.shape_is;
      law = law;
      lodged = lodged g empty full (serves.others no_others (in_hand f is was.lodged));
    }

-- the hand that a lodged account came into is of its books, and holds the file
module _ (book : TableId) (a : FileView) (h h1 : HandView) (home : h ≡ at_home book) (is : h1 ≡ holding a h) where
  pub lent_book : h1.book ≡ book
  lent_book = ap (λ (v : HandView). v.book) (taken book a a a h h1 h h home is)

  pub lent_all : {B L : Type 0} (f : FileState B L) → AreHeld f a.tickets a.tokens → InHand no_others f h1
  lent_all f held = in_hand book a a a h h1 h h home f is held

  -- a file that is lodged in the account can be served with what was taken out of it
  pub lent_file : {B L : Type 0} (geometry : Geometry) (f : FileState B L) → IsLodged geometry a f → CanServe geometry book f h1
  lent_file geometry f lodged = record { book_is = lent_book; shape_is = lodged.shape_is; stored = lodged.stored; law = lodged.law; held = (no_others, lent_all f lodged.lodged) }

  -- what is lodged again is of the books that it was of
  pub books_again : (a1 : FileView) (h2 : HandView) (other : TableId) → a1 ≡ emptied a → a.book ≡ book → other ≡ book → h2.book ≡ h1.book → (a1.book ≡ other) × (h2.book ≡ other)
  books_again a1 h2 other empty its same kept = (ap (λ (v : FileView). v.book) empty ∙ its ∙ sym same, kept ∙ lent_book ∙ sym same)

-- ---- the file that a pass shows

abbrev some_content : Option FileContent → FileContent → FileContent
some_content None other = other
some_content (Some c) other = c

pub same_content : (c d : FileContent) → Some c ≡ Some d → c ≡ d
same_content c d e = ap (λ o. some_content o c) e

-- what the account shows is the file of its state
pub shown_file : {B L : Type 0} (f : FileState B L) (o : Option FileContent) (c : FileContent) → o ≡ Some (as_content (file_of f)) → o ≡ Some c → as_file c ≡ file_of f
shown_file f o c state pass = ap as_file (same_content c (as_content (file_of f)) (sym pass ∙ state)) ∙ as_file_again (file_of f)

-- a file without a state is shown by no pass
pub no_pass : (o : Option FileContent) (c : FileContent) → o ≡ None → o ≡ Some c → ⊥
no_pass o c none some = let no = ap (λ (x : Option FileContent). is_some x) (sym some ∙ none) in cc

-- ---- the cell and the pass after a call

module _ {B L : Type 0} (book : TableId) (geometry : Geometry) (number : ℕ) (a : FileView) (f : FileState B L) (was : IsCell book geometry number a (Some f)) where
  -- the file is as it was
  pub cell_kept : (a2 : FileView) (g : FileState B L) → IsLodged geometry a2 g → g.token.number ≡ f.token.number → (a2.book ≡ a.book) × (a2.inode ≡ a.inode) × (a2.content ≡ a.content)
      → file_of g ≡ file_of f → IsCell book geometry number a2 (Some g)
  cell_kept a2 g lodged named kept same = record {
    book_is = kept.0 ∙ was.book_is;
    inode_is = kept.1 ∙ was.inode_is;
    keeps = (lodged, named ∙ was.keeps.1, kept.2 ∙ (was.keeps.2 ∙ ap (λ x. Some (as_content x)) (sym same)));
  }

  -- what the file becomes is noted
  pub cell_noted : (a2 a3 : FileView) (g : FileState B L) → IsLodged geometry a2 g → g.token.number ≡ f.token.number → (a2.book ≡ a.book) × (a2.inode ≡ a.inode) × (a2.content ≡ a.content)
      → a3 ≡ record a2 { content = Some (as_content (file_of g)) } → IsCell book geometry number a3 (Some g)
  cell_noted a2 a3 g lodged named kept note = subst (λ x. IsCell book geometry number x (Some g)) (sym note) (record {
    book_is = kept.0 ∙ was.book_is;
    inode_is = kept.1 ∙ was.inode_is;
    keeps = (record { stored = lodged.stored; shape_is = lodged.shape_is; law = lodged.law; lodged = lodged.lodged }, named ∙ was.keeps.1, refl);
  })

  -- the pass shows the file of the state
  pub pass_shows : (c : FileContent) → a.content ≡ Some c → as_file c ≡ file_of f
  pass_shows c same = shown_file f a.content c was.keeps.2 same

-- a cell that is known to have a file
module _ {B L : Type 0} (book : TableId) (geometry : Geometry) (number : ℕ) (a : FileView) (o : Option (FileState B L)) (f : FileState B L) (was : IsCell book geometry number a o) (is : o ≡ Some f) where
  pub cell_has : IsCell book geometry number a (Some f)
  cell_has = subst (IsCell book geometry number a) is was

  pub cell_shows : (c : FileContent) → a.content ≡ Some c → as_file c ≡ file_of f
  cell_shows = pass_shows book geometry number a f cell_has

-- no pass shows a file that is not there
pub no_cell : {B L : Type 0} (book : TableId) (geometry : Geometry) (number : ℕ) (a : FileView) → IsCell {B = B} {L = L} book geometry number a None → (c : FileContent) → a.content ≡ Some c → ⊥
no_cell book geometry number a was c same = no_pass a.content c was.keeps.2 same

-- ---- the blocks that a pass shows

-- what a file holds at each index has a block's bytes
whole_content : (o : Option Placed) (block : Block) (bytes : ℕ) → ((t : Placed) → o ≡ Some t → length t.content ≡ bytes) → content_of o ≡ Some block → length block ≡ bytes
whole_content None block bytes all is = let no = ap (λ (x : Option Block). is_some x) is in cc
whole_content (Some t) block bytes all is = ap (λ (x : Option Block). length (unwrap_or x [])) (sym is) ∙ all t refl

module _ {B L : Type 0} (geometry : Geometry) (g : FileState B L) (is : IsFile g) where
  pub shown_whole : g.shape ≡ geometry.shape → Whole (block_bytes g.shape) (ticket_at g) → AreWhole (block_bytes geometry.shape) (as_file (as_content (file_of g)))
  shown_whole same whole =
      subst (AreWhole (block_bytes geometry.shape)) (sym (as_file_again (file_of g)))
      (λ i block at. whole_content (ticket_at g i) block (block_bytes g.shape) (whole i) (sym ((shows_file_of g is).blocks i) ∙ at) ∙ ap block_bytes same)

  pub shown_inside : AreWithin (as_file (as_content (file_of g)))
  shown_inside = subst AreWithin (sym (as_file_again (file_of g))) (λ i past. (shows_file_of g is).blocks i ∙ ap content_of (is.within i past))

  -- a file without blocks has none that is not whole
  pub none_whole : g.length ≡ 0 → Whole (block_bytes g.shape) (ticket_at g)
  none_whole none i t at = absurd (let nothing = is.within i (omega (arith, none)) in let there : ticket_at g i ≡ Some t = at in cc)

module _ {B L : Type 0} (book : TableId) (geometry : Geometry) (number : ℕ) (p3 : PassView) (g : FileState B L) where
  -- a pass that shows the file
  pub pass_of : (blocks : ℕ) → blocks ≡ g.length → p3.book ≡ book → p3.inode ≡ number → 0 < number → number ≤ geometry.files → p3.content ≡ as_content (file_of g)
      → g.shape ≡ geometry.shape → IsFile g → Whole (block_bytes g.shape) (ticket_at g) → IsPassOf book geometry number blocks p3
  pass_of blocks long book_is inode_is some within shows same is whole = record {
    book_is = book_is;
    inode_is = inode_is;
    some = some;
    within = within;
    length_is = ap (λ (c : FileContent). c.length) shows ∙ sym long;
    whole = subst (λ c. AreWhole (block_bytes geometry.shape) (as_file c)) (sym shows) (shown_whole geometry g is same whole);
    inside = subst (λ c. AreWithin (as_file c)) (sym shows) (shown_inside geometry g is);
  }

  pub pass_noted : (p : PassView) (a : FileView) (before blocks : ℕ) → p3 ≡ record p { content = as_content (file_of g) } → IsLodged geometry a g → blocks ≡ g.length
      → IsPassOf book geometry number before p → IsPassOf book geometry number blocks p3
  pass_noted p a before blocks note lodged long was =
      pass_of blocks long (ap (λ (x : PassView). x.book) note ∙ was.book_is) (ap (λ (x : PassView). x.inode) note ∙ was.inode_is) was.some was.within
      (ap (λ (x : PassView). x.content) note) lodged.shape_is lodged.stored.file lodged.stored.whole

module _ {B L : Type 0} (number : ℕ) (p p3 : PassView) (g : FileState B L) (note : p3 ≡ record p { content = as_content (file_of g) }) where
  pub pass_changed : (old : Pass) (f : FileState B L) → record { number = number; file = as_file p.content } ≡ old → as_file p.content ≡ file_of f
      → (change : File → File) → file_of g ≡ change (file_of f) → ◌≡◌ {A = Pass} (record { number = number; file = as_file p3.content }) (record old { file = change old.file })
  pass_changed old f seen shows change is =
      (λ i. record { number = number; file = now i }) ∙ (λ i. record (seen i) { file = change ((seen i).file) })
    where
      now : as_file p3.content ≡ change (as_file p.content)
      now = ap (λ (x : PassView). as_file x.content) note ∙ (as_file_again (file_of g) ∙ (is ∙ ap change (sym shows)))

-- ---- a call's hand with nothing in it

no_weight : {A : Type 0} (xs : List A) → weigh (λ x. 1) xs ≡ 0 → xs ≡ []
no_weight [] none = refl
no_weight (x ∷ xs) none = absurd (omega arith)

pub empty_hand : (book : TableId) (h h1 : HandView) → h ≡ at_home book → h1.book ≡ book → weigh (λ x. 1) h1.tickets ≡ 0 → weigh (λ x. 1) h1.tokens ≡ 0 → h1 ≡ h
empty_hand book h h1 home same tickets tokens = (λ i. record { book = same i; tickets = no_weight h1.tickets tickets i; tokens = no_weight h1.tokens tokens i }) ∙ sym home

-- ---- what a read gives

read_slot : (o : Option Placed) (out : List ℕ) (n bytes : ℕ) → n ≡ bytes → MatchOption o (out ≡ replicate n 0) (λ t. out ≡ t.content) → out ≡ unwrap_or (content_of o) (replicate bytes 0)
read_slot None out n bytes e is = is ∙ ap (λ k. replicate k 0) e
read_slot (Some t) out n bytes e is = is

pub reads : {B L : Type 0} (f : FileState B L) → IsFile f → (i : ℕ) (out : List ℕ) (n bytes : ℕ) → n ≡ bytes
    → MatchOption (ticket_at f i) (out ≡ replicate n 0) (λ t. out ≡ t.content) → out ≡ bytes_at bytes (file_of f) i
reads f is i out n bytes e read =
    read_slot (ticket_at f i) out n bytes e read ∙ ap (λ b. unwrap_or b (replicate bytes 0)) (sym ((shows_file_of f is).blocks i))

-- ---- a file that was loaded comes into its cell

-- what its pass shows
pub pass_loaded : {B L : Type 0} (f : FileState B L) (number : ℕ) (p : PassView) → number ≡ f.token.number → p.content ≡ as_content (file_of f)
    → ◌≡◌ {A = Pass} (record { number = number; file = as_file p.content }) (record { number = f.token.number; file = file_of f })
pass_loaded f number p named shows = let same = ap as_file shows ∙ as_file_again (file_of f) in λ i. record { number = named i; file = same i }

-- ---- a file without blocks comes into its cell

module _ {B L : Type 0} (f : FileState B L) (kind : Kind) where
  pub fresh_file : f.kind ≡ kind → f.length ≡ 0 → file_of f ≡ new_file kind
  fresh_file same none = λ i. record { kind = same i; length = none i; blocks = blocks_below (none i) (ticket_at f) }

  -- what its pass shows
  pub fresh_pass : (p : PassView) (number : ℕ) → p.content ≡ as_content (file_of f) → f.kind ≡ kind → f.length ≡ 0
      → ◌≡◌ {A = Pass} (record { number = number; file = as_file p.content }) (record { number = number; file = new_file kind })
  fresh_pass p number shows same none =
      ap (λ (x : File). record { number = number; file = x }) (ap as_file shows ∙ (as_file_again (file_of f) ∙ fresh_file same none))

module _ {B L : Type 0} (book : TableId) (geometry : Geometry) (number : ℕ) (a a1 a2 : FileView) (was : IsCell {B = B} {L = L} book geometry number a None) (h : HandView) (k : TakenNumber)
    (token : k ≡ bare_entry number number) (hand : h ≡ record { book = book; tickets = []; tokens = k ∷ [] }) (full : a1 ≡ refilled h a)
    (f : FileState B L) (note : a2 ≡ record a1 { content = Some (as_content (file_of f)) }) where
  both : a2 ≡ record (refilled h a) { content = Some (as_content (file_of f)) }
  both = note ∙ ap (λ (x : FileView). record x { content = Some (as_content (file_of f)) }) full

  tickets_born : a2.tickets ≡ []
  tickets_born = ap (λ (x : FileView). x.tickets) both ∙ (ap (λ xs. xs ++ h.tickets) was.keeps.0 ∙ ap (λ (x : HandView). x.tickets) hand)

  tokens_born : a2.tokens ≡ k ∷ []
  tokens_born = ap (λ (x : FileView). x.tokens) both ∙ (ap (λ xs. xs ++ h.tokens) was.keeps.1 ∙ ap (λ (x : HandView). x.tokens) hand)

  pub cell_born : 0 < number → f.shape ≡ geometry.shape → f.token ≡ k → f.length ≡ 0 → (inode_of f).dirty ≡ true → IsBare f → IsFile f → IsCell book geometry number a2 (Some f)
  cell_born some shape own none marked bare is = record {
    book_is = ap (λ (x : FileView). x.book) both ∙ was.book_is;
    inode_is = ap (λ (x : FileView). x.inode) both ∙ was.inode_is;
    keeps = (
      record {
        stored = stored_new f k own bare is none (let n = ap (λ (e : TakenNumber). e.number) token in omega arith);
        shape_is = shape;
        law = law_new geometry.files f bare marked (own ∙ (token ∙ ap (λ n. bare_entry n n) (sym numbered)));
        lodged = in_hand_new f k own bare (record { book = book; tickets = a2.tickets; tokens = a2.tokens }) tickets_born tokens_born;
      },
      numbered,
      ap (λ (x : FileView). x.content) both,
    );
  }
    where
      numbered : f.token.number ≡ number
      numbered = ap (λ (e : TakenNumber). e.number) (own ∙ token)
