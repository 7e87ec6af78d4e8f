-- Writing one node exchanges its token in the file and in the hand alike, and no ticket: so what was held is held, the
-- file is what it was, and one node less is marked.
use Rattle.std.proofs.Common.{◌≡◌, ℕ, ◌+◌, ◌==◌, ◌&&◌, ◌||◌, nat_lt, Bool, true, false, if◌then◌else◌, length, inl, refl, sym, ap, ◌∙◌, subst, eq-eqb, arith}
use Rattle.atomic_table.specs.Seated.{TableId}
use Rattle.geometry.specs.declared.geometry.Geometry.{Geometry}
use Rattle.geometry.specs.declared.shape.Shape.{Shape}
use Rattle.geometry.specs.Shape.{block_bytes}
use Rattle.image_codec.proofs.SpellingLemmas.{length-node_bytes}
use Rattle.rights_books.specs.declared.claim.TakenNumber.{TakenNumber}
use Rattle.rights_books.specs.Accounts.{HandView}
use Rattle.tickets.specs.Placed.{Placed}
use Rattle.nodes.specs.Change.{TreeNode, of_tickets, of_tokens, unnumbered}
use Rattle.nodes_walks.specs.Writing.{rewritten, WritesOne}
use Rattle.nodes_walks.specs.Kept.{KeepsFile}
use Rattle.nodes_walks.proofs.Flushed.{fewer_marked}
use Rattle.nodes_walks.proofs.Keeping.{kept_same, kept_both}
use Rattle.nodes.specs.declared.file.FileState.{FileState}
use Rattle.nodes.specs.File.{IsFile, inode_of, content_of, below_weight, weight_of, file_of}
use Rattle.nodes.specs.Owners.{HasNumbers}
use Rattle.nodes.specs.Held.{Others, AreHeldBeside}
use Rattle.nodes.proofs.Files.{shows_file_of, only_file}
use Rattle.nodes.proofs.Shown.{same_shows}
use Rattle.nodes_law.specs.Nodes.{node_in}
use Rattle.nodes_law.specs.Law.{strange, ragged, IsSpelled, HasOwnTokens, FileStateLaw}
use Rattle.nodes_law.proofs.Keeping.{each_written, spells_written}
use Rattle.nodes_law.proofs.Owning.{own_each}
use Rattle.file_flush.specs.Written.{HasSwapped, IsWrittenTo}
use Rattle.file_flush.specs.Flushed.{CanFlush, HasFlushed}
use Rattle.file_flush.proofs.Ready.{nodes_among}

whole_spelled : (shape : Shape) (inode : ℕ) (n : TreeNode) (token : TakenNumber) → IsSpelled shape inode (rewritten token n) → ragged (block_bytes shape) token ≡ 0
whole_spelled shape inode n token spelled =
    let long : length token.bytes ≡ block_bytes shape = ap length spelled.1.1 ∙ length-node_bytes shape (node_in inode (rewritten token n)) spelled.1.0 in
    ap (λ (b : Bool). if (token.address == 0) || b then 0 else 1) (eq-eqb (length token.bytes) (block_bytes shape) long) ∙ by_bit (token.address == 0)
  where
    by_bit : (b : Bool) → ◌≡◌ {A = ℕ} (if b || true then 0 else 1) 0
    by_bit true = refl
    by_bit false = refl

module _ {B L : Type 0} (files : ℕ) (f : FileState B L) (is : IsFile f) (numbers : HasNumbers f) (law : FileStateLaw files f) where
  pub flushed_none : (hand : HandView) → HasFlushed files f f hand hand
  flushed_none hand = record {
    kept = kept_same f is f refl;
    law = law;
    numbered = numbers;
    fewer = omega arith;
    tickets = λ h. refl;
    book = refl;
    hand_tickets = λ h. refl;
    hand_tokens = λ h. refl;
  }

module _ {B L : Type 0} (files : ℕ) (first old new : FileState B L) (start before after : HandView) (so_far : HasFlushed files first old start before)
    (n : TreeNode) (token : TakenNumber) (one : WritesOne (weight_of old) (weight_of new) n token) (swapped : HasSwapped before after n.token token)
    (written : IsWrittenTo old.shape old.token.number n token)
    (kept : KeepsFile old new) where
  old_is : IsFile old
  old_is = so_far.kept.file

  -- what weighs a token by its number and its inode alone
  even : (h : TakenNumber → ℕ) → h token ≡ h n.token → weight_of new (of_tokens h) ≡ weight_of old (of_tokens h)
  even h e = let all = one.trades (of_tokens h) in omega arith

  strange_same : (inode : ℕ) → strange files inode token ≡ strange files inode n.token
  strange_same inode =
      let a = written.inode_is in
      let b = written.number in
      λ i. if (a i == inode) && nat_lt files (b i) then 0 else 1

  inode_still : new.token.inode ≡ old.token.number
  inode_still =
      let among = nodes_among old old_is so_far.numbered n one.among in
      let each = own_each old files so_far.law.tokens in
      each_written old new (λ m. m.token.inode ≡ old.token.number) n token one each (written.inode_is ∙ each n among) (inode_of new) (inl refl)

  own_still : HasOwnTokens files new
  own_still =
      let all = even (strange files old.token.number) (strange_same old.token.number) in
      let a = inode_still in
      let b = so_far.law.tokens.inode in
      let top : strange files old.token.number new.token ≡ strange files old.token.number old.token =
      let inodes : new.token.inode ≡ old.token.inode = a ∙ sym b in
      λ i. if (inodes i == old.token.number) && nat_lt files (kept.number i) then 0 else 1 in
      let was = so_far.law.tokens.below in
      let none : below_weight new (of_tokens (strange files old.token.number)) ≡ 0 = omega arith in
      let whole = one.trades (of_tokens (ragged (block_bytes old.shape))) in
      let whole_was = so_far.law.tokens.whole in
      let now = whole_spelled old.shape old.token.number n token written.spelled in
      record {
        inode = a ∙ sym kept.number;
        below = subst (λ k. below_weight new (of_tokens (strange files k)) ≡ 0) (sym kept.number) none;
        whole = subst (λ s. weight_of new (of_tokens (ragged (block_bytes s))) ≡ 0) (sym kept.shape_is) (omega arith);
      }

  tickets_still : (h : Placed → ℕ) → weight_of new (of_tickets h) ≡ weight_of old (of_tickets h)
  tickets_still h = let all = one.trades (of_tickets h) in omega arith

  pub flushed_more : HasFlushed files first new start after
  flushed_more = record {
    kept = kept_both first old new so_far.kept kept;
    law = record {
      spelled = spells_written old new n token one written.spelled kept.shape_is kept.number so_far.law.spelled;
      tokens = own_still;
      placed = tickets_still _ ∙ so_far.law.placed;
    };
    numbered = even unnumbered (λ i. if written.number i == 0 then 1 else 0) ∙ so_far.numbered;
    fewer = (let less = fewer_marked (weight_of old) (weight_of new) n token one in let was = so_far.fewer in omega arith);
    tickets = λ h. tickets_still h ∙ so_far.tickets h;
    book = swapped.book ∙ so_far.book;
    hand_tickets = λ h. swapped.tickets h ∙ so_far.hand_tickets h;
    hand_tokens = λ h. (let a = swapped.tokens h in let b = so_far.hand_tokens h in let c = one.trades (of_tokens h) in omega arith);
  }

module _ {B L : Type 0} (files : ℕ) (old new : FileState B L) (before after : HandView) (done : HasFlushed files old new before after) where
  pub still_held : (others : Others) → AreHeldBeside others old before.tickets before.tokens → AreHeldBeside others new after.tickets after.tokens
  still_held others held = record {
    tickets = λ h. done.hand_tickets h ∙ (held.tickets h ∙ ap (λ k. k + others.tickets h) (sym (done.tickets (λ t. h t.mark))));
    tokens = λ h. (let a = done.hand_tokens h in let b = held.tokens h in omega arith);
  }

  pub still_shown : IsFile old → file_of new ≡ file_of old
  still_shown is =
      sym (only_file new done.kept.file (file_of old)
      (same_shows old new (file_of old) (shows_file_of old is) done.kept.kind_is done.kept.length_is (λ i. ap content_of (done.kept.same i))))

-- what could be flushed still can be
pub still_flushable : {B L : Type 0} (geometry : Geometry) (book : TableId) (old new : FileState B L) (before after : HandView)
    → CanFlush geometry book old before → HasFlushed geometry.files old new before after → CanFlush geometry book new after
still_flushable geometry book old new before after was done = record {
  book_is = done.book ∙ was.book_is;
  shape_is = done.kept.shape_is ∙ was.shape_is;
  file_is = done.kept.file;
  numbered = done.numbered;
  law = done.law;
  held = (was.held.0, still_held geometry.files old new before after done was.held.0 was.held.1);
}
