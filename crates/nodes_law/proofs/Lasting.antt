-- What a call changes it marks, and what comes in has its address and is the file's own: so unmarked nodes are spelled,
-- and tokens the file's own, after each call as before.
use Rattle.std.proofs.Common.{◌≡◌, ◌⊎◌, inl, inr, ℕ, ◌+◌, ◌<◌, nat_lt, Bool, true, false, if◌then◌else◌, Option, refl, ap, ◌&&◌, ne_eqb, eq-eqb, arith}
use borrow.Author.Tests.{lt-ltb}
use Rattle.geometry.specs.declared.shape.Shape.{Shape}
use Rattle.geometry.specs.Shape.{block_bytes}
use Rattle.rights_books.specs.declared.claim.TakenNumber.{TakenNumber}
use Rattle.rights_books.specs.Rules.{bare_entry}
use Rattle.tickets.specs.Placed.{Placed}
use Rattle.nodes.specs.declared.spare.Spare.{Spare}
use Rattle.nodes.specs.Change.{TreeNode, Weighing, WeighsAs, nothing, ticket_weight, of_tickets, of_tokens}
use Rattle.nodes.proofs.Balance.{balanced_tickets}
use Rattle.nodes.specs.declared.file.FileState.{FileState}
use Rattle.nodes.specs.declared.spare_path.SparePath.{SparePath}
use Rattle.nodes.specs.File.{IsBare, inode_of, below_weight}
use Rattle.nodes.specs.Marks.{MarksNode, lengthened, shortened, unchanged}
use Rattle.nodes.specs.Lacking.{spare_tokens}
use Rattle.nodes.proofs.Held.{bare_weighs}
use Rattle.image_law.specs.Items.{Among}
use Rattle.nodes_law.specs.Nodes.{of_nodes, nodes_below}
use Rattle.nodes_law.specs.Law.{strange, ragged, unplaced, SpellsUnmarked, HaveOwnTokens, FileStateLaw}
use Rattle.nodes_law.proofs.Listing.{below_weighs}
use Rattle.nodes_law.proofs.Keeping.{ComesMarked, Resizes, is_it, list_among, spells_marked, spells_resized}
use Rattle.nodes_law.proofs.Owning.{own_marked, own_same}

lengthens : (index : ℕ) → Resizes (lengthened index)
lengthens index n = go (nat_lt index n.length)
  where
    go : (b : Bool) → ((if b then n else record n { length = index + 1; dirty = true }) ≡ n) ⊎ ((if b then n else record n { length = index + 1; dirty = true }).dirty ≡ true)
    go true = inl refl
    go false = inr refl

shortens : (length : ℕ) → Resizes (shortened length)
shortens length n = go (nat_lt length n.length)
  where
    go : (b : Bool) → ((if b then record n { length = length; dirty = true } else n) ≡ n) ⊎ ((if b then record n { length = length; dirty = true } else n).dirty ≡ true)
    go true = inr refl
    go false = inl refl

stays : Resizes unchanged
stays n = inl refl

placed_one : (t : Placed) → 0 < t.mark.address → unplaced t ≡ 0
placed_one t some = ap (λ (b : Bool). if b then 1 else 0) (ne_eqb t.mark.address 0 (λ none. absurd (omega arith)))

module _ {B L : Type 0} (files : ℕ) (old new : FileState B L) (law : FileStateLaw files old) (shape : new.shape ≡ old.shape) where
  -- a call that marks what it changes, where what comes has a block or is marked, and is the file's own
  law_marked : (resized : TreeNode → TreeNode) → Resizes resized → (out into : Weighing Placed → ℕ) → MarksNode resized old new out into → ComesMarked into
      → into (of_tokens (strange files old.token.number)) ≡ 0 → into (of_tokens (ragged (block_bytes old.shape))) ≡ 0 → into (of_tickets unplaced) ≡ 0
      → FileStateLaw files new
  law_marked resized resizes out into change comes one other placed = record {
    spelled = spells_marked old new resized resizes out into change comes shape law.spelled;
    tokens = own_marked files old new law.tokens shape resized out into change one other;
    placed = (let all = balanced_tickets change.own (below_weight old) (below_weight new) out into change.trades unplaced in let was = law.placed in omega arith);
  }

  pub law_put : (index : ℕ) (before : Option Placed) (t : Placed) → MarksNode (lengthened index) old new (λ w. ticket_weight w before) (λ w. w.ticket t) → 0 < t.mark.address
      → FileStateLaw files new
  law_put index before t change some =
      law_marked (lengthened index) (lengthens index) (λ w. ticket_weight w before) (λ w. w.ticket t) change (λ h all. refl) refl refl (placed_one t some)

  pub law_migrate : (before t : Placed) → MarksNode unchanged old new (λ w. w.ticket before) (λ w. w.ticket t) → 0 < t.mark.address → FileStateLaw files new
  law_migrate before t change some =
      law_marked unchanged stays (λ w. w.ticket before) (λ w. w.ticket t) change (λ h all. refl) refl refl (placed_one t some)

  pub law_cut : (spare : Spare Placed) (out : Weighing Placed → ℕ) → WeighsAs spare out → MarksNode unchanged old new out nothing → FileStateLaw files new
  law_cut spare out is change = law_marked unchanged stays out nothing change (λ h all. refl) refl refl refl

  pub law_resized : (length : ℕ) → ((w : Weighing Placed) → below_weight new w ≡ below_weight old w) → inode_of new ≡ shortened length (inode_of old) → new.token ≡ old.token
      → FileStateLaw files new
  law_resized length same inode token = record {
    spelled = spells_resized old new (shortened length) (shortens length) same inode token shape law.spelled;
    tokens = own_same files old new law.tokens shape same token;
    placed = (let all = same (of_tickets unplaced) in let was = law.placed in omega arith);
  }

  module _ (had has : SparePath B L) (own : HaveOwnTokens files old.shape old.token.number had) (n : TreeNode) (fresh : n.dirty ≡ true)
      (spares : (h : TakenNumber → ℕ) → spare_tokens h has + h n.token ≡ spare_tokens h had) where
    pub law_plant : MarksNode unchanged old new nothing (λ w. w.node n) → FileStateLaw files new
    law_plant change =
        let a = spares (strange files old.token.number) in
        let b = spares (ragged (block_bytes old.shape)) in
        let c = own.below in
        let d = own.whole in
        law_marked unchanged stays nothing (λ w. w.node n) change (λ h all. all n fresh) (omega arith) (omega arith) refl

-- a new file, whose inode is marked
module _ {B L : Type 0} (files : ℕ) (f : FileState B L) (bare : IsBare f) (marked : (inode_of f).dirty ≡ true) where
  no_nodes : (n : TreeNode) → Among n (nodes_below f) → ⊥
  no_nodes n m =
      let some = list_among n (nodes_below f) m in
      let all = below_weighs (is_it n) f in
      let none = bare_weighs f bare (of_nodes (is_it n)) in
      absurd (omega arith)

  new_spelled : SpellsUnmarked f
  new_spelled n (inl e) clean = absurd (let both = ap (λ (k : TreeNode). k.dirty) e in cc)
  new_spelled n (inr m) clean = absurd (no_nodes n m)

  pub law_new : f.token ≡ bare_entry f.token.number f.token.number → FileStateLaw files f
  law_new is = record {
    spelled = new_spelled;
    tokens = record {
      inode = ap (λ (e : TakenNumber). e.inode) is;
      below = bare_weighs f bare (of_tokens (strange files f.token.number));
      whole = (let none = bare_weighs f bare (of_tokens (ragged (block_bytes f.shape))) in
          let here : ragged (block_bytes f.shape) f.token ≡ 0 = ap (ragged (block_bytes f.shape)) is in omega arith);
    };
    placed = (let none = bare_weighs f bare (of_tickets unplaced) in omega arith);
  }

-- spare nodes, where one of them comes into the file
pub own_planted : {B L : Type 0} (files : ℕ) (shape : Shape) (inode : ℕ) (had has : SparePath B L) → HaveOwnTokens files shape inode had → (n : TreeNode)
    → ((h : TakenNumber → ℕ) → spare_tokens h has + h n.token ≡ spare_tokens h had) → HaveOwnTokens files shape inode has
own_planted files shape inode had has own n spares = record {
  below = (let a = spares (strange files inode) in let c = own.below in omega arith);
  whole = (let b = spares (ragged (block_bytes shape)) in let d = own.whole in omega arith);
}

-- and as they are made
pub own_prepared : {B L : Type 0} (files : ℕ) (shape : Shape) (inode : ℕ) (had has : SparePath B L) (token : TakenNumber) → HaveOwnTokens files shape inode had
    → ((h : TakenNumber → ℕ) → spare_tokens h has ≡ spare_tokens h had + h token) → token ≡ bare_entry token.number inode → files < token.number → HaveOwnTokens files shape inode has
own_prepared files shape inode had has token own all is high =
    let a = all (strange files inode) in
    let b = all (ragged (block_bytes shape)) in
    let c = own.below in
    let d = own.whole in
    let e = own_bare files inode token is high in
    let f : ragged (block_bytes shape) token ≡ 0 = ap (ragged (block_bytes shape)) is in
    record { below = omega arith; whole = omega arith }
  where
    own_bare : (files inode : ℕ) (token : TakenNumber) → token ≡ bare_entry token.number inode → files < token.number → strange files inode token ≡ 0
    own_bare files inode token is high =
        let a = eq-eqb token.inode inode (ap (λ (e : TakenNumber). e.inode) is) in
        let b = lt-ltb files token.number high in
        λ i. if (a i) && (b i) then 0 else 1
