-- A loaded node is the image's of its number, and its block spells it, as in every lawful image: so its token has a
-- number, an inode and a whole block, as the law of a file's state asks.
use Rattle.std.proofs.Common.{◌≡◌, ◌≢◌, ℕ, ◌+◌, ◌-◌, ◌<◌, ◌≤◌, ◌==◌, ◌||◌, Bool, true, false, List, length, if◌then◌else◌, Option, Some, None, inl, inr, refl, sym, ap, subst, ◌∙◌, eq-eqb, ne_eqb, arith}
use Rattle.std.specs.Prelude.{slice_index, slice_index_or}
use borrow.Author.Tests.{lt-ltb}
use Rattle.std.proofs.lemmas.Bool.{cases_eq, cases_lt}
use Rattle.geometry.specs.declared.geometry.Geometry.{Geometry}
use Rattle.geometry.specs.declared.owner.Owner.{Owner}
use Rattle.geometry.specs.declared.owner.Owner.TheVariants.{Node, Data}
use Rattle.geometry.specs.Area.{block_count}
use Rattle.geometry.specs.Shape.{block_bytes}
use Rattle.rights_books.specs.declared.claim.TakenNumber.{TakenNumber}
use Rattle.tickets.specs.Placed.{Placed}
use Rattle.nodes.specs.declared.branch.Branch.{Branch}
use Rattle.nodes.specs.Tree.{entry_at}
use Rattle.nodes.specs.Change.{TreeNode, ticket_weight, of_tickets, of_tokens, unnumbered}
use Rattle.nodes.proofs.Changes.{weigh_zero}
use Rattle.nodes.specs.declared.file.FileState.{FileState}
use Rattle.nodes.specs.File.{weight_direct, weight_indirect, weight_double, below_weight, weight_of}
use Rattle.nodes.specs.Owners.{HasNumbers}
use Rattle.image_law.specs.Items.{Among}
use Rattle.nodes_law.specs.Nodes.{nodes_below, nodes_of}
use Rattle.nodes_law.specs.Law.{strange, ragged, unplaced, IsSpelled, HasAddresses, FileStateLaw}
use Rattle.nodes_law.proofs.Listing.{nodes_weigh, below_weighs, none_all}
use Rattle.image.specs.Node.{Node as ImageNode, Spells}
use Rattle.image.specs.declared.image.NodeEntry.{NodeEntry}
use Rattle.image.specs.Image.{Image, no_entry, entry_of, node_of}
use Rattle.image.specs.Walk.{child}
use Rattle.image.specs.Rules.{IsLawful, IsNodeOf, IsEntry}
use Rattle.mount_blocks.specs.TreeGoods.{Shelves}
use Rattle.mount_blocks.specs.FileLoaded.{FitsFile, IsLoadedFile, loaded_ticket, loaded_direct, loaded_indirect, loaded_double}
use Rattle.mount_blocks.proofs.Ends.{at_any, direct_of, indirect_of, double_of}
use Rattle.mount_blocks.specs.Marked.{marked_owner}
use Rattle.mount_blocks.specs.Table.{ticket_of}
use Rattle.mount_blocks.proofs.States.{same_some, some_within}
use Rattle.mount_blocks.specs.Goods.{AreGoods, data_ticket}
use Rattle.mount_blocks.proofs.Passing.{taken_of, entry_within}
use Rattle.image_codec.specs.Blocks.{AreBlocks}
use Rattle.mount.proofs.Nodes.{IsNodeFrom, has_entry, token_is, node_from, below_from, below_class}

own_test : (files inode : ℕ) (entry : TakenNumber) → entry.inode ≡ inode → files < entry.number → strange files inode entry ≡ 0
own_test files inode entry is past = rw (eq-eqb entry.inode inode is, lt-ltb files entry.number past) refl

whole_test : (size : ℕ) (entry : TakenNumber) → length entry.bytes ≡ size → ragged size entry ≡ 0
whole_test size entry is = go (entry.address == 0) (eq-eqb (length entry.bytes) size is)
  where
    go : (b : Bool) → (length entry.bytes == size) ≡ true → ◌≡◌ {A = ℕ} (if b || (length entry.bytes == size) then 0 else 1) 0
    go true e = refl
    go false e = rw e refl

number_test : (entry : TakenNumber) → 0 < entry.number → unnumbered entry ≡ 0
number_test entry some = rw (ne_eqb entry.number 0 (λ z. absurd (omega arith))) refl

placed_test : (t : Placed) → 0 < t.mark.address → unplaced t ≡ 0
placed_test t some = rw (ne_eqb t.mark.address 0 (λ z. absurd (omega arith))) refl

-- the address of an entry is one of the main area
entry_most : (geometry : Geometry) (image : Image) → IsLawful geometry image → (n : ℕ) → (entry_of image n).address ≢ 0 → (entry_of image n).address ≤ block_count geometry
entry_most geometry image lawful n some =
    let within = entry_within geometry image lawful n some in
    let range = lawful 1 (omega arith) (omega arith) in
    let positive : (n == 0) ≡ false = ne_eqb n 0 (λ z. (let low = within.0 in absurd (omega arith))) in
    let is : entry_of image n ≡ slice_index_or image.node_table (n - 1) no_entry = rw positive refl in
    let entry : IsEntry geometry (slice_index_or image.node_table (n - 1) no_entry) = range.entries (n - 1) no_entry (let table = range.table in let low = within.0 in let high = within.1 in omega arith) in
    let most = entry.1 in
    let same = ap (λ (x : NodeEntry). x.address) is in
    omega arith

-- the bytes of a data block's ticket
data_bytes : (o : Option Owner) (a : ℕ) (b : List ℕ) (t : Placed) → data_ticket o a b ≡ Some t → b ≡ t.content
data_bytes None a b t e = cc
data_bytes (Some (Node n)) a b t e = cc
data_bytes (Some (Data n s)) a b t e = ap (λ (p : Placed). p.content) (same_some (ticket_of (Some (Data n s)) a b) _ t refl e)

module _ (geometry : Geometry) (image : Image) (bytes : ℕ → List ℕ) (all : Shelves Placed) (goods : AreGoods geometry image bytes all.tickets all.tokens) where
  -- a ticket of the stock has the bytes of the block at its address
  pub ticket_bytes : (a : ℕ) (t : Placed) → slice_index_or all.tickets a None ≡ Some t → bytes a ≡ t.content
  ticket_bytes a t at = data_bytes (marked_owner geometry image a) a (bytes a) t (sym (goods.blocks a) ∙ at)

  -- and they are a block's
  pub ticket_whole : AreBlocks geometry image bytes → (a : ℕ) (t : Placed) → 0 < a → slice_index_or all.tickets a None ≡ Some t → length t.content ≡ block_bytes geometry.shape
  ticket_whole blocks a t some at =
      let low = some_within all.tickets a t at in
      let long = goods.places in
      ap length (sym (ticket_bytes a t at)) ∙ blocks.whole a (omega arith) (omega arith)

module _ (image : Image) (all : Shelves Placed) where
  placed_0 : (parent s n : ℕ) (v : Option Placed) → loaded_ticket all parent s n v → ticket_weight (of_tickets unplaced) v ≡ 0
  placed_0 parent s n None l = refl
  placed_0 parent s n (Some t) l = placed_test t (subst (λ a. 0 < a) (sym (ap (λ m. m.address) l.2)) l.0)

  placed_1 : (n : ℕ) (v : Option (Branch Placed)) → loaded_direct image all n v → weight_direct (of_tickets unplaced) v ≡ 0
  placed_1 n None l = refl
  placed_1 n (Some b) l =
      let below = weigh_zero (ticket_weight (of_tickets unplaced)) b.entries.slots.items (λ k h. placed_0 n k (slice_index (node_of image n).addresses k) (entry_at b.entries.slots.items k) (at_any (loaded_ticket all n) (node_of image n).addresses b.entries.slots.items l.below (λ j. refl) k)) in
      omega arith

  placed_2 : (n : ℕ) (v : Option (Branch (Branch Placed))) → loaded_indirect image all n v → weight_indirect (of_tickets unplaced) v ≡ 0
  placed_2 n None l = refl
  placed_2 n (Some b) l =
      let below = weigh_zero (weight_direct (of_tickets unplaced)) b.entries.slots.items (λ k h. placed_1 (child image n k) (entry_at b.entries.slots.items k)
      (at_any (λ _ m v. loaded_direct image all m v) (node_of image n).children b.entries.slots.items l.below (λ j. refl) k)) in
      omega arith

  placed_3 : (n : ℕ) (v : Option (Branch (Branch (Branch Placed)))) → loaded_double image all n v → weight_double (of_tickets unplaced) v ≡ 0
  placed_3 n None l = refl
  placed_3 n (Some b) l =
      let below = weigh_zero (weight_indirect (of_tickets unplaced)) b.entries.slots.items (λ k h. placed_2 (child image n k) (entry_at b.entries.slots.items k)
      (at_any (λ _ m v. loaded_indirect image all m v) (node_of image n).children b.entries.slots.items l.below (λ j. refl) k)) in
      omega arith

  pub all_placed : {B L : Type 0} (inode : ℕ) (f : FileState B L) → IsLoadedFile image f.shape all inode f → HasAddresses f
  all_placed inode f l =
      let tickets = weigh_zero (ticket_weight (of_tickets unplaced)) f.tickets.slots.items (λ k h. placed_0 inode k (slice_index (node_of image inode).addresses k) (entry_at f.tickets.slots.items k) (at_any (loaded_ticket all inode) (node_of image inode).addresses f.tickets.slots.items l.tickets (λ j. refl) k)) in
      let direct = weigh_zero (weight_direct (of_tickets unplaced)) f.direct.slots.items (λ k h. placed_1 (child image inode k) (entry_at f.direct.slots.items k) (direct_of image all inode f l k (omega (arith, l.direct.0)))) in
      let indirect = weigh_zero (weight_indirect (of_tickets unplaced)) f.indirect.slots.items (λ k h. placed_2 (child image inode (2 + k)) (entry_at f.indirect.slots.items k) (indirect_of image all inode f l (2 + k) k refl (omega (arith, l.indirect.0)))) in
      let double = weigh_zero (weight_double (of_tickets unplaced)) f.double.slots.items (λ k h. (let first : k ≡ 0 = omega (arith, l.double.0) in
      placed_3 (child image inode 4) (entry_at f.double.slots.items k) (subst (λ j. loaded_double image all (child image inode 4) (entry_at f.double.slots.items j)) (sym first) (double_of image all inode f l)))) in
      omega arith

module _ {B L : Type 0} (geometry : Geometry) (image : Image) (lawful : IsLawful geometry image) (bytes : ℕ → List ℕ) (all : Shelves Placed) (goods : AreGoods geometry image bytes all.tickets all.tokens) (blocks : AreBlocks geometry image bytes)
    (inode : ℕ) (f : FileState B L) (l : IsLoadedFile image geometry.shape all inode f) (fits : FitsFile image geometry.shape inode) where
  abbrev From : TreeNode → Type 0
  From m = IsNodeFrom image all inode m

  from : (m : TreeNode) → Among m (nodes_of f) → From m
  from = node_from geometry image lawful bytes all goods inode f l fits

  some_entry : (m : TreeNode) → From m → (entry_of image m.token.number).address ≢ 0
  some_entry m is = has_entry geometry image lawful bytes all goods m.token.number m.token is.token

  shows : (m : TreeNode) (is : From m) → m.token ≡ record { number = m.token.number; inode = (entry_of image m.token.number).inode; address = (entry_of image m.token.number).address; bytes = bytes (entry_of image m.token.number).address }
  shows m is = token_is geometry image lawful bytes all goods m.token.number m.token is.token

  spelled_one : (m : TreeNode) → From m → IsSpelled geometry.shape inode m
  spelled_one m is =
      let some = some_entry m is in
      let address : m.token.address ≡ (entry_of image m.token.number).address = ap (λ (x : TakenNumber). x.address) (shows m is) in
      let positive : 0 < m.token.address = elim (cases_eq m.token.address 0) [ inl none ↦ absurd (some (sym address ∙ none)) | inr other ↦ omega arith ] in
      let spells = blocks.spelled m.token.number (taken_of image m.token.number some) in (
        positive,
        subst (λ (n : ImageNode). Spells geometry.shape m.token.bytes n) (sym is.is) (subst (λ bs. Spells geometry.shape bs (node_of image m.token.number)) (sym (ap (λ (x : TakenNumber). x.bytes) (shows m is))) spells),
      )

  whole_one : (m : TreeNode) → From m → ragged (block_bytes geometry.shape) m.token ≡ 0
  whole_one m is =
      whole_test (block_bytes geometry.shape) m.token (ap (λ (x : TakenNumber). length x.bytes) (shows m is) ∙ blocks.whole (entry_of image m.token.number).address (address_some m is) (address_most m is))
    where
      address_some : (m : TreeNode) → From m → 1 ≤ (entry_of image m.token.number).address
      address_some m is = elim (cases_lt 0 (entry_of image m.token.number).address) [ inl low ↦ omega arith | inr none ↦ absurd (some_entry m is (omega arith)) ]

      address_most : (m : TreeNode) → From m → (entry_of image m.token.number).address ≤ block_count geometry
      address_most m is = entry_most geometry image lawful m.token.number (some_entry m is)

  strange_one : (m : TreeNode) → Among m (nodes_below f) → strange geometry.files inode m.token ≡ 0
  strange_one m among =
      let is = below_from geometry image lawful bytes all goods inode f l fits m among in
      let some = some_entry m is in
      let within = entry_within geometry image lawful m.token.number some in
      let rule : IsNodeOf geometry image m.token.number = lawful 3 (omega arith) (omega arith) m.token.number within.1 (taken_of image m.token.number some) in
      let class : (node_of image m.token.number).class ≡ m.class = sym (ap (λ (n : ImageNode). n.class) is.is) in
      let positive = below_class f m among in
      let past : geometry.files < m.token.number = elim (cases_lt geometry.files m.token.number) [
        | inl high ↦ high
        | inr low ↦ (let none = (rule.low low).0 in absurd (omega arith))
      ] in
      own_test geometry.files inode m.token (ap (λ (x : TakenNumber). x.inode) (shows m is) ∙ is.belongs) past

  numbered_one : (m : TreeNode) → From m → unnumbered m.token ≡ 0
  numbered_one m is = number_test m.token (entry_within geometry image lawful m.token.number (some_entry m is)).0

  pub all_numbered : HasNumbers f
  all_numbered = nodes_weigh (λ n. unnumbered n.token) f ∙ none_all (λ (n : TreeNode). unnumbered n.token) (nodes_of f) (λ m among. numbered_one m (from m among))

  pub state_law : f.shape ≡ geometry.shape → FileStateLaw geometry.files f
  state_law shape = record {
    spelled = λ n among clean. subst (λ s. IsSpelled s f.token.number n) (sym shape) (subst (λ i. IsSpelled geometry.shape i n) (sym l.number_is) (spelled_one n (from n among)));
    tokens = record {
      inode = ap (λ (x : TakenNumber). x.inode) (token_is geometry image lawful bytes all goods inode f.token l.token) ∙ (fits.belongs ∙ sym l.number_is);
      below = subst (λ i. below_weight f (of_tokens (strange geometry.files i)) ≡ 0) (sym l.number_is)
          (below_weighs (λ n. strange geometry.files inode n.token) f ∙ none_all (λ (n : TreeNode). strange geometry.files inode n.token) (nodes_below f) strange_one);
      whole = subst (λ s. weight_of f (of_tokens (ragged (block_bytes s))) ≡ 0) (sym shape)
          (nodes_weigh (λ n. ragged (block_bytes geometry.shape) n.token) f ∙ none_all (λ (n : TreeNode). ragged (block_bytes geometry.shape) n.token) (nodes_of f) (λ m among. whole_one m (from m among)));
    };
    placed = all_placed image all inode f (subst (λ s. IsLoadedFile image s all inode f) (sym shape) l);
  }
