-- The new block has the bytes of the old, in the same entry, and the hand changes by the same ticket or token as the
-- file: so the file is what it was, and holds what it has.
use Rattle.std.proofs.Common.{◌≡◌, ℕ, ◌+◌, ◌-◌, ◌*◌, ◌/◌, ◌%◌, ◌<◌, ◌==◌, max, cond, nat_lt, List, [], ◌∷◌, Option, Some, None, Bool, true, false, if◌then◌else◌, length, refl, sym, ap, subst, ◌∙◌, inl, inr, eq-eqb, ne_eqb, arith}
use Rattle.std.specs.Prelude.{◌⊎◌, ◌≢◌, ◌≤◌, MatchOption, replicate}
use Rattle.geometry.specs.declared.owner.Owner.{Owner}
use Rattle.geometry.specs.Path.{inode_entries, node_entries, largest_length, path}
use Rattle.nodes.specs.declared.branch.Branch.{Branch}
use Rattle.std.proofs.lemmas.Bool.{cases_eq}
use Rattle.geometry.specs.Weights.{weigh}
use Rattle.geometry.specs.Shape.{block_bytes}
use Rattle.rights_books.specs.Accounts.{HandView}
use Rattle.rights_books.specs.declared.claim.TakenNumber.{TakenNumber}
use Rattle.rights_books.specs.Lists.{times, without}
use Rattle.rights_books.specs.Rules.{moved_to, with_lodged}
use Rattle.rights_books.specs.Weights.{mark_of}
use Rattle.nat.specs.Taken.{placed_of}
use Rattle.geometry.specs.declared.owner.Mark.{Mark}
use Rattle.rights_books.specs.Sameness.{same_entry}
use Rattle.rights_books.proofs.Sameness.{entry_self}
use Rattle.rights_books.proofs.Steps.{without_entry, without_mark_first}
use Rattle.tickets.specs.Placed.{Placed}
use Rattle.nodes.specs.Tree.{SetsAt, Same, only_at_zero, entry_at, find_below, missing_below, missing_in}
use Rattle.nodes.specs.Marks.{MarksNode, lengthened}
use Rattle.geometry.specs.Mark.{same_mark}
use Rattle.geometry.specs.File.{written}
use Rattle.nodes.specs.Change.{TreeNode, ticket_weight, of_tickets, of_tokens, unnumbered}
use Rattle.nodes_walks.specs.Writing.{IsAmong}
use Rattle.nodes_walks.specs.Moving.{MovesOne}
use Rattle.nodes.specs.declared.file.FileState.{FileState}
use Rattle.nodes.specs.File.{IsFile, Shows, ticket_at, address_of, missing_to, content_of, weight_of, file_of, joined, find_direct, find_indirect, find_double, missing_direct, missing_indirect, missing_double, in_tickets, in_direct, in_indirect, in_double}
use Rattle.nodes.specs.Held.{Others}
use Rattle.nodes.proofs.Held.{weigh_tickets}
use Rattle.nodes.proofs.Shown.{same_shows}
use Rattle.nodes.proofs.Files.{shows_file_of, only_file}
use Rattle.geometry.specs.Owner.{IsOwner}
use Rattle.nodes.specs.Owners.{owner_at, namer_at, HasNumbers}
use Rattle.nodes.proofs.Numbered.{owner_valid}
use Rattle.nodes_law.specs.Law.{ragged, FileStateLaw}
use Rattle.nodes_law.specs.Contents.{IsStored, InHand, Serves}
use Rattle.nodes_law.proofs.Names.{named_still}
use Rattle.nodes_law.proofs.Serving.{stored_same, serves_not, first_ticket, with_ticket, less_ticket, serves_over, over_there}
use Rattle.cleaning.specs.declared.fate.Fate.{Fate}
use Rattle.cleaning.specs.declared.fate.Fate.TheVariants.{Moved, Gone}
use Rattle.cleaning.specs.Moves.{IsMovable, MovesToken, MovesAt, KeepsWeights}
use Rattle.cleaning.proofs.Lawful.{Carries}

-- a block came in the place of one of the same bytes
pub same_bytes : {B L : Type 0} (old new : FileState B L) (index : ℕ) (before after : Placed) → IsFile old → IsFile new → new.kind ≡ old.kind → new.length ≡ max old.length (index + 1)
    → index < old.length → ticket_at old index ≡ Some before → SetsAt (ticket_at old) (ticket_at new) index (Some after) → after.content ≡ before.content → file_of new ≡ file_of old
same_bytes old new index before after was now kind longer inside at sets bytes =
    sym (only_file new now (file_of old) (same_shows old new (file_of old) (shows_file_of old was) kind (omega arith) (λ i. elim (cases_eq i index) [
      | inl e ↦ ap (λ k. content_of (ticket_at new k)) e ∙ ap content_of sets.0 ∙ ap (λ (b : List ℕ). Some b) bytes ∙ sym (ap content_of at) ∙ sym (ap (λ k. content_of (ticket_at old k)) e)
      | inr ne ↦ ap content_of (sets.1 i ne)
    ])))

-- ---- a node's block

some_number : (k : TakenNumber) → unnumbered k ≡ 0 → 0 < k.number
some_number k none = elim (cases_eq k.number 0) [
  | inl e ↦ absurd (let one : unnumbered k ≡ 1 = ap (λ b. if b then 1 else 0) (eq-eqb k.number 0 e) in omega arith)
  | inr ne ↦ omega arith
]

module _ {B L : Type 0} (f : FileState B L) (x : HandView) (is : IsStored f) where
  -- the token of each node of a file can be moved
  pub nodes_movable : {files : ℕ} → FileStateLaw files f → (others : Others) → InHand others f x → (n : TreeNode) → IsAmong (weight_of f) n → IsMovable (block_bytes f.shape) n.token x
  nodes_movable law others held n among = record {
    number = some_number n.token (let all = is.numbered in let here = among (of_tokens unnumbered) in omega arith);
    held =
        let all = held.tokens (λ y. if same_entry n.token y then 1 else 0) in
        let one : ◌≡◌ {A = ℕ} (if same_entry n.token n.token then 1 else 0) 1 = ap (λ b. if b then 1 else 0) (entry_self n.token) in
        let some = among (of_tokens (λ y. if same_entry n.token y then 1 else 0)) in
        omega arith;
    whole = let all = law.tokens.whole in let here = among (of_tokens (ragged (block_bytes f.shape))) in omega arith;
  }

-- the token of one node of a file stays with what is in hand, or is changed in it
abbrev pub Fares : ℕ → TakenNumber → TakenNumber → HandView → HandView → Type 0
Fares address old new x y = ((new ≡ old) × (y ≡ x)) ⊎ MovesToken address old new x y

pub carries : (address : ℕ) (old new : TakenNumber) (x y : HandView) → 0 < address → Fares address old new x y → Carries old new
carries address old new x y some (inl stays) = inl stays.0
carries address old new x y some (inr moves) = let was = moves.elsewhere.was in inr (omega arith, moves.elsewhere.some, moves.elsewhere.token)

-- what a visitor says of it
pub fares : (address : ℕ) (old new : TakenNumber) (x y : HandView) (fate : Fate) → ((fate ≡ Gone) × (old.address ≢ address) × (new ≡ old) × (y ≡ x)) ⊎ ((fate ≡ Moved) × MovesToken address old new x y)
    → Fares address old new x y
fares address old new x y fate (inl stays) = inl (stays.2, stays.3)
fares address old new x y fate (inr moves) = inr moves.1

-- a token that stays leaves all weights as they were
pub stays_even : {B L : Type 0} (old new : FileState B L) (n : TreeNode) (k : TakenNumber) → MovesOne (weight_of old) (weight_of new) n k → k ≡ n.token → KeepsWeights old new
stays_even old new n k one stays w = let all = one.trades w in let same = ap (λ (e : TakenNumber). w.node (record n { token = e })) stays in omega arith

module _ {B L : Type 0} (old new : FileState B L) (x y : HandView) (is : IsStored old) (now : IsFile new) (shape : new.shape ≡ old.shape) (kind : new.kind ≡ old.kind)
    (long : new.length ≡ old.length) (number : new.token.number ≡ old.token.number) (same : Same (ticket_at old) (ticket_at new)) (names : Same (namer_at old) (namer_at new))
    (n : TreeNode) (k : TakenNumber) (one : MovesOne (weight_of old) (weight_of new) n k) (address : ℕ) (fate : Fares address n.token k x y) where
  short : new.length ≤ largest_length new.shape
  short = let s = is.short in let top = ap largest_length shape in omega arith

  stored : IsStored new
  stored = stored_same old new is now shape kind long same
      (named_still old new is.named now short shape (λ i t at. sym (same i) ∙ at) (λ i t at. names i))
      (let all = one.trades (of_tickets (λ t. 1)) in omega arith)
      (let all = one.trades (of_tokens unnumbered) in
      let was = is.numbered in
      let here = one.among (of_tokens unnumbered) in
      let numbers = ap (λ (m : ℕ). unnumbered (record k { number = m })) one.number in omega arith)

  held_in : {files : ℕ} → FileStateLaw files old → (others : Others) → InHand others old x → InHand others new y
  held_in law others held = elim fate [
    | inl stays ↦ (
        let k_is = stays.0 in
        record {
          tickets = λ h. (let all = one.trades (of_tickets (λ t. h t.mark)) in let was = held.tickets h in let hand = ap (λ (v : HandView). weigh h v.tickets) stays.1 in omega arith);
          tokens = λ h. (let all = one.trades (of_tokens h) in let was = held.tokens h in let there = ap h k_is in let hand = ap (λ (v : HandView). weigh h v.tokens) stays.1 in omega arith);
        })
    | inr moves ↦ record {
      tickets = λ h. (let all = one.trades (of_tickets (λ t. h t.mark)) in let was = held.tickets h in let hand = ap (λ (v : HandView). weigh h v.tickets) moves.hand in omega arith);
      tokens = λ h. (let all = one.trades (of_tokens h) in let was = held.tokens h in
          let less = without_entry h n.token x.tokens (nodes_movable old x is law others held n one.among).held in
          let hand = ap (λ (v : HandView). weigh h v.tokens) moves.hand in omega arith);
    }
  ]

  same_book : y.book ≡ x.book
  same_book = elim fate [ inl stays ↦ ap (λ (v : HandView). v.book) stays.1 | inr moves ↦ ap (λ (v : HandView). v.book) moves.hand ]

  pub serves_moved : {files : ℕ} → FileStateLaw files old → Serves old new x y
  serves_moved law = record {
    stored = stored;
    shape = shape;
    number = number;
    others = held_in law;
    book = same_book;
  }

-- ---- where a block stands, no node is missing on the way

module _ {L : Type 0} where
  way_below : {B C : Type 0} (slots : B → List (Option C)) (find : Option C → ℕ → Option L) (missing : Option C → ℕ → ℕ) (span : ℕ)
      → ((s : Option C) (i : ℕ) (t : L) → find s i ≡ Some t → missing s i ≡ 0)
      → (s : Option B) (i : ℕ) (t : L) → find_below slots find span s i ≡ Some t → missing_below slots missing span s i ≡ 0
  way_below slots find missing span below None i t e = absurd (let no = e in cc)
  way_below slots find missing span below (Some b) i t e = below (entry_at (slots b) (i / span)) (i % span) t e

  way_joined : (w : ℕ) (f g : ℕ → Option L) (m n : ℕ → ℕ) → ((i : ℕ) (t : L) → f i ≡ Some t → m i ≡ 0) → ((i : ℕ) (t : L) → g i ≡ Some t → n i ≡ 0)
      → (i : ℕ) (t : L) → joined w f g i ≡ Some t → joined w m n i ≡ 0
  way_joined w f g m n one two i t e = go (nat_lt i w) e
    where
      go : (b : Bool) → cond b (f i) (g (i - w)) ≡ Some t → cond b (m i) (n (i - w)) ≡ 0
      go true e = one i t e
      go false e = two (i - w) t e

way_direct : (e : ℕ) (s : Option (Branch Placed)) (i : ℕ) (t : Placed) → find_direct e s i ≡ Some t → missing_direct e s i ≡ 0
way_direct e = way_below (λ b. b.entries.slots.items) only_at_zero (λ _ _. 0) 1 (λ s i t is. refl)

way_indirect : (e : ℕ) (s : Option (Branch (Branch Placed))) (i : ℕ) (t : Placed) → find_indirect e s i ≡ Some t → missing_indirect e s i ≡ 0
way_indirect e = way_below (λ b. b.entries.slots.items) (find_direct e) (missing_direct e) (e * 1) (way_direct e)

way_double : (e : ℕ) (s : Option (Branch (Branch (Branch Placed)))) (i : ℕ) (t : Placed) → find_double e s i ≡ Some t → missing_double e s i ≡ 0
way_double e = way_below (λ b. b.entries.slots.items) (find_indirect e) (missing_indirect e) (e * (e * 1)) (way_indirect e)

pub way_there : {B L : Type 0} (f : FileState B L) (i : ℕ) (t : Placed) → ticket_at f i ≡ Some t → missing_to f i ≡ 0
way_there f i t at =
    let e = node_entries f.shape in
    way_joined (inode_entries f.shape) (in_tickets f) (joined (2 * e) (in_direct f) (joined (2 * (e * e)) (in_indirect f) (in_double f)))
    (λ _. 0) (joined (2 * e) (missing_in (missing_direct e) (e * 1) f.direct.slots.items) (joined (2 * (e * e)) (missing_in (missing_indirect e) (e * (e * 1)) f.indirect.slots.items) (missing_in (missing_double e) (e * (e * (e * 1))) f.double.slots.items)))
    (λ _ _ _. refl)
    (way_joined (2 * e) (in_direct f) (joined (2 * (e * e)) (in_indirect f) (in_double f))
    (missing_in (missing_direct e) (e * 1) f.direct.slots.items) (joined (2 * (e * e)) (missing_in (missing_indirect e) (e * (e * 1)) f.indirect.slots.items) (missing_in (missing_double e) (e * (e * (e * 1))) f.double.slots.items))
    (λ k u is. way_direct e (entry_at f.direct.slots.items (k / (e * 1))) (k % (e * 1)) u is)
    (way_joined (2 * (e * e)) (in_indirect f) (in_double f)
    (missing_in (missing_indirect e) (e * (e * 1)) f.indirect.slots.items) (missing_in (missing_double e) (e * (e * (e * 1))) f.double.slots.items)
    (λ k u is. way_indirect e (entry_at f.indirect.slots.items (k / (e * (e * 1)))) (k % (e * (e * 1))) u is)
    (λ k u is. way_double e (entry_at f.double.slots.items (k / (e * (e * (e * 1))))) (k % (e * (e * (e * 1)))) u is)))
    i t at

-- a read of a block that stands there has room for it, and gives its bytes
pub read_fits : {B L : Type 0} (f : FileState B L) (index : ℕ) (out : List ℕ) → IsStored f → length out ≡ block_bytes f.shape
    → MatchOption (ticket_at f index) (Unit {0}) (λ t. length out ≡ length t.content)
read_fits f index out is long = go (ticket_at f index) refl
  where
    go : (o : Option Placed) → ticket_at f index ≡ o → MatchOption o (Unit {0}) (λ t. length out ≡ length t.content)
    go None at = tt
    go (Some t) at = long ∙ sym (is.whole index t at)

pub read_there : (o : Option Placed) (b : Placed) (size : ℕ) (out : List ℕ) → MatchOption o (out ≡ replicate size 0) (λ t. out ≡ t.content) → o ≡ Some b → out ≡ b.content
read_there None b size out read at = absurd (let no = at in cc)
read_there (Some t) b size out read at = read ∙ ap content_in at
  where
    content_in : Option Placed → List ℕ
    content_in None = []
    content_in (Some u) = u.content

-- ---- a data block is moved: its ticket comes, and the old one goes

-- the ticket at an address, and what it says
pub some_ticket : (o : Option Placed) → 0 < address_of o → (t : Placed) × (o ≡ Some t)
some_ticket None some = absurd (omega arith)
some_ticket (Some t) some = (t, refl)

-- who names an index is one that can own a block
pub valid_owner : {B L : Type 0} (f : FileState B L) → HasNumbers f → (i : ℕ) (o : Owner) → owner_at f (path f.shape i) ≡ Some o → IsOwner o
valid_owner f numbers i o at = subst (λ (x : Option Owner). MatchOption x (Unit {0}) IsOwner) at (owner_valid f numbers i)

module _ {B L : Type 0} (old new : FileState B L) (x y z : HandView) (index : ℕ) (t b : Placed) (is : IsStored old) (now : IsFile new) (shape : new.shape ≡ old.shape) (kind : new.kind ≡ old.kind)
    (inside : index < old.length) (longer : new.length ≡ max old.length (index + 1)) (at : Some b ≡ ticket_at old index) (sets : SetsAt (ticket_at old) (ticket_at new) index (Some t))
    (shows : Shows new (written (file_of old) index t.content)) (change : MarksNode (lengthened index) old new (λ w. ticket_weight w (Some b)) (λ w. w.ticket t))
    (bytes : t.content ≡ b.content) (came : y ≡ with_ticket t.mark x) where
  pub block_serves : Same (namer_at old) (namer_at new) → owner_at old (path old.shape index) ≡ Some t.mark.owner → z ≡ less_ticket b.mark y → Serves old new x z
  block_serves names owner went =
      serves_over old new x z index t is now shape (let s = is.short in omega arith) longer sets shows (ap length bytes ∙ is.whole index b (sym at)) names owner b at change
      (went ∙ ap (less_ticket b.mark) came)

  pub block_file : file_of new ≡ file_of old
  block_file = same_bytes old new index b t is.file now kind longer inside (sym at) sets bytes

  pub block_there : (others : Others) → InHand others old x → 0 < times same_mark b.mark y.tickets
  block_there others was = subst (λ (h : HandView). 0 < times same_mark b.mark h.tickets) (sym came) (over_there old new x index t b was change)

  -- it stands elsewhere, under the same owner
  pub block_moved : (m : Mark) → address_of (ticket_at old index) ≡ m.address → owner_at old (path old.shape index) ≡ Some m.owner → t.mark.address ≢ m.address → t.mark.owner ≡ m.owner
      → (before : Placed) × (after : Placed) × MovesAt m old new index before after
  block_moved m from names other owner = (
    b,
    t,
    record {
      there = sym at;
      sets = sets;
      elsewhere = record {
        was = λ i. record { address = address_is i; owner = owner_is i };
        other = other;
        owner = owner;
        bytes = bytes;
      };
      tickets = λ h. weigh_tickets (lengthened index) old new (λ w. ticket_weight w (Some b)) (λ w. w.ticket t) change h;
    },
  )
    where
      owner_of : Option Owner → Owner
      owner_of None = m.owner
      owner_of (Some o) = o

      address_is : b.mark.address ≡ m.address
      address_is = ap address_of at ∙ from

      owner_is : b.mark.owner ≡ m.owner
      owner_is = ap (λ (o : Option Owner). owner_of o) (sym (is.named index b (sym at)) ∙ names)

-- ---- a node's block is moved: another ticket is lodged in its entry, and the old one goes

module _ (k new : TakenNumber) (x y z w : HandView) (t b : Placed) (some : 0 < k.address) (came : y ≡ with_ticket t.mark x) (before : Some b ≡ placed_of k)
    (swapped : z ≡ record y { tickets = with_lodged k (without same_mark t.mark y.tickets); tokens = new ∷ without same_entry k y.tokens }) where
  isnt_zero : (k.address == 0) ≡ false
  isnt_zero = ne_eqb k.address 0 (λ e. absurd (omega arith))

  abbrev old_block : Placed
  old_block = record { mark = mark_of k; content = k.bytes }

  old_is : Some b ≡ Some old_block
  old_is = before ∙ ap (λ c. if c then None else Some old_block) isnt_zero

  mark_is : b.mark ≡ mark_of k
  mark_is = ap (mark_in k) old_is
    where
      mark_in : TakenNumber → Option Placed → Mark
      mark_in e None = mark_of e
      mark_in e (Some u) = u.mark

  pub node_bytes : b.content ≡ k.bytes
  node_bytes = ap (bytes_in k) old_is
    where
      bytes_in : TakenNumber → Option Placed → List ℕ
      bytes_in e None = e.bytes
      bytes_in e (Some u) = u.content

  abbrev with_both : HandView
  with_both = record x { tickets = mark_of k ∷ x.tickets; tokens = new ∷ without same_entry k x.tokens }

  hand_between : z ≡ with_both
  hand_between = swapped
      ∙ ap (λ (h : HandView). record h { tickets = with_lodged k (without same_mark t.mark h.tickets); tokens = new ∷ without same_entry k h.tokens }) came
      ∙ (λ i. record x { tickets = with_lodged k (without_mark_first t.mark x.tickets i); tokens = new ∷ without same_entry k x.tokens })
      ∙ ap (λ (c : Bool). record x { tickets = if c then x.tickets else mark_of k ∷ x.tickets; tokens = new ∷ without same_entry k x.tokens }) isnt_zero

  pub node_there : 0 < times same_mark b.mark z.tickets
  node_there = subst (λ (m : Mark). 0 < times same_mark m z.tickets) (sym mark_is)
      (subst (λ (h : HandView). 0 < times same_mark (mark_of k) h.tickets) (sym hand_between) (first_ticket (mark_of k) x.tickets))

  pub node_hand : w ≡ less_ticket b.mark z → w ≡ record x { tokens = new ∷ without same_entry k x.tokens }
  node_hand went = went ∙ ap (less_ticket b.mark) hand_between ∙ ap (λ (m : Mark). less_ticket m with_both) mark_is
      ∙ (λ i. record with_both { tickets = without_mark_first (mark_of k) x.tickets i })

  -- the node's block stands elsewhere
  pub node_moves : w ≡ less_ticket b.mark z → 0 < t.mark.address → t.mark.address ≢ k.address → t.content ≡ k.bytes → new ≡ moved_to t.mark.address t.content k
      → MovesToken k.address k new x w
  node_moves went placed other bytes token = record {
    elsewhere = record {
      was = refl;
      other = λ e. other (sym address_is ∙ e);
      some = (let same = address_is in omega arith);
      token = token ∙ (λ i. moved_to (sym address_is i) (bytes i) k);
    };
    hand = node_hand went;
  }
    where
      address_is : new.address ≡ t.mark.address
      address_is = ap (λ (e : TakenNumber). e.address) token

-- a node that has a block has a ticket of it
pub has_ticket : (k : TakenNumber) → 0 < k.address → None ≡ placed_of k → ⊥
has_ticket k some none =
    let there : placed_of k ≡ Some (record { mark = mark_of k; content = k.bytes }) = ap (λ c. if c then None else Some (record { mark = mark_of k; content = k.bytes })) (ne_eqb k.address 0 (λ e. absurd (omega arith))) in
    let no = none ∙ there in cc

-- nothing has changed
pub serves_stays : {B L : Type 0} (old new : FileState B L) (x y : HandView) → IsStored old → new ≡ old → y ≡ x → Serves old new x y
serves_stays old new x y is same hand = subst (λ f. Serves old f x y) (sym same) (subst (λ h. Serves old old x h) (sym hand) (serves_not old x is))

-- what a visitor that was lent a hand left in it is what is in hand
pub given : (z y x : HandView) → z ≡ y → y ≡ x → z ≡ x
given z y x back same = back ∙ same

pub serves_given : {B L : Type 0} (old new : FileState B L) (x z y : HandView) → z ≡ y → Serves old new x y → Serves old new x z
serves_given old new x z y back serves = subst (λ h. Serves old new x h) (sym back) serves
