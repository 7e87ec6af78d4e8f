-- What comes into a file comes into the hand and what goes out goes from it, so the two weigh the same through one call
-- and the next, whatever others have in hand.
use Rattle.std.proofs.Common.{◌≤◌, ◌≡◌, ℕ, ◌+◌, ◌<◌, max, min, List, ◌∷◌, Option, Some, None, Bool, true, false, cond, eqb-true, if◌then◌else◌, length, refl, sym, ap, subst, ◌∙◌, inl, inr, ne_eqb, ◌==◌, ◌||◌, arith}
use Rattle.std.specs.Prelude.{is_some, nat_lt}
use Rattle.std.proofs.lemmas.Bool.{cases_eq, cases_lt}
use borrow.Author.Tests.{le-ltb}
use Rattle.std.specs.Ordering.{nat_cmp}
use Rattle.std.proofs.lemmas.Cmp.{nat_cmp_total}
use Rattle.std.specs.FinMap.{FinMap, get, insert, len, retain_keys, len-insert, get-retain_keys, same_map, nat_cmp-IsAntisymmetric}
use Rattle.geometry.specs.declared.owner.Mark.{Mark}
use Rattle.geometry.specs.Mark.{same_mark}
use Rattle.geometry.specs.Path.{largest_length, path}
use Rattle.geometry.specs.Shape.{block_bytes}
use Rattle.geometry.specs.File.{File, Block, written, cut_to}
use Rattle.rights_books.specs.Accounts.{HandView}
use Rattle.rights_books.specs.declared.claim.TakenNumber.{TakenNumber}
use Rattle.rights_books.specs.Lists.{times, without}
use Rattle.rights_books.specs.Sameness.{same_entry}
use Rattle.rights_books.proofs.Sameness.{entry_self}
use Rattle.rights_books.proofs.Steps.{without_entry_first, without_mark_first}
use Rattle.rights_books.specs.Rules.{with_lodged}
use Rattle.rights_books.specs.Weights.{mark_of}
use Rattle.geometry.specs.declared.owner.Owner.TheVariants.{Node}
use Rattle.geometry.proofs.MarkTests.{mark_self}
use Rattle.nat.specs.Taken.{placed_of}
use Rattle.tickets.specs.Placed.{Placed}
use Rattle.nodes.specs.declared.spare.Spare.TheVariants.{Ticket, Token}
use Rattle.nodes.specs.Tree.{SetsAt, KeepsNamers, Same, HandsOut}
use Rattle.nodes.specs.Change.{Weighing, WeighsAs, nothing, ticket_weight, of_tickets, of_tokens, unnumbered}
use Rattle.nodes.specs.declared.file.FileState.{FileState}
use Rattle.nodes.specs.File.{IsFile, Shows, ticket_at, content_of, weight_of, below_weight, file_of}
use Rattle.nodes.specs.Marks.{MarksNode, unchanged, lengthened}
use Rattle.nodes.specs.Owners.{HasNumbers, AreNamed, owner_at, namer_at}
use Rattle.nodes.specs.Held.{Others, AreHeldBeside}
use Rattle.nodes.proofs.Shown.{same_shows, got, kept}
use Rattle.nodes.proofs.Files.{shows_file_of, only_file}
use Rattle.nodes.proofs.Held.{weigh_tickets, weigh_tokens, held_put, held_over, held_ticket, held_token, held_same, ticket_there, ticket_spent, token_there, token_spent}
use Rattle.nodes_law.proofs.Names.{named_still, named_put}
use Rattle.nodes_law.specs.Law.{FileStateLaw, ragged}
use Rattle.nodes_law.specs.Contents.{IsStored, InHand, Serves}

-- 1 for each ticket
abbrev pub each_ticket : Weighing Placed
each_ticket = of_tickets (λ t. 1)

-- what is in hand after a ticket or a token came or went
abbrev pub with_ticket : Mark → HandView → HandView
with_ticket m hand = record hand { tickets = m ∷ hand.tickets }

abbrev pub less_ticket : Mark → HandView → HandView
less_ticket m hand = record hand { tickets = without same_mark m hand.tickets }

abbrev pub with_token : TakenNumber → HandView → HandView
with_token k hand = record hand { tokens = k ∷ hand.tokens }

abbrev pub less_token : TakenNumber → HandView → HandView
less_token k hand = record hand { tokens = without same_entry k hand.tokens }

pub has_number : (k : TakenNumber) → 0 < k.number → unnumbered k ≡ 0
has_number k some = ap (λ b. if b then 1 else 0) (ne_eqb k.number 0 (λ e. absurd (omega arith)))

pub first_token : (k : TakenNumber) (ks : List TakenNumber) → 0 < times same_entry k (k ∷ ks)
first_token k ks =
    let one : ◌≡◌ {A = ℕ} (if same_entry k k then 1 else 0) 1 = ap (λ b. if b then 1 else 0) (entry_self k) in
    omega arith

pub first_ticket : (m : Mark) (ms : List Mark) → 0 < times same_mark m (m ∷ ms)
first_ticket m ms =
    let one : ◌≡◌ {A = ℕ} (if same_mark m m then 1 else 0) 1 = ap (λ b. if b then 1 else 0) (mark_self m) in
    omega arith

-- the bytes of a ticket's block
abbrev pub long : Placed → ℕ
long t = length t.content

some_not_none : {A : Type 0} (x : A) → Some x ≡ None → ⊥
some_not_none {A} x e = let no = ap (λ (o : Option A). is_some o) e in cc

abbrev long_of : Option Placed → ℕ
long_of None = 0
long_of (Some t) = long t

-- the mark of a ticket that may be missing
abbrev mark_in : Option Placed → Mark
mark_in None = record { address = 0; owner = Node 0 }
mark_in (Some t) = t.mark

-- ---- a node's number is given back, and its block where it has one

module _ (k : TakenNumber) (x y : HandView) where
  abbrev given : HandView
  given = record x { tickets = with_lodged k x.tickets; tokens = without same_entry k x.tokens }

  pub given_none : placed_of k ≡ None → y ≡ given → y ≡ less_token k x
  given_none none is = is ∙ go (k.address == 0) none
    where
      go : (b : Bool) → ◌≡◌ {A = Option Placed} (if b then None else Some (record { mark = mark_of k; content = k.bytes })) None
          → ◌≡◌ {A = HandView} (record x { tickets = if b then x.tickets else mark_of k ∷ x.tickets; tokens = without same_entry k x.tokens }) (less_token k x)
      go true e = refl
      go false e = absurd (some_not_none (record { mark = mark_of k; content = k.bytes }) e)

  module _ (t : Placed) (some : placed_of k ≡ Some t) where
    came : y ≡ given → y ≡ with_ticket t.mark (less_token k x)
    came is = is ∙ go (k.address == 0) some
      where
        go : (b : Bool) → ◌≡◌ {A = Option Placed} (if b then None else Some (record { mark = mark_of k; content = k.bytes })) (Some t)
            → ◌≡◌ {A = HandView} (record x { tickets = if b then x.tickets else mark_of k ∷ x.tickets; tokens = without same_entry k x.tokens }) (with_ticket t.mark (less_token k x))
        go true e = absurd (some_not_none t (sym e))
        go false e = ap (λ (m : Mark). with_ticket m (less_token k x)) (ap mark_in e)

    pub given_there : y ≡ given → 0 < times same_mark t.mark y.tickets
    given_there is = subst (λ (h : HandView). 0 < times same_mark t.mark h.tickets) (sym (came is)) (first_ticket t.mark x.tickets)

    pub given_some : y ≡ given → less_ticket t.mark y ≡ less_token k x
    given_some is = ap (less_ticket t.mark) (came is) ∙ (λ i. record (less_token k x) { tickets = without_mark_first t.mark x.tickets i })

    pub given_whole : (bytes : ℕ) → ragged bytes k ≡ 0 → length t.content ≡ bytes
    given_whole bytes whole = go (k.address == 0) some whole
      where
        fits : (b : Bool) → length k.bytes == bytes ≡ b → ◌≡◌ {A = ℕ} (if b then 0 else 1) 0 → length k.bytes ≡ bytes
        fits true e is = eqb-true (length k.bytes) bytes e
        fits false e is = absurd (omega arith)

        go : (b : Bool) → ◌≡◌ {A = Option Placed} (if b then None else Some (record { mark = mark_of k; content = k.bytes })) (Some t)
            → ◌≡◌ {A = ℕ} (if b || (length k.bytes == bytes) then 0 else 1) 0 → length t.content ≡ bytes
        go true e is = absurd (some_not_none t (sym e))
        go false e is = ap (λ o. long_of o) (sym e) ∙ fits (length k.bytes == bytes) refl is

-- ---- one call after another

module _ {B L : Type 0} where
  pub serves_not : (f : FileState B L) (x : HandView) → IsStored f → Serves f f x x
  serves_not f x is = record {
    stored = is;
    shape = refl;
    number = refl;
    others = λ others was. was;
    book = refl;
  }

  pub serves_both : (f g h : FileState B L) (x y z : HandView) → Serves f g x y → Serves g h y z → Serves f h x z
  serves_both f g h x y z one two = record {
    stored = two.stored;
    shape = two.shape ∙ one.shape;
    number = two.number ∙ one.number;
    others = λ others was. two.others others (one.others others was);
    book = two.book ∙ one.book;
  }

-- ---- the file as it was

module _ {B L : Type 0} (old new : FileState B L) (is : IsStored old) (now : IsFile new) (shape : new.shape ≡ old.shape) (kind : new.kind ≡ old.kind) where
  pub same_file : new.length ≡ old.length → Same (ticket_at old) (ticket_at new) → file_of new ≡ file_of old
  same_file length same =
      sym (only_file new now (file_of old) (same_shows old new (file_of old) (shows_file_of old is.file) kind length (λ i. ap content_of (same i))))

  short_same : new.length ≡ old.length → new.length ≤ largest_length new.shape
  short_same length = let s = is.short in let top = ap largest_length shape in omega arith

  pub stored_same : new.length ≡ old.length → Same (ticket_at old) (ticket_at new) → AreNamed new → weight_of new each_ticket ≡ weight_of old each_ticket → HasNumbers new → IsStored new
  stored_same length same named weight numbered = record {
    named = named;
    file = now;
    short = short_same length;
    numbered = numbered;
    whole = λ i t at. is.whole i t (sym (same i) ∙ at) ∙ ap block_bytes (sym shape);
    counted = weight ∙ (is.counted ∙ ap (λ (f : File). len f.blocks) (sym (same_file length same)));
  }

-- a token came and went again
pub serves_back : {B L : Type 0} (f : FileState B L) (x y z : HandView) (k : TakenNumber) → IsStored f → y ≡ with_token k x → z ≡ less_token k y
    → Serves f f x z
serves_back f x y z k is there back = record {
  stored = is;
  shape = refl;
  number = refl;
  others = λ others was. subst (λ (h : HandView). AreHeldBeside others f h.tickets h.tokens) (sym whole) was;
  book = ap (λ (h : HandView). h.book) whole;
}
  where
    whole : z ≡ x
    whole = back ∙ (ap (less_token k) there ∙ (λ i. record x { tokens = without_entry_first k x.tokens i }))

-- ---- a ticket comes, and one goes

module _ {B L : Type 0} (old new : FileState B L) (x y : HandView) (index : ℕ) (t : Placed) (is : IsStored old) (now : IsFile new) (shape : new.shape ≡ old.shape) (inside : index < largest_length old.shape)
    (longer : new.length ≡ max old.length (index + 1)) (sets : SetsAt (ticket_at old) (ticket_at new) index (Some t))
    (shows : Shows new (written (file_of old) index t.content)) (whole : length t.content ≡ block_bytes old.shape) where
  pub put_file : file_of new ≡ written (file_of old) index t.content
  put_file = sym (only_file new now (written (file_of old) index t.content) shows)

  there : (before : Option Placed) → before ≡ ticket_at old index → is_some (get (file_of old).blocks index) ≡ is_some (content_of before)
  there before at = ap is_some ((shows_file_of old is.file).blocks index ∙ ap content_of (sym at))

  counted : (before : Option Placed) → before ≡ ticket_at old index → weight_of new each_ticket + ticket_weight each_ticket before ≡ weight_of old each_ticket + 1
      → weight_of new each_ticket ≡ len (insert (file_of old).blocks index t.content)
  counted None at weight =
      let was = is.counted in
      let m = (file_of old).blocks in
      let more = len-insert nat_cmp_total m index t.content ∙ ap (λ b. cond b (len m) (len m + 1)) (there None at) in omega arith
  counted (Some b) at weight =
      let was = is.counted in
      let m = (file_of old).blocks in
      let more = len-insert nat_cmp_total m index t.content ∙ ap (λ b. cond b (len m) (len m + 1)) (there (Some b) at) in omega arith

  stored_put : Same (namer_at old) (namer_at new) → owner_at old (path old.shape index) ≡ Some t.mark.owner → (before : Option Placed) → before ≡ ticket_at old index → MarksNode (lengthened index) old new (λ w. ticket_weight w before) (λ w. w.ticket t) → IsStored new
  stored_put names owner before at change = record {
    file = now;
    short = short_put;
    named = named_put old new is.named now short_put shape index t sets names owner;
    numbered =
        let all = weigh_tokens (lengthened index) old new (λ w. ticket_weight w before) (λ w. w.ticket t) change unnumbered in
        let was = is.numbered in omega arith;
    whole = λ i u there. elim (cases_eq i index) [
      | inl e ↦ let same : Some t ≡ Some u = sym sets.0 ∙ (ap (ticket_at new) (sym e) ∙ there) in
          ap long_of (sym same) ∙ (whole ∙ ap block_bytes (sym shape))
      | inr ne ↦ is.whole i u (sym (sets.1 i ne) ∙ there) ∙ ap block_bytes (sym shape)
    ];
    counted = counted before at (weigh_tickets (lengthened index) old new (λ w. ticket_weight w before) (λ w. w.ticket t) change (λ m. 1))
        ∙ ap (λ (f : File). len f.blocks) (sym put_file);
  }
    where
      short_put : new.length ≤ largest_length new.shape
      short_put = let s = is.short in let top = ap largest_length shape in omega arith

  pub serves_put : Same (namer_at old) (namer_at new) → owner_at old (path old.shape index) ≡ Some t.mark.owner → None ≡ ticket_at old index → MarksNode (lengthened index) old new (λ w. ticket_weight w None) (λ w. w.ticket t) → y ≡ with_ticket t.mark x → Serves old new x y
  serves_put names owner at change hand = record {
    stored = stored_put names owner None at change;
    shape = shape;
    number = ap (λ (e : TakenNumber). e.number) change.token;
    others = λ others was. subst (λ (h : HandView). AreHeldBeside others new h.tickets h.tokens) (sym hand)
        (held_put old new x.tickets x.tokens was (lengthened index) t change);
    book = ap (λ (h : HandView). h.book) hand;
  }

  pub serves_over : Same (namer_at old) (namer_at new) → owner_at old (path old.shape index) ≡ Some t.mark.owner → (b : Placed) → Some b ≡ ticket_at old index → MarksNode (lengthened index) old new (λ w. ticket_weight w (Some b)) (λ w. w.ticket t)
      → y ≡ less_ticket b.mark (with_ticket t.mark x) → Serves old new x y
  serves_over names owner b at change hand = record {
    stored = stored_put names owner (Some b) at change;
    shape = shape;
    number = ap (λ (e : TakenNumber). e.number) change.token;
    others = λ others was. subst (λ (h : HandView). AreHeldBeside others new h.tickets h.tokens) (sym hand)
        (ticket_spent new b.mark (t.mark ∷ x.tickets) x.tokens (held_over old new x.tickets x.tokens was (lengthened index) t b change));
    book = ap (λ (h : HandView). h.book) hand;
  }

-- the ticket that stood there is in hand
pub over_there : {B L : Type 0} {others : Others} (old new : FileState B L) (x : HandView) (index : ℕ) (t b : Placed) → InHand others old x
    → MarksNode (lengthened index) old new (λ w. ticket_weight w (Some b)) (λ w. w.ticket t) → 0 < times same_mark b.mark (t.mark ∷ x.tickets)
over_there old new x index t b was change =
    ticket_there new b.mark (t.mark ∷ x.tickets) x.tokens (held_over old new x.tickets x.tokens was (lengthened index) t b change)

-- ---- a ticket or a node goes, where the file is cut

module _ {B L : Type 0} (old new : FileState B L) (x y : HandView) (n : ℕ) (is : IsStored old) (now : IsFile new) (shape : new.shape ≡ old.shape) (kind : new.kind ≡ old.kind)
    (length : new.length ≡ old.length) where
  short_as : new.length ≤ largest_length new.shape
  short_as = let s = is.short in let top = ap largest_length shape in omega arith

  were : (q : ℕ) → get (file_of old).blocks q ≡ content_of (ticket_at old q)
  were = (shows_file_of old is.file).blocks

  are : (q : ℕ) → get (file_of new).blocks q ≡ content_of (ticket_at new q)
  are = (shows_file_of new now).blocks

  abbrev out_at : ℕ → FinMap nat_cmp Block → FinMap nat_cmp Block
  out_at from blocks = retain_keys blocks (λ index. nat_lt index from)

  below_cut : (m : FinMap nat_cmp Block) (q : ℕ) → get (out_at n m) q ≡ cond (nat_lt q n) (get m q) None
  below_cut m q = get-retain_keys m (λ k. nat_lt k n) q (λ z e. ap (λ k. nat_lt k n) (sym (nat_cmp-IsAntisymmetric q z e)))

  -- below the cut the file is as it was
  cut_same : ((q : ℕ) → q < n → ticket_at new q ≡ ticket_at old q) → cut_to (file_of new) n ≡ cut_to (file_of old) n
  cut_same same k = record {
    kind = kind k;
    length = ap (min n) length k;
    blocks = same_map nat_cmp_total nat_cmp-IsAntisymmetric (out_at n (file_of new).blocks) (out_at n (file_of old).blocks)
        (λ q. below_cut (file_of new).blocks q
        ∙ elim (cases_lt q n) [
          | inl lt ↦ ap (λ b. cond (nat_lt q n) b None) (are q ∙ (ap content_of (same q lt) ∙ sym (were q)))
          | inr ge ↦ ap (λ b. cond b (get (file_of new).blocks q) None) (le-ltb q n ge) ∙ sym (ap (λ b. cond b (get (file_of old).blocks q) None) (le-ltb q n ge))
        ] ∙ sym (below_cut (file_of old).blocks q)) k;
  }

  module _ (t : Placed) (hands : HandsOut (ticket_at old) (ticket_at new) n (Ticket t)) (out : Weighing Placed → ℕ) (weighs : WeighsAs (Ticket t) out)
      (change : MarksNode unchanged old new out nothing) where
    abbrev at : ℕ
    at = hands.0

    with_it : insert (file_of new).blocks at t.content ≡ (file_of old).blocks
    with_it = same_map nat_cmp_total nat_cmp-IsAntisymmetric (insert (file_of new).blocks at t.content) (file_of old).blocks (λ q. elim (cases_eq q at) [
      | inl e ↦ got (file_of new).blocks at t.content q e ∙ sym (were q ∙ ap content_of (ap (ticket_at old) e ∙ hands.2))
      | inr ne ↦ kept (file_of new).blocks at t.content q ne ∙ (are q ∙ (ap content_of (hands.3.1 q ne) ∙ sym (were q)))
    ])

    fewer : len (file_of new).blocks + 1 ≡ len (file_of old).blocks
    fewer =
        let m = (file_of new).blocks in
        let none : is_some (get m at) ≡ false = ap is_some (are at ∙ ap content_of hands.3.0) in
        sym (ap len (sym with_it) ∙ (len-insert nat_cmp_total m at t.content ∙ ap (λ b. cond b (len m) (len m + 1)) none))

    pub whole_out : long t ≡ block_bytes old.shape
    whole_out = is.whole at t hands.2

    pub cut_out : cut_to (file_of new) n ≡ cut_to (file_of old) n
    cut_out = cut_same (λ q lt. hands.3.1 q (λ e. let far = hands.1 in absurd (omega arith)))

    pub out_there : {others : Others} → InHand others old x → 0 < times same_mark t.mark x.tickets
    out_there was = ticket_there new t.mark x.tickets x.tokens (held_ticket old new x.tickets x.tokens was unchanged t out weighs change)

    still : (i : ℕ) (u : Placed) → ticket_at new i ≡ Some u → ticket_at old i ≡ Some u
    still i u there = elim (cases_eq i at) [
      | inl e ↦ let none = sym hands.3.0 ∙ (ap (ticket_at new) (sym e) ∙ there) in absurd (cc)
      | inr ne ↦ sym (hands.3.1 i ne) ∙ there
    ]

    pub serves_out : KeepsNamers (ticket_at new) (namer_at old) (namer_at new) → y ≡ less_ticket t.mark x → Serves old new x y
    serves_out keeps hand = record {
      stored = record {
        file = now;
        short = short_as;
        named = named_still old new is.named now short_as shape still keeps;
        numbered = let all = weigh_tokens unchanged old new out nothing change unnumbered in let was = is.numbered in omega arith;
        whole = λ i u there. is.whole i u (still i u there) ∙ ap block_bytes (sym shape);
        counted =
            let all = weigh_tickets unchanged old new out nothing change (λ m. 1) in
            let one = weighs each_ticket in
            let was = is.counted in
            let less = fewer in omega arith;
      };
      shape = shape;
      number = ap (λ (e : TakenNumber). e.number) change.token;
      others = λ others was. subst (λ (h : HandView). AreHeldBeside others new h.tickets h.tokens) (sym hand)
          (ticket_spent new t.mark x.tickets x.tokens (held_ticket old new x.tickets x.tokens was unchanged t out weighs change));
      book = ap (λ (h : HandView). h.book) hand;
    }

  module _ (k : TakenNumber) (same : Same (ticket_at old) (ticket_at new)) (out : Weighing Placed → ℕ) (weighs : WeighsAs (Token k) out) (change : MarksNode unchanged old new out nothing) where
    pub cut_node : cut_to (file_of new) n ≡ cut_to (file_of old) n
    cut_node = cut_same (λ q lt. same q)

    -- its block, where it has one, is whole
    pub node_whole : {files : ℕ} → FileStateLaw files old → ragged (block_bytes old.shape) k ≡ 0
    node_whole law =
        let all = weigh_tokens unchanged old new out nothing change (ragged (block_bytes old.shape)) in
        let one = weighs.2 (of_tokens (ragged (block_bytes old.shape))) in
        let own = ap (ragged (block_bytes old.shape)) weighs.1 in
        let was = law.tokens.whole in omega arith

    pub node_there : {others : Others} → InHand others old x → 0 < times same_entry k x.tokens
    node_there was = token_there new k x.tickets x.tokens (held_token old new x.tickets x.tokens was unchanged k out weighs change)

    pub serves_node : KeepsNamers (ticket_at new) (namer_at old) (namer_at new) → y ≡ less_token k x → Serves old new x y
    serves_node keeps hand = record {
      stored = stored_same old new is now shape kind length same (named_still old new is.named now short_as shape (λ i u there. sym (same i) ∙ there) keeps)
          (let all = weigh_tickets unchanged old new out nothing change (λ m. 1) in let none = weighs.2 each_ticket in omega arith)
          (let all = weigh_tokens unchanged old new out nothing change unnumbered in let was = is.numbered in omega arith);
      shape = shape;
      number = ap (λ (e : TakenNumber). e.number) change.token;
      others = λ others was. subst (λ (h : HandView). AreHeldBeside others new h.tickets h.tokens) (sym hand)
          (token_spent new k x.tickets x.tokens (held_token old new x.tickets x.tokens was unchanged k out weighs change));
      book = ap (λ (h : HandView). h.book) hand;
    }

-- the cut is done
module _ {B L : Type 0} (old new : FileState B L) (x : HandView) (n : ℕ) (is : IsStored old) (now : IsFile new) (shape : new.shape ≡ old.shape)
    (length : new.length ≡ min old.length n) (same : Same (ticket_at old) (ticket_at new)) (below : (w : Weighing Placed) → below_weight new w ≡ below_weight old w)
    (token : new.token ≡ old.token) where
  short_cut : new.length ≤ largest_length new.shape
  short_cut = let s = is.short in let top = ap largest_length shape in omega arith

  pub serves_cut : KeepsNamers (ticket_at new) (namer_at old) (namer_at new) → Serves old new x x
  serves_cut keeps = record {
    stored = record {
      file = now;
      short = short_cut;
      named = named_still old new is.named now short_cut shape (λ i u there. sym (same i) ∙ there) keeps;
      numbered =
          let weight = below (of_tokens unnumbered) in
          let same = ap unnumbered token in
          let was = is.numbered in omega arith;
      whole = λ i u there. is.whole i u (sym (same i) ∙ there) ∙ ap block_bytes (sym shape);
      counted =
          let weight = below each_ticket in
          let was = is.counted in
          let m = ap len (same_map nat_cmp_total nat_cmp-IsAntisymmetric (file_of new).blocks (file_of old).blocks
          (λ q. (shows_file_of new now).blocks q ∙ (ap content_of (same q) ∙ sym ((shows_file_of old is.file).blocks q)))) in
          omega arith;
    };
    shape = shape;
    number = ap (λ (e : TakenNumber). e.number) token;
    others = λ others was. held_same old new x.tickets x.tokens was below token;
    book = refl;
  }

  pub cut_file : Shows new (cut_to (file_of old) n) → file_of new ≡ cut_to (file_of old) n
  cut_file shows = sym (only_file new now (cut_to (file_of old) n) shows)

-- the inode's own block, where it has one, is whole
pub root_whole : {B L : Type 0} {files : ℕ} (f : FileState B L) → FileStateLaw files f → ragged (block_bytes f.shape) f.token ≡ 0
root_whole f law = let all = law.tokens.whole in omega arith
