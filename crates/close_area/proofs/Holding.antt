-- A token that left the hand had its block come home with the bytes that it shows: so blocks that hold what is in hand
-- now hold what was in hand before.
use Rattle.std.proofs.Common.{◌≡◌, ◌≢◌, ℕ, ◌+◌, ◌<◌, ◌==◌, List, [], ◌∷◌, Option, Some, None, Bool, true, false, if◌then◌else◌, refl, sym, ap, subst, ◌∙◌, eqb-true, ⊎_elim, inl, inr, arith}
use Rattle.std.proofs.lemmas.Bool.{cases_eq}
use Rattle.atomic_table.specs.Seated.{TableId}
use Rattle.geometry.specs.Weights.{weigh}
use Rattle.rights_books.specs.declared.claim.TakenNumber.{TakenNumber}
use Rattle.rights_books.specs.Lists.{times, without}
use Rattle.rights_books.specs.Sameness.{same_entry}
use Rattle.rights_books.specs.Weights.{mark_of}
use Rattle.rights_books.specs.Accounts.{HandView}
use Rattle.rights_books.proofs.Sameness.{entry_eq}
use Rattle.rights_books.proofs.Steps.{without_entry}
use Rattle.checkpoint.specs.Files.{HoldContents}
use Rattle.nat.specs.Taken.{placed_of}
use Rattle.tickets.specs.Placed.{Placed}
use Rattle.nodes.specs.Tree.{SetsAt, Same, EmptyFrom}
use Rattle.nodes.specs.Change.{of_tickets, of_tokens}
use Rattle.nodes.specs.declared.file.FileState.{FileState}
use Rattle.nodes.specs.File.{IsBare, ticket_at}
use Rattle.nodes.specs.Held.{AreHeldBeside, no_others}
use Rattle.nodes.proofs.Held.{bare_weighs, root_there}
use Rattle.nodes_law.specs.Contents.{InHand}
use Rattle.rights_permits.specs.Turns.{at_home}
use Rattle.close_area.specs.HeldTokens.{HoldTokens}

one : TakenNumber → TakenNumber → ℕ
one e y = if same_entry e y then 1 else 0

-- it is this entry, or it is among the others
found_in : (e k : TakenNumber) (n : ℕ) (P : Type 0) → 0 < (if same_entry e k then 1 else 0) + n → (e ≡ k → P) → (0 < n → P) → P
found_in e k n P some here there = go (same_entry e k) refl some
  where
    go : (b : Bool) → same_entry e k ≡ b → 0 < (if b then 1 else 0) + n → P
    go true is found = here (entry_eq e k is)
    go false is found = let some : 0 < 0 + n = found in there (omega arith)

module _ (bytes : ℕ → List ℕ) where
  -- a token went, whose block came home
  pub hold_less : (k : TakenNumber) (ks : List TakenNumber) → 0 < times same_entry k ks → (0 < k.address → bytes k.address ≡ k.bytes) → HoldTokens bytes (without same_entry k ks) → HoldTokens bytes ks
  hold_less k ks there here rest e found some =
      let less = without_entry (λ y. if same_entry e y then 1 else 0) k ks there in
      found_in e k (times same_entry e (without same_entry k ks)) (bytes e.address ≡ e.bytes) (omega arith)
      (λ is. subst (λ (x : TakenNumber). bytes x.address ≡ x.bytes) (sym is) (here (subst (λ (x : TakenNumber). 0 < x.address) is some)))
      (λ other. rest e other some)

  -- the token of a file that names nothing is alone in hand
  pub hold_last : {B L : Type 0} (f : FileState B L) → IsBare f → (hand : HandView) → InHand no_others f hand → (0 < f.token.address → bytes f.token.address ≡ f.token.bytes) → HoldTokens bytes hand.tokens
  hold_last f bare hand held here e found some =
      let all = held.tokens (λ y. if same_entry e y then 1 else 0) in
      let none = bare_weighs f bare (of_tokens (λ y. if same_entry e y then 1 else 0)) in
      found_in e f.token 0 (bytes e.address ≡ e.bytes) (omega arith)
      (λ is. subst (λ (x : TakenNumber). bytes x.address ≡ x.bytes) (sym is) (here (subst (λ (x : TakenNumber). 0 < x.address) is some)))
      (λ other. absurd (omega arith))

  -- the block of a node that has one comes home with the bytes that its token shows
  pub hold_node : (k : TakenNumber) (t : Placed) → placed_of k ≡ Some t → bytes t.mark.address ≡ t.content → 0 < k.address → bytes k.address ≡ k.bytes
  hold_node k t is here some = go (k.address == 0) is
    where
      address_in : Option Placed → ℕ
      address_in None = 0
      address_in (Some p) = p.mark.address

      content_in : Option Placed → List ℕ
      content_in None = []
      content_in (Some p) = p.content

      go : (b : Bool) → ◌≡◌ {A = Option Placed} (if b then None else Some (record { mark = mark_of k; content = k.bytes })) (Some t) → bytes k.address ≡ k.bytes
      go true e = absurd (cc)
      go false e = ap bytes (ap address_in e) ∙ (here ∙ sym (ap content_in e))

  pub hold_no_node : (k : TakenNumber) → placed_of k ≡ None → 0 < k.address → bytes k.address ≡ k.bytes
  hold_no_node k none some = go (k.address == 0) refl none
    where
      go : (b : Bool) → (k.address == 0) ≡ b → ◌≡◌ {A = Option Placed} (if b then None else Some (record { mark = mark_of k; content = k.bytes })) None → bytes k.address ≡ k.bytes
      go true is e = (let zero_is = eqb-true k.address 0 is in absurd (omega arith))
      go false is e = absurd (cc)

  pub same_tokens : (now old : List TakenNumber) → now ≡ old → HoldTokens bytes now → HoldTokens bytes old
  same_tokens now old is held = subst (HoldTokens bytes) is held

  pub fewer_tokens : (y x : HandView) (k : TakenNumber) → y ≡ record x { tokens = without same_entry k x.tokens } → HoldTokens bytes y.tokens → HoldTokens bytes (without same_entry k x.tokens)
  fewer_tokens y x k is held = subst (λ (h : HandView). HoldTokens bytes h.tokens) is held

  module _ {B L : Type 0} (old new : FileState B L) where
    -- a ticket went from an index, whose block came home
    pub hold_more : (i : ℕ) (t : Placed) → ticket_at old i ≡ Some t → SetsAt (ticket_at old) (ticket_at new) i None → (0 < t.mark.address) × (bytes t.mark.address ≡ t.content) → HoldContents bytes new → HoldContents bytes old
    hold_more i t was sets here hold j u there = elim (cases_eq j i) [
      | inl e ↦ let same : t ≡ u = cc in subst (λ (p : Placed). (0 < p.mark.address) × (bytes p.mark.address ≡ p.content)) same here
      | inr ne ↦ hold j u (sets.1 j ne ∙ there)
    ]

    pub hold_same : Same (ticket_at old) (ticket_at new) → HoldContents bytes new → HoldContents bytes old
    hold_same same hold j u there = hold j u (same j ∙ there)

    pub hold_none : Same (ticket_at old) (ticket_at new) → EmptyFrom (ticket_at new) 0 → HoldContents bytes old
    hold_none same none j u there = (let no = sym (none j (omega arith)) ∙ (same j ∙ there) in absurd (cc))

-- nothing is in hand once the token of a file that names nothing is given back
no_weight : {A : Type 0} (xs : List A) → weigh (λ x. 1) xs ≡ 0 → xs ≡ []
no_weight [] none = refl
no_weight (x ∷ xs) none = absurd (omega arith)

pub empty_hand : {B L : Type 0} (book : TableId) (f : FileState B L) → IsBare f → (old : HandView) → InHand no_others f old → (new : HandView)
    → new ≡ record old { tokens = without same_entry f.token old.tokens } → old.book ≡ book → new ≡ at_home book
empty_hand book f bare old held new gone same =
    let tickets = held.tickets (λ m. 1) in
    let none = bare_weighs f bare (of_tickets (λ t. 1)) in
    let tokens = held.tokens (λ e. 1) in
    let no_nodes = bare_weighs f bare (of_tokens (λ e. 1)) in
    let less = without_entry (λ e. 1) f.token old.tokens (root_there f bare old.tickets old.tokens held) in
    let no_tickets : weigh (λ m. 1) old.tickets ≡ 0 = omega arith in
    let no_tokens : weigh (λ e. 1) (without same_entry f.token old.tokens) ≡ 0 = omega arith in
    gone ∙ (λ i. record { book = same i; tickets = no_weight old.tickets no_tickets i; tokens = no_weight (without same_entry f.token old.tokens) no_tokens i })
