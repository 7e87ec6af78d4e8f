-- A call's change adds to the file's weight what comes in and takes away what goes out; the hand beside it does the
-- same, so what went out of the file is in hand and can be spent.
use Rattle.std.proofs.Common.{◌≡◌, ℕ, ◌+◌, ◌<◌, List, [], ◌∷◌, Some, None, if◌then◌else◌, refl, ap, arith}
use Rattle.geometry.specs.Weights.{weigh}
use Rattle.geometry.specs.declared.owner.Mark.{Mark}
use Rattle.geometry.specs.Mark.{same_mark}
use Rattle.geometry.proofs.MarkTests.{mark_self}
use Rattle.rights_books.specs.declared.claim.TakenNumber.{TakenNumber}
use Rattle.rights_books.specs.Lists.{times, without}
use Rattle.rights_books.specs.Sameness.{same_entry}
use Rattle.rights_books.proofs.Sameness.{entry_self}
use Rattle.rights_books.proofs.Steps.{without_mark, without_entry}
use Rattle.tickets.specs.Placed.{Placed}
use Rattle.nodes.specs.declared.spare.Spare.TheVariants.{Ticket, Token}
use Rattle.nodes.specs.Change.{TreeNode, Weighing, WeighsAs, nothing, ticket_weight, of_tickets, of_tokens}
use Rattle.nodes.proofs.Balance.{balanced_tickets, balanced_tokens}
use Rattle.nodes.specs.declared.file.FileState.{FileState}
use Rattle.nodes.proofs.Changes.{weigh_nothing}
use Rattle.nodes.specs.File.{IsBare, below_weight, weight_of, weight_direct, weight_indirect, weight_double}
use Rattle.nodes.specs.Marks.{MarksNode}
use Rattle.nodes.specs.Held.{Others, no_others, AreHeldBeside}

module _ {B L : Type 0} (resized : TreeNode → TreeNode) (old new : FileState B L) (out into : Weighing Placed → ℕ) (change : MarksNode resized old new out into) where
  pub weigh_tickets : (h : Mark → ℕ)
      → weight_of new (of_tickets (λ t. h t.mark)) + out (of_tickets (λ t. h t.mark)) ≡ weight_of old (of_tickets (λ t. h t.mark)) + into (of_tickets (λ t. h t.mark))
  weigh_tickets h =
      let all = balanced_tickets change.own (below_weight old) (below_weight new) out into change.trades (λ (t : Placed). h t.mark) in
      omega arith

  pub weigh_tokens : (h : TakenNumber → ℕ) → weight_of new (of_tokens h) + out (of_tokens h) ≡ weight_of old (of_tokens h) + into (of_tokens h)
  weigh_tokens h =
      let all = balanced_tokens change.own (below_weight old) (below_weight new) out into change.trades h in
      let same = ap h change.token in
      omega arith

-- a ticket is in hand beside the file's
pub record HasTicket {B L : Type 0} (others : Others) (f : FileState B L) (m : Mark) (marks : List Mark) (entries : List TakenNumber) : Type 0 where
  pub tickets : (h : Mark → ℕ) → weigh h marks ≡ weight_of f (of_tickets (λ t. h t.mark)) + others.tickets h + h m
  pub tokens : (h : TakenNumber → ℕ) → weigh h entries ≡ weight_of f (of_tokens h) + others.tokens h

-- a token is
pub record HasToken {B L : Type 0} (others : Others) (f : FileState B L) (k : TakenNumber) (marks : List Mark) (entries : List TakenNumber) : Type 0 where
  pub tickets : (h : Mark → ℕ) → weigh h marks ≡ weight_of f (of_tickets (λ t. h t.mark)) + others.tickets h
  pub tokens : (h : TakenNumber → ℕ) → weigh h entries ≡ weight_of f (of_tokens h) + others.tokens h + h k

module _ {B L : Type 0} {others : Others} (f : FileState B L) (m : Mark) (marks : List Mark) (entries : List TakenNumber) (has : HasTicket others f m marks entries) where
  pub ticket_there : 0 < times same_mark m marks
  ticket_there =
      let all = has.tickets (λ y. if same_mark m y then 1 else 0) in
      let one : ◌≡◌ {A = ℕ} (if same_mark m m then 1 else 0) 1 = ap (λ b. if b then 1 else 0) (mark_self m) in
      omega arith

  pub ticket_spent : AreHeldBeside others f (without same_mark m marks) entries
  ticket_spent = record {
    tickets = λ h. (let all = has.tickets h in let less = without_mark h m marks ticket_there in omega arith);
    tokens = has.tokens;
  }

module _ {B L : Type 0} {others : Others} (f : FileState B L) (k : TakenNumber) (marks : List Mark) (entries : List TakenNumber) (has : HasToken others f k marks entries) where
  pub token_there : 0 < times same_entry k entries
  token_there =
      let all = has.tokens (λ y. if same_entry k y then 1 else 0) in
      let one : ◌≡◌ {A = ℕ} (if same_entry k k then 1 else 0) 1 = ap (λ b. if b then 1 else 0) (entry_self k) in
      omega arith

  pub token_spent : AreHeldBeside others f marks (without same_entry k entries)
  token_spent = record {
    tickets = has.tickets;
    tokens = λ h. (let all = has.tokens h in let less = without_entry h k entries token_there in omega arith);
  }

module _ {B L : Type 0} {others : Others} (old new : FileState B L) (marks : List Mark) (entries : List TakenNumber) (held : AreHeldBeside others old marks entries) where
  pub held_put : (resized : TreeNode → TreeNode) (t : Placed) → MarksNode resized old new (λ w. ticket_weight w None) (λ w. w.ticket t) → AreHeldBeside others new (t.mark ∷ marks) entries
  held_put resized t change = record {
    tickets = λ h. (let all = weigh_tickets resized old new (λ w. ticket_weight w None) (λ w. w.ticket t) change h in let was = held.tickets h in omega arith);
    tokens = λ h. (let all = weigh_tokens resized old new (λ w. ticket_weight w None) (λ w. w.ticket t) change h in let was = held.tokens h in omega arith);
  }

  pub held_over : (resized : TreeNode → TreeNode) (t b : Placed) → MarksNode resized old new (λ w. ticket_weight w (Some b)) (λ w. w.ticket t) → HasTicket others new b.mark (t.mark ∷ marks) entries
  held_over resized t b change = record {
    tickets = λ h. (let all = weigh_tickets resized old new (λ w. ticket_weight w (Some b)) (λ w. w.ticket t) change h in let was = held.tickets h in omega arith);
    tokens = λ h. (let all = weigh_tokens resized old new (λ w. ticket_weight w (Some b)) (λ w. w.ticket t) change h in let was = held.tokens h in omega arith);
  }

  pub held_ticket : (resized : TreeNode → TreeNode) (t : Placed) (out : Weighing Placed → ℕ) → WeighsAs (Ticket t) out → MarksNode resized old new out nothing → HasTicket others new t.mark marks entries
  held_ticket resized t out is change = record {
    tickets = λ h. (let all = weigh_tickets resized old new out nothing change h in let was = held.tickets h in let one = is (of_tickets (λ t. h t.mark)) in omega arith);
    tokens = λ h. (let all = weigh_tokens resized old new out nothing change h in let was = held.tokens h in let one = is (of_tokens h) in omega arith);
  }

  pub held_token : (resized : TreeNode → TreeNode) (k : TakenNumber) (out : Weighing Placed → ℕ) → WeighsAs (Token k) out → MarksNode resized old new out nothing → HasToken others new k marks entries
  held_token resized k out is change = record {
    tickets = λ h. (let all = weigh_tickets resized old new out nothing change h in let was = held.tickets h in let one = is.2 (of_tickets (λ t. h t.mark)) in omega arith);
    tokens = λ h. (let all = weigh_tokens resized old new out nothing change h in let was = held.tokens h in let one = is.2 (of_tokens h) in let same = ap h is.1 in omega arith);
  }

  pub held_same : ((w : Weighing Placed) → below_weight new w ≡ below_weight old w) → new.token ≡ old.token → AreHeldBeside others new marks entries
  held_same below token = record {
    tickets = λ h. (let was = held.tickets h in let same = below (of_tickets (λ t. h t.mark)) in omega arith);
    tokens = λ h. (let was = held.tokens h in let same = below (of_tokens h) in let root = ap h token in omega arith);
  }

-- an inode that names nothing
module _ {B L : Type 0} (f : FileState B L) (bare : IsBare f) where
  pub bare_weighs : (w : Weighing Placed) → below_weight f w ≡ 0
  bare_weighs w =
      let a = weigh_nothing (ticket_weight w) refl f.tickets.slots.items bare.tickets in
      let b = weigh_nothing (weight_direct w) refl f.direct.slots.items bare.direct in
      let c = weigh_nothing (weight_indirect w) refl f.indirect.slots.items bare.indirect in
      let d = weigh_nothing (weight_double w) refl f.double.slots.items bare.double in
      omega arith

  pub held_new : (k : TakenNumber) → f.token ≡ k → AreHeldBeside no_others f [] (k ∷ [])
  held_new k is = record {
    tickets = λ h. (let none = bare_weighs (of_tickets (λ t. h t.mark)) in omega arith);
    tokens = λ h. (let none = bare_weighs (of_tokens h) in let same = ap h is in omega arith);
  }

  pub root_there : {others : Others} (marks : List Mark) (entries : List TakenNumber) → AreHeldBeside others f marks entries → 0 < times same_entry f.token entries
  root_there marks entries held =
      let all = held.tokens (λ y. if same_entry f.token y then 1 else 0) in
      let one : ◌≡◌ {A = ℕ} (if same_entry f.token f.token then 1 else 0) 1 = ap (λ b. if b then 1 else 0) (entry_self f.token) in
      omega arith
