-- The hand has the tokens of the file, of the spare nodes and of others: a spare that is made, planted or given back
-- moves between these sums, and the whole follows the hand.
use Rattle.std.proofs.Common.{◌≡◌, ℕ, ◌+◌, ◌<◌, ◌≤◌, List, ◌∷◌, if◌then◌else◌, ap, arith}
use Rattle.geometry.specs.Weights.{weigh}
use Rattle.geometry.specs.declared.owner.Mark.{Mark}
use Rattle.rights_books.specs.declared.claim.TakenNumber.{TakenNumber}
use Rattle.rights_books.specs.Lists.{times, without}
use Rattle.rights_books.specs.Sameness.{same_entry}
use Rattle.rights_books.proofs.Sameness.{entry_self}
use Rattle.rights_books.proofs.Steps.{without_entry}
use Rattle.nodes.specs.Change.{TreeNode, nothing}
use Rattle.nodes.specs.declared.file.FileState.{FileState}
use Rattle.nodes.specs.declared.spare_path.SparePath.{SparePath}
use Rattle.nodes.specs.Marks.{MarksNode, unchanged}
use Rattle.nodes.specs.Lacking.{spare_tokens}
use Rattle.nodes.specs.Held.{Others, with_spares, AreHeldBeside}
use Rattle.nodes.proofs.Held.{weigh_tickets, weigh_tokens}

-- the token of a spare node is in hand
pub spare_there : {B L : Type 0} (s t : SparePath B L) (k : TakenNumber) (entries : List TakenNumber) → ((h : TakenNumber → ℕ) → spare_tokens h s ≤ weigh h entries)
    → ((h : TakenNumber → ℕ) → spare_tokens h t + h k ≡ spare_tokens h s) → 0 < times same_entry k entries
spare_there s t k entries held one =
    let all = held (λ y. if same_entry k y then 1 else 0) in
    let less = one (λ y. if same_entry k y then 1 else 0) in
    let here : ◌≡◌ {A = ℕ} (if same_entry k k then 1 else 0) 1 = ap (λ b. if b then 1 else 0) (entry_self k) in
    omega arith

module _ {B L : Type 0} (others : Others) (f : FileState B L) (s : SparePath B L) (marks : List Mark) (entries : List TakenNumber) where
  pub held_none : ((h : TakenNumber → ℕ) → spare_tokens h s ≡ 0) → AreHeldBeside others f marks entries → AreHeldBeside (with_spares s others) f marks entries
  held_none none held = record { tickets = held.tickets; tokens = λ h. (let all = held.tokens h in let no = none h in omega arith) }

  module _ (held : AreHeldBeside (with_spares s others) f marks entries) where
    pub held_all : (h : TakenNumber → ℕ) → spare_tokens h s ≤ weigh h entries
    held_all h = let all = held.tokens h in omega arith

    pub none_held : ((h : TakenNumber → ℕ) → spare_tokens h s ≡ 0) → AreHeldBeside others f marks entries
    none_held none = record { tickets = held.tickets; tokens = λ h. (let all = held.tokens h in let no = none h in omega arith) }

    pub held_made : (t : SparePath B L) (k : TakenNumber) → ((h : TakenNumber → ℕ) → spare_tokens h t ≡ spare_tokens h s + h k) → AreHeldBeside (with_spares t others) f marks (k ∷ entries)
    held_made t k tokens = record { tickets = held.tickets; tokens = λ h. (let all = held.tokens h in let more = tokens h in omega arith) }

    pub held_given : (t : SparePath B L) (k : TakenNumber) → ((h : TakenNumber → ℕ) → spare_tokens h t + h k ≡ spare_tokens h s)
        → AreHeldBeside (with_spares t others) f marks (without same_entry k entries)
    held_given t k tokens = record {
      tickets = held.tickets;
      tokens = λ h. (let all = held.tokens h in let more = tokens h in let less = without_entry h k entries (spare_there s t k entries held_all tokens) in omega arith);
    }

    pub held_planted : (g : FileState B L) (t : SparePath B L) (n : TreeNode) → MarksNode unchanged f g nothing (λ w. w.node n)
        → ((h : TakenNumber → ℕ) → spare_tokens h t + h n.token ≡ spare_tokens h s) → AreHeldBeside (with_spares t others) g marks entries
    held_planted g t n change tokens = record {
      tickets = λ h. (let all = weigh_tickets unchanged f g nothing (λ w. w.node n) change h in let was = held.tickets h in omega arith);
      tokens = λ h. (let all = weigh_tokens unchanged f g nothing (λ w. w.node n) change h in let was = held.tokens h in let more = tokens h in omega arith);
    }
