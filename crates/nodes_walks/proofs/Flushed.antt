-- Writing a node trades its token for one more recent, in the file as in the hand, and takes one mark off: so what was
-- held is held, and one node less is to be written.
use Rattle.std.proofs.Common.{◌≡◌, ℕ, ◌+◌, ◌<◌, List, ◌∷◌, if◌then◌else◌, ap, arith}
use Rattle.geometry.specs.declared.owner.Mark.{Mark}
use Rattle.rights_books.specs.declared.claim.TakenNumber.{TakenNumber}
use Rattle.rights_books.specs.Lists.{times, without}
use Rattle.rights_books.specs.Sameness.{same_entry}
use Rattle.rights_books.proofs.Sameness.{entry_self}
use Rattle.rights_books.proofs.Steps.{without_entry}
use Rattle.nodes.specs.Change.{TreeNode, Weighing, of_tickets, of_tokens, each_marked}
use Rattle.nodes_walks.specs.Writing.{IsAmong, WritesOne}
use Rattle.nodes.specs.declared.file.FileState.{FileState}
use Rattle.nodes.specs.File.{weight_of}
use Rattle.nodes.specs.Held.{Others, AreHeldBeside}

-- the token of each node of the file is in hand
pub node_there : {B L : Type 0} {others : Others} (f : FileState B L) (marks : List Mark) (entries : List TakenNumber) → AreHeldBeside others f marks entries
    → (n : TreeNode) → IsAmong (weight_of f) n → 0 < times same_entry n.token entries
node_there f marks entries held n among =
    let all = held.tokens (λ y. if same_entry n.token y then 1 else 0) in
    let one : ◌≡◌ {A = ℕ} (if same_entry n.token n.token then 1 else 0) 1 = ap (λ b. if b then 1 else 0) (entry_self n.token) in
    let some = among (of_tokens (λ y. if same_entry n.token y then 1 else 0)) in
    omega arith

module _ {B L : Type 0} {others : Others} (old new : FileState B L) (marks : List Mark) (entries : List TakenNumber) (held : AreHeldBeside others old marks entries)
    (n : TreeNode) (k : TakenNumber) (one : WritesOne (weight_of old) (weight_of new) n k) where
  -- a node was written, and its token stands for another block
  pub held_moved : AreHeldBeside others new marks (k ∷ without same_entry n.token entries)
  held_moved = record {
    tickets = λ h. (let all = one.trades (of_tickets (λ t. h t.mark)) in let was = held.tickets h in omega arith);
    tokens = λ h. (let all = one.trades (of_tokens h) in let was = held.tokens h in
        let less = without_entry h n.token entries (node_there old marks entries held n one.among) in omega arith);
  }

  -- a node was written where its block was
  pub held_written : k ≡ n.token → AreHeldBeside others new marks entries
  held_written is = record {
    tickets = λ h. (let all = one.trades (of_tickets (λ t. h t.mark)) in let was = held.tickets h in omega arith);
    tokens = λ h. (let all = one.trades (of_tokens h) in let was = held.tokens h in let same = ap h is in omega arith);
  }

-- each node that is written is one less to write
pub fewer_marked : {L : Type 0} (old new : Weighing L → ℕ) (n : TreeNode) (k : TakenNumber) → WritesOne old new n k → new each_marked + 1 ≡ old each_marked
fewer_marked {L} old new n k one =
    let all = one.trades each_marked in
    let marked : ◌≡◌ {A = ℕ} (if n.dirty then 1 else 0) 1 = ap (λ b. if b then 1 else 0) one.marked in
    omega arith
