-- Account and file weigh the same before and after: so where one ticket or token of the file was moved, that one was
-- moved in the account too.
use Rattle.std.proofs.Common.{◌≡◌, ℕ, ap, arith}
use Rattle.geometry.specs.declared.owner.Mark.{Mark}
use Rattle.geometry.specs.declared.owner.Owner.{Owner}
use Rattle.geometry.specs.declared.owner.Owner.TheVariants.{Data, Node}
use Rattle.rights_books.specs.Accounts.{FileView}
use Rattle.nodes.specs.Change.{of_tickets, of_tokens}
use Rattle.nodes.specs.declared.file.FileState.{FileState}
use Rattle.nodes.specs.Held.{AreHeld}
use Rattle.cleaning.specs.Moves.{HasMoved, KeepsWeights}
use Rattle.file_cells.specs.Moved.{HasMovedLodged, KeepsLodged}

module _ {B L : Type 0} (f g : FileState B L) (a b : FileView) (was : AreHeld f a.tickets a.tokens) (now : AreHeld g b.tickets b.tokens) where
  pub moved_lodged : (address : ℕ) (owner : Owner) → HasMoved address owner f g → HasMovedLodged address owner a b
  moved_lodged address (Data nid slot) (index, before, after, moves) =
      let mark : Mark = record { address = address; owner = Data nid slot } in (
        after.mark,
        record {
          other = moves.elsewhere.other;
          owner = moves.elsewhere.owner;
          tickets = λ h.
              (let all = moves.tickets h in
              let is : h before.mark ≡ h mark = ap h moves.elsewhere.was in
              let old = was.tickets h in
              let new = now.tickets h in
              omega arith);
        },
      )
  moved_lodged address (Node nid) (n, token, moves) = (
    n.token,
    token,
    record {
      number = moves.number;
      elsewhere = moves.elsewhere;
      tokens = λ h.
          (let all = moves.one.trades (of_tokens h) in
          let old = was.tokens h in
          let new = now.tokens h in
          omega arith);
    },
  )

  pub keeps_lodged : KeepsWeights f g → KeepsLodged a b
  keeps_lodged same = record {
    tickets = λ h. (let all = same (of_tickets (λ t. h t.mark)) in let old = was.tickets h in let new = now.tickets h in omega arith);
    tokens = λ h. (let all = same (of_tokens h) in let old = was.tokens h in let new = now.tokens h in omega arith);
  }
