use Rattle.std.proofs.Common.{◌<◌, length, ap, ◌∙◌, sym, subst, arith}
use Rattle.geometry.specs.Weights.{weigh}
use Rattle.rights_books.specs.Accounts.{HandView}
use Rattle.rights_books.specs.Lists.{times}
use Rattle.rights_books.proofs.Steps.{without_mark}
use Rattle.geometry.specs.Mark.{same_mark}
use Rattle.mount_blocks.proofs.Lodgings.{some_in, none_of_some}
use Rattle.mount_blocks.proofs.tickets_of.lodge_ticket.Goals as goal
use Rattle.mount_blocks.proofs.tickets_of.lodge_ticket.Goals.{then-inode-ne0+then-inode-len, else-inode-ne0, else-inode-ne0-via-then-inode-ne0+else-inode-len, else-inode-ne0-via-else-inode-ne0}

pub returns-clause-hand : goal.returns-clause-hand
returns-clause-hand g c = λ h.
    let m = c.args.ticket.mark in
    let files = length c.args.accounts.now.items in
    let long = c.args.accounts.now.ok.0 in
    elim c.if-inode-ne0.branch [
      | then-inode-ne0+then-inode-len w ↦
          let count = w.len.ensures in
          let claimed = c.into_parts-claimed.ensures.mark in
          let hand = ap (λ (v : HandView). weigh h v.tickets) (w.hand-is ∙ w.lodge.ensures.hand) in
          let held = subst (λ k. 0 < times same_mark k c.args.hand.now.tickets) (sym claimed) c.requires.held in
          let spent = without_mark h c.into_parts-claimed.result.0 c.args.hand.now.tickets held in
          let its = ap h claimed in
          let all = some_in files c.args.inode (h m) (omega arith) (omega arith) in
          omega arith
      | else-inode-ne0 w ↦
          let hand = ap (λ (v : HandView). weigh h v.tickets) w.hand-is in
          elim w.else-inode-ne0.branch [
            | else-inode-ne0-via-then-inode-ne0+else-inode-len v ↦
                let count = v.len.ensures in
                let none = none_of_some files c.args.inode (h m) (λ low high. absurd (omega arith)) in
                omega arith
            | else-inode-ne0-via-else-inode-ne0 v ↦
                let none = none_of_some files c.args.inode (h m) (λ low high. absurd (omega arith)) in
                omega arith
          ]
    ]
