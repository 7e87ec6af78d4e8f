use Rattle.std.proofs.Common.{length, ap, arith}
use Rattle.geometry.specs.Weights.{weigh}
use Rattle.rights_books.specs.Accounts.{HandView}
use Rattle.rights_books.proofs.Steps.{without_entry}
use Rattle.mount_blocks.proofs.Lodgings.{some_in}
use Rattle.mount_blocks.proofs.tokens_of.lodge_token.Goals as goal

pub returns-then-inode-len-clause-hand : goal.returns-then-inode-len-clause-hand
returns-then-inode-len-clause-hand c = λ h.
    let token = c.args.token.now in
    let long = c.args.accounts.now.ok.0 in
    let count = c.len.ensures in
    let inode = c.inode-inode.ensures in
    let less = ap (λ (v : HandView). weigh h v.tokens) c.lodge_token.ensures.hand in
    let spent = without_entry h token c.args.hand.now.tokens c.requires.held in
    let all = some_in (length c.args.accounts.now.items) token.inode (h token) (omega arith) (omega arith) in
    omega arith
