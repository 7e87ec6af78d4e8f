-- A new file: it is stored, and its inode's token is all that it has in hand.
use Rattle.std.proofs.Common.{◌≡◌, ◌<◌, ◌∷◌, [], Some, ap, ◌∙◌, arith}
use Rattle.std.specs.FinMap.{len, len-empty}
use Rattle.std.specs.Ordering.{nat_cmp}
use Rattle.geometry.specs.File.{Block}
use Rattle.rights_books.specs.declared.claim.TakenNumber.{TakenNumber}
use Rattle.nodes.specs.Change.{of_tickets, of_tokens, unnumbered}
use Rattle.nodes.specs.declared.file.FileState.{FileState}
use Rattle.nodes.specs.File.{IsFile, IsBare, ticket_at, blocks_below}
use Rattle.nodes.specs.Held.{no_others}
use Rattle.nodes.proofs.Held.{bare_weighs, held_new}
use Rattle.rights_books.specs.Accounts.{HandView}
use Rattle.nodes_law.specs.Contents.{IsStored, InHand}
use Rattle.nodes_law.proofs.Serving.{has_number}

module _ {B L : Type 0} (f : FileState B L) (k : TakenNumber) (token : f.token ≡ k) (bare : IsBare f) where
  pub stored_new : IsFile f → f.length ≡ 0 → 0 < k.number → IsStored f
  stored_new is none number = record {
    file = is;
    short = omega arith;
    numbered =
        let below = bare_weighs f bare (of_tokens unnumbered) in
        let here = ap unnumbered token in
        let some = has_number k number in omega arith;
    named = λ i t at. absurd (let nothing = is.within i (omega arith) in let there : ticket_at f i ≡ Some t = at in cc);
    whole = λ i t at. absurd (let nothing = is.within i (omega arith) in let there : ticket_at f i ≡ Some t = at in cc);
    counted =
        let below = bare_weighs f bare (of_tickets (λ t. 1)) in
        let empty = ap (λ n. len (blocks_below n (ticket_at f))) none ∙ len-empty nat_cmp Block in omega arith;
  }

  pub in_hand_new : (hand : HandView) → hand.tickets ≡ [] → hand.tokens ≡ k ∷ [] → InHand no_others f hand
  in_hand_new hand tickets tokens = rw (tickets, tokens) (held_new f bare k token)
