-- What is in hand once a block was written, and once a node's number was given back or got another block.
use Rattle.std.specs.Prelude.{◌≡◌, ◌≤◌, ℕ, List, ◌∷◌}
use Rattle.geometry.specs.Area.{block_count}
use Rattle.geometry.specs.Mark.{same_mark}
use Rattle.geometry.specs.declared.geometry.Geometry.{Geometry}
use Rattle.geometry.specs.declared.owner.Mark.{Mark}
use Rattle.geometry.specs.declared.owner.Owner.{Owner}
use Rattle.rights_books.specs.Accounts.{HandView}
use Rattle.rights_books.specs.Lists.{without}
use Rattle.rights_books.specs.Rules.{with_lodged}
use Rattle.rights_books.specs.Sameness.{same_entry}
use Rattle.rights_books.specs.declared.claim.TakenNumber.{TakenNumber}
use Rattle.tickets.specs.Placed.{Placed}

-- The ticket of a block that was written: it came into the hand, and has this owner, these bytes and an address of the volume.
pub record HasAppended (geometry : Geometry) (owner : Owner) (bytes : List ℕ) (before after : HandView) (ticket : Placed) : Type 0 where
  pub hand : after ≡ record before { tickets = ticket.mark ∷ before.tickets }
  pub owner_is : ticket.mark.owner ≡ owner
  pub content : ticket.content ≡ bytes
  pub low : 1 ≤ ticket.mark.address
  pub high : ticket.mark.address ≤ block_count geometry

-- A token was given back: the ticket that was lodged with it, where there was one, came out.
abbrev pub having_given : TakenNumber → HandView → HandView
having_given token hand = record hand { tickets = with_lodged token hand.tickets; tokens = without same_entry token hand.tokens }

-- A ticket was lodged with a token, which is another from then on: the ticket before it, where there was one, came out.
abbrev pub having_swapped : TakenNumber → TakenNumber → Mark → HandView → HandView
having_swapped old new mark hand = record hand {
  tickets = with_lodged old (without same_mark mark hand.tickets);
  tokens = new ∷ without same_entry old hand.tokens;
}
