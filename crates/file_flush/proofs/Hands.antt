-- The new block's ticket comes into the hand and goes into the token, and the old block's comes out of it and is given
-- back: so in the hand one token is exchanged for another, and no more.
use Rattle.std.proofs.Common.{◌≡◌, ℕ, ◌+◌, ◌<◌, ◌==◌, Bool, true, false, if◌then◌else◌, List, ◌∷◌, get_or, Option, Some, None, refl, ap, ◌∙◌, arith}
use Rattle.std.specs.Prelude.{All}
use Rattle.std.proofs.lemmas.List.{get_or_default}
use Rattle.geometry.specs.Weights.{weigh}
use Rattle.geometry.specs.declared.owner.Mark.{Mark}
use Rattle.geometry.specs.Mark.{same_mark}
use Rattle.rights_books.specs.declared.claim.TakenNumber.{TakenNumber}
use Rattle.rights_books.specs.Accounts.{HandView}
use Rattle.rights_books.specs.Lists.{times, without}
use Rattle.rights_books.specs.Rules.{with_lodged}
use Rattle.rights_books.specs.Weights.{mark_of}
use Rattle.rights_books.specs.Sameness.{same_entry}
use Rattle.rights_books.proofs.Steps.{without_entry, without_mark_first}
use Rattle.nat.specs.Taken.{placed_of}
use Rattle.tickets.specs.Placed.{Placed}
use Rattle.file_flush.specs.Written.{HasSwapped}

pub all_below : (bound : ℕ) (xs : List ℕ) → ((k : ℕ) → get_or xs k 0 < bound) → All (λ a. a < bound) xs
all_below bound xs each k d low = let one = each k in let same = get_or_default xs k d 0 low in omega arith

abbrev none_placed : Option Placed
none_placed = None

-- the ticket of the block before it goes back
went : (b : Bool) (e : TakenNumber) (ts : List Mark) (before : Placed) → Some before ≡ (if b then None else Some (record { mark = mark_of e; content = e.bytes }))
    → without same_mark before.mark (if b then ts else mark_of e ∷ ts) ≡ ts
went true e ts before is = absurd (cc)
went false e ts before is =
    let one : before ≡ record { mark = mark_of e; content = e.bytes } = cc in
    ap (λ (p : Placed). without same_mark p.mark (mark_of e ∷ ts)) one ∙ without_mark_first (mark_of e) ts

none_went : (b : Bool) (e : TakenNumber) (ts : List Mark) → none_placed ≡ (if b then None else Some (record { mark = mark_of e; content = e.bytes }))
    → (if b then ts else mark_of e ∷ ts) ≡ ts
none_went true e ts is = refl
none_went false e ts is = absurd (cc)

module _ (start one two : HandView) (m : Mark) (old new : TakenNumber) (there : 0 < times same_entry old start.tokens)
    (appended : one ≡ record start { tickets = m ∷ start.tickets })
    (swapped : two ≡ record one { tickets = with_lodged old (without same_mark m one.tickets); tokens = new ∷ without same_entry old one.tokens }) where
  lodged : two.tickets ≡ with_lodged old start.tickets
  lodged =
      ap (λ (h : HandView). h.tickets) swapped
      ∙ (ap (λ (h : HandView). with_lodged old (without same_mark m h.tickets)) appended ∙ ap (with_lodged old) (without_mark_first m start.tickets))

  exchanged : (h : TakenNumber → ℕ) → weigh h two.tokens + h old ≡ weigh h start.tokens + h new
  exchanged h =
      let all : weigh h two.tokens ≡ h new + weigh h (without same_entry old start.tokens)
      = ap (λ (k : HandView). weigh h k.tokens) swapped ∙ ap (λ (k : HandView). h new + weigh h (without same_entry old k.tokens)) appended in
      let less = without_entry h old start.tokens there in
      omega arith

  book_still : two.book ≡ start.book
  book_still = ap (λ (h : HandView). h.book) swapped ∙ ap (λ (h : HandView). h.book) appended

  pub swapped_first : none_placed ≡ placed_of old → HasSwapped start two old new
  swapped_first none = record {
    book = book_still;
    tickets = λ h. ap (weigh h) (lodged ∙ none_went (old.address == 0) old start.tickets none);
    tokens = exchanged;
  }

  pub swapped_again : (three : HandView) (before : Placed) → Some before ≡ placed_of old
      → three ≡ record two { tickets = without same_mark before.mark two.tickets } → HasSwapped start three old new
  swapped_again three before some released = record {
    book = ap (λ (h : HandView). h.book) released ∙ book_still;
    tickets = λ h. ap (weigh h) (ap (λ (k : HandView). k.tickets) released ∙ (ap (without same_mark before.mark) lodged ∙ went (old.address == 0) old start.tickets before some));
    tokens = λ h. (let all = exchanged h in let same = ap (λ (k : HandView). weigh h k.tokens) released in omega arith);
  }
