-- A node's block has a ticket exactly where its entry has an address; so that ticket, or none, comes into the hand in
-- front of the others.
use Rattle.std.proofs.Common.{◌≡◌, ◌<◌, ◌==◌, Bool, true, false, List, ◌∷◌, Option, Some, None, if◌then◌else◌, refl, sym, ap, subst, arith}
use Rattle.std.specs.Prelude.{MatchOption}
use Rattle.geometry.specs.declared.owner.Mark.{Mark}
use Rattle.geometry.specs.Mark.{same_mark}
use Rattle.geometry.proofs.MarkTests.{mark_eq, mark_self}
use Rattle.rights_books.specs.declared.claim.TakenNumber.{TakenNumber}
use Rattle.rights_books.specs.Lists.{times}
use Rattle.rights_books.specs.Sameness.{same_entry}
use Rattle.rights_books.proofs.Sameness.{entry_eq, entry_self}
use Rattle.rights_books.specs.Rules.{with_lodged}
use Rattle.rights_books.specs.Weights.{mark_of}
use Rattle.rights_books.proofs.Lists.{times_head}
use Rattle.tickets.specs.Placed.{Placed}
use Rattle.nat.specs.Taken.{placed_of}

-- it is in the hand in front of the others, and no other came
pub handed_first : (e : TakenNumber) (ts : List Mark) (p : Placed) → placed_of e ≡ Some p → with_lodged e ts ≡ p.mark ∷ ts
handed_first e ts p out = go (e.address == 0) out
  where
    go : (b : Bool) → (if b then None else Some (record { mark = mark_of e; content = e.bytes })) ≡ Some p → (if b then ts else mark_of e ∷ ts) ≡ p.mark ∷ ts
    go true never = absurd (cc)
    go false is = let same : ◌≡◌ {A = Placed} (record { mark = mark_of e; content = e.bytes }) p = cc in ap (λ x. x.mark ∷ ts) same

pub none_handed : (e : TakenNumber) (ts : List Mark) → placed_of e ≡ None → with_lodged e ts ≡ ts
none_handed e ts out = go (e.address == 0) out
  where
    go : (b : Bool) → ◌≡◌ {A = Option Placed} (if b then None else Some (record { mark = mark_of e; content = e.bytes })) None → (if b then ts else mark_of e ∷ ts) ≡ ts
    go true is = refl
    go false never = absurd (cc)

pub handed : (e : TakenNumber) (ts : List Mark) (out : Option Placed) → out ≡ placed_of e → MatchOption out (with_lodged e ts ≡ ts) (λ p. with_lodged e ts ≡ p.mark ∷ ts)
handed e ts None is = none_handed e ts (sym is)
handed e ts (Some p) is = handed_first e ts p (sym is)

-- what stands in front in a hand is in it
pub entry_first : (e : TakenNumber) (es held : List TakenNumber) → held ≡ e ∷ es → 0 < times same_entry e held
entry_first e es held is = subst (λ xs. 0 < times same_entry e xs) (sym is) (let h = times_head same_entry entry_eq entry_self e es in omega arith)

pub mark_first : (m : Mark) (ms held : List Mark) → held ≡ m ∷ ms → 0 < times same_mark m held
mark_first m ms held is = subst (λ xs. 0 < times same_mark m xs) (sym is) (let h = times_head same_mark mark_eq mark_self m ms in omega arith)
