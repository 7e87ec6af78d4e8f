-- A segment with a marked block is open or sealed.
use Rattle.std.proofs.Common.{◌≡◌, ◌<◌, None, get_or, if◌then◌else◌, refl, sym, ap, ◌∙◌, inl, inr, arith}
use Rattle.geometry.specs.declared.state.State.{State}
use Rattle.geometry.specs.declared.state.State.TheVariants.{Free, Open, Sealed, Prefree}
use Rattle.geometry.specs.declared.owner.Mark.{Mark}
use Rattle.geometry.specs.Mark.{same_mark}
use Rattle.geometry.specs.Address.{address_of}
use Rattle.geometry.proofs.Weighing.{weigh-at}
use Rattle.rights_books.specs.Accounts.{SegmentView}
use Rattle.rights_books.specs.Lists.{times}
use Rattle.words.specs.declared.claim.Life.{Life}
use Rattle.words.specs.Tokens.{IsPinnable}
use Rattle.sit.specs.Summaries.{one, count_of}
use Rattle.sit.specs.Segment.{Segment, IsFitting}
use Rattle.sit.specs.Registered.{IsRegistered}
use Rattle.sit.proofs.Marks.{found}

module _ (s : Segment) (account : SegmentView) (life : Life) (is : IsRegistered s account life) (m : Mark) (marked : 0 < times same_mark m account.marks) where
  some_valid : 0 < count_of s.summaries
  some_valid =
      let at = found m (address_of s.shape s.number 0) s.summaries (let e = is.marks (λ y. if same_mark m y then 1 else 0) in omega arith) in
      let least = weigh-at one s.summaries at.0 None at.2 in
      let here : one (get_or s.summaries at.0 None) ≡ 1 = ap one at.3 in omega arith

  pub pinnable : IsFitting s.state s.next s.summaries → IsPinnable life.state
  pinnable fitting = go s.state refl fitting
    where
      go : (state : State) → s.state ≡ state → IsFitting state s.next s.summaries → IsPinnable life.state
      go Free e none = let some = some_valid in absurd (omega arith)
      go Open e none = inl (sym is.state ∙ e)
      go Sealed e none = inr (sym is.state ∙ e)
      go Prefree e none = let some = some_valid in absurd (omega arith)
