-- The account has the marks of the valid blocks, and the standing tells the state: a call changes a block and its mark,
-- the state and the life together, so they stay in step.
use Rattle.std.proofs.Common.{◌≡◌, ℕ, ◌+◌, ◌<◌, List, [], ◌∷◌, Option, Some, None, IsSome, length, get_or, set, refl, sym, ap, ◌∙◌, inl, inr, if◌then◌else◌, arith}
use Rattle.std.specs.Prelude.{is_some}
use Rattle.geometry.specs.declared.state.State.{State}
use Rattle.geometry.specs.declared.state.State.TheVariants.{Free, Open, Sealed, Prefree}
use Rattle.geometry.specs.declared.owner.Owner.{Owner}
use Rattle.geometry.specs.declared.owner.Mark.{Mark}
use Rattle.geometry.specs.Mark.{same_mark}
use Rattle.geometry.specs.Shape.{segment_blocks}
use Rattle.geometry.specs.Address.{address_of, segment_of, offset_of}
use Rattle.geometry.proofs.Addresses.{address_of-parts}
use Rattle.geometry.specs.Weights.{weigh, SameItems}
use Rattle.rights_books.specs.Accounts.{SegmentView}
use Rattle.rights_books.specs.Lists.{times, without}
use Rattle.rights_books.proofs.Steps.{without_mark}
use Rattle.words.specs.Tokens.{Post, IsSealed}
use Rattle.sit.specs.declared.segment.Released.{Released}
use Rattle.sit.specs.declared.segment.Released.TheVariants.{Kept, Retired}
use Rattle.sit.specs.Summaries.{marks_from}
use Rattle.sit.specs.Segment.{Segment, marks_of, placed, threaded, cleared, fresh, HasPlaced, IsStateAt}
use Rattle.sit.specs.Released.{HasReleased}
use Rattle.words.specs.Claims.{fresh_life}
use Rattle.words.specs.declared.claim.Life.{Life}
use Rattle.atomic_table.specs.Seated.{TableId}
use Rattle.geometry.specs.declared.shape.Shape.{Shape}
use Rattle.sit.specs.Registered.{IsRegistered, HasLivedOn, HasStood}
use Rattle.sit.proofs.Marks.{found, marks_set, marks_cleared, none_from}

-- where a mark of the segment's account is, its block is valid and named by the mark's owner
module _ (s : Segment) (account : SegmentView) (m : Mark) (marks : SameItems account.marks (marks_of s)) (held : 0 < times same_mark m account.marks) where
  abbrev pub first : ℕ
  first = address_of s.shape s.number 0

  at : (o : ℕ) × (m.address ≡ first + o) × (o < length s.summaries) × (get_or s.summaries o None ≡ Some m.owner)
  at = found m first s.summaries (let e = marks (λ y. if same_mark m y then 1 else 0) in omega arith)

  pub held_positive : 0 < m.address
  held_positive = let e = at.1 in omega arith

  module _ (home : segment_of s.shape m.address ≡ s.number) where
    held_offset : at.0 ≡ offset_of s.shape m.address
    held_offset =
        let parts = address_of-parts s.shape m.address held_positive in
        let here = ap (λ n. address_of s.shape n (offset_of s.shape m.address)) home in
        let e = at.1 in omega arith

    pub held_valid : get_or s.summaries (offset_of s.shape m.address) None ≡ Some m.owner
    held_valid = ap (λ o. get_or s.summaries o None) (sym held_offset) ∙ at.3

    pub held_within : offset_of s.shape m.address < length s.summaries
    held_within = let e = held_offset in let l = at.2 in omega arith

    pub held_at : m.address ≡ first + offset_of s.shape m.address
    held_at = let e = held_offset in let a = at.1 in omega arith

-- the valid blocks once one was placed
pub placed_marks : (s s' : Segment) (owner : Owner) (now failed : ℕ) (m : Mark) → HasPlaced (placed s owner now failed) s' → s.next < length s.summaries → get_or s.summaries s.next None ≡ None
    → m ≡ record { address = address_of s.shape s.number s.next; owner = owner } → SameItems (m ∷ marks_of s) (marks_of s')
placed_marks s s' owner now failed m has room clear is weight =
    let new : weigh weight (marks_of s') ≡ weigh weight (marks_from (address_of s.shape s.number 0) (set s.summaries s.next (Some owner))) = ap (λ x. weigh weight (marks_of x)) has.0 in
    let here : record { address = address_of s.shape s.number s.next; owner = owner } ≡ m = sym is in
    let change = marks_set (address_of s.shape s.number 0) s.next s.summaries (set s.summaries s.next (Some owner)) (record { address = address_of s.shape s.number s.next; owner = owner }) room clear refl (omega arith) weight in
    let same = ap weight is in omega arith

-- the valid blocks once one was placed in a hole
pub threaded_marks : (s s' : Segment) (offset : ℕ) (owner : Owner) (now failed : ℕ) (m : Mark) → s' ≡ threaded s offset owner now failed → offset < length s.summaries → get_or s.summaries offset None ≡ None
    → m ≡ record { address = address_of s.shape s.number offset; owner = owner } → SameItems (m ∷ marks_of s) (marks_of s')
threaded_marks s s' offset owner now failed m has room clear is weight =
    let new : weigh weight (marks_of s') ≡ weigh weight (marks_from (address_of s.shape s.number 0) (set s.summaries offset (Some owner))) = ap (λ x. weigh weight (marks_of x)) has in
    let here : record { address = address_of s.shape s.number offset; owner = owner } ≡ m = sym is in
    let change = marks_set (address_of s.shape s.number 0) offset s.summaries (set s.summaries offset (Some owner)) (record { address = address_of s.shape s.number offset; owner = owner }) room clear refl (omega arith) weight in
    let same = ap weight is in omega arith

-- the valid blocks once one was cleared
pub cleared_marks : (s s' : Segment) (o failed : ℕ) (bytes : List ℕ) (released : Released) (m : Mark) → HasReleased (cleared s o bytes failed) released s' → o < length s.summaries → get_or s.summaries o None ≡ Some m.owner
    → m.address ≡ address_of s.shape s.number 0 + o → SameItems (m ∷ marks_of s') (marks_of s)
cleared_marks s s' o failed bytes released m has within valid at weight =
    let new = go released has in
    let change = marks_cleared (address_of s.shape s.number 0) o s.summaries (set s.summaries o None) m within valid refl at weight in omega arith
  where
    go : (released : Released) → HasReleased (cleared s o bytes failed) released s' → weigh weight (marks_of s') ≡ weigh weight (marks_from (address_of s.shape s.number 0) (set s.summaries o None))
    go Kept has = ap (λ x. weigh weight (marks_of x)) has.0
    go Retired has = ap (λ x. weigh weight (marks_of x)) has.0

module _ (s s' : Segment) (account account' : SegmentView) (post post' : Post) (is : IsRegistered s account post.life) where
  -- once a block was placed
  pub placed-registered : (owner : Owner) (now failed : ℕ) (m : Mark) → s.state ≡ Open → HasPlaced (placed s owner now failed) s' → HasLivedOn s'.state post post'
      → account' ≡ record account { marks = m ∷ account.marks } → SameItems (m ∷ marks_of s) (marks_of s') → IsRegistered s' account' post'.life
  placed-registered owner now failed m opn has lived booked marks = go s'.state refl lived has.1
    where
      number : s'.number ≡ s.number
      number = ap (λ x. x.number) has.0

      all : SameItems account'.marks (marks_of s')
      all h = let b = ap (λ a. weigh h a.marks) booked in let e = is.marks h in let n = marks h in omega arith

      kept : s'.state ≡ Open → post' ≡ post → IsRegistered s' account' post'.life
      kept still same = record {
        number = number ∙ (is.number ∙ ap (λ p. p.life.segment) (sym same));
        state = still ∙ (sym opn ∙ (is.state ∙ ap (λ p. p.life.state) (sym same)));
        account_number = ap (λ a. a.segment) booked ∙ (is.account_number ∙ ap (λ p. p.life.segment) (sym same));
        marks = all;
      }

      full : s'.state ≡ Sealed → IsSealed post post' → IsRegistered s' account' post'.life
      full at_end (found, few, opn', table, life, stepped) = record {
        number = number ∙ (is.number ∙ ap (λ l. l.segment) (sym life));
        state = at_end ∙ ap (λ l. l.state) (sym life);
        account_number = ap (λ a. a.segment) booked ∙ (is.account_number ∙ ap (λ l. l.segment) (sym life));
        marks = all;
      }

      go : (state : State) → s'.state ≡ state → HasLivedOn state post post' → IsStateAt (s.next + 1) (segment_blocks s.shape) s'.state → IsRegistered s' account' post'.life
      go Free e lived (inl more) = absurd (let no = sym e ∙ more.1 in cc)
      go Free e lived (inr more) = absurd (let no = sym e ∙ more.1 in cc)
      go Open e lived more = kept e lived
      go Sealed e lived more = full e lived
      go Prefree e lived (inl more) = absurd (let no = sym e ∙ more.1 in cc)
      go Prefree e lived (inr more) = absurd (let no = sym e ∙ more.1 in cc)

  -- once a block was placed in a hole
  pub threaded-registered : (offset : ℕ) (owner : Owner) (now failed : ℕ) (m : Mark) → s' ≡ threaded s offset owner now failed → post' ≡ post
      → account' ≡ record account { marks = m ∷ account.marks } → SameItems (m ∷ marks_of s) (marks_of s') → IsRegistered s' account' post'.life
  threaded-registered offset owner now failed m has same booked marks = record {
    number = ap (λ x. x.number) has ∙ (is.number ∙ ap (λ p. p.life.segment) (sym same));
    state = ap (λ x. x.state) has ∙ (is.state ∙ ap (λ p. p.life.state) (sym same));
    account_number = ap (λ a. a.segment) booked ∙ (is.account_number ∙ ap (λ p. p.life.segment) (sym same));
    marks = λ h. let b = ap (λ a. weigh h a.marks) booked in let e = is.marks h in let n = marks h in omega arith;
  }

  -- once a block was cleared
  pub cleared-registered : (o failed : ℕ) (bytes : List ℕ) (released : Released) (m : Mark) → HasReleased (cleared s o bytes failed) released s' → HasStood released post post'
      → account' ≡ record account { marks = without same_mark m account.marks } → 0 < times same_mark m account.marks → SameItems (m ∷ marks_of s') (marks_of s) → IsRegistered s' account' post'.life
  cleared-registered o failed bytes released m has stood booked held marks = go released has stood
    where
      all : SameItems account'.marks (marks_of s')
      all h =
          let b = ap (λ a. weigh h a.marks) booked in
          let w = without_mark h m account.marks held in
          let e = is.marks h in
          let n = marks h in omega arith

      go : (released : Released) → HasReleased (cleared s o bytes failed) released s' → HasStood released post post' → IsRegistered s' account' post'.life
      go Kept has same = record {
        number = ap (λ x. x.number) has.0 ∙ (is.number ∙ ap (λ p. p.life.segment) (sym same));
        state = ap (λ x. x.state) has.0 ∙ (is.state ∙ ap (λ p. p.life.state) (sym same));
        account_number = ap (λ a. a.segment) booked ∙ (is.account_number ∙ ap (λ p. p.life.segment) (sym same));
        marks = all;
      }
      go Retired has (completed, found, few, later, table, life, stepped) = record {
        number = ap (λ x. x.number) has.0 ∙ (is.number ∙ ap (λ l. l.segment) (sym life));
        state = ap (λ x. x.state) has.0 ∙ ap (λ l. l.state) (sym life);
        account_number = ap (λ a. a.segment) booked ∙ (is.account_number ∙ ap (λ l. l.segment) (sym life));
        marks = all;
      }

-- once its blocks are there
pub fresh-registered : (s : Segment) (account : SegmentView) (book : TableId) (shape : Shape) (number failed : ℕ) (contents : List (List ℕ)) (life : Life) → s ≡ fresh shape number contents failed
    → account ≡ record { book = book; segment = number; marks = [] } → life ≡ fresh_life number → IsRegistered s account life
fresh-registered s account book shape number failed contents life is booked alive = record {
  number = ap (λ x. x.number) is ∙ ap (λ l. l.segment) (sym alive);
  state = ap (λ x. x.state) is ∙ ap (λ l. l.state) (sym alive);
  account_number = ap (λ a. a.segment) booked ∙ ap (λ l. l.segment) (sym alive);
  marks = λ h. let b = ap (λ a. weigh h a.marks) booked in
      let m = ap (λ x. weigh h (marks_of x)) is in
      let none = ap (weigh h) (none_from (segment_blocks shape) (address_of shape number 0)) in omega arith;
}

some-of : {A : Type 0} (o : Option A) (x : A) → o ≡ Some x → IsSome o
some-of (Some y) x e = refl
some-of {A} None x e = absurd (let no = ap (λ (o : Option A). is_some o) e in cc)

-- what a call knows that clears a mark of the segment's account, where the block has the mark's address
module _ (s : Segment) (account : SegmentView) (post : Post) (is : IsRegistered s account post.life) (m : Mark) (a : ℕ) (block_at : a ≡ m.address) (held : 0 < times same_mark m account.marks) where
  pub lost-positive : 0 < a
  lost-positive = let some = held_positive s account m is.marks held in omega arith

  module _ (home : segment_of s.shape m.address ≡ s.number) where
    pub lost-valid : get_or s.summaries (offset_of s.shape a) None ≡ Some m.owner
    lost-valid = ap (λ z. get_or s.summaries (offset_of s.shape z) None) block_at ∙ held_valid s account m is.marks held home

    pub lost-some : IsSome (get_or s.summaries (offset_of s.shape a) None)
    lost-some = some-of (get_or s.summaries (offset_of s.shape a) None) m.owner lost-valid

    module _ (s' : Segment) (bytes : List ℕ) (failed : ℕ) (released : Released) (has : HasReleased (cleared s (offset_of s.shape a) bytes failed) released s') where
      pub lost-marks : SameItems (m ∷ marks_of s') (marks_of s)
      lost-marks =
          let same = ap (offset_of s.shape) block_at in
          let within = held_within s account m is.marks held home in
          let at = held_at s account m is.marks held home in
          cleared_marks s s' (offset_of s.shape a) failed bytes released m has (omega arith) lost-valid (omega arith)

      pub lost-registered : (account' : SegmentView) (post' : Post) → HasStood released post post' → account' ≡ record account { marks = without same_mark m account.marks }
          → IsRegistered s' account' post'.life
      lost-registered account' post' stood booked =
          cleared-registered s s' account account' post post' is (offset_of s.shape a) failed bytes released m has stood booked held lost-marks

-- how often the blocks at home have failed after a release
pub released_failed : (s s' : Segment) (o : ℕ) (bytes : List ℕ) (failed : ℕ) (released : Released) → HasReleased (cleared s o bytes failed) released s' → failed ≡ s'.failed
released_failed s s' o bytes failed Kept has = sym (ap (λ x. x.failed) has.0)
released_failed s s' o bytes failed Retired has = sym (ap (λ x. x.failed) has.0)
