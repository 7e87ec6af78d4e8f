-- What the dealer has left are the segments' claims from the next number on, and then the rest: so each turn deals the
-- next segment's account, and after the last one the rest is left.
use Rattle.std.proofs.Common.{◌≡◌, ℕ, ◌+◌, List, [], ◌∷◌, ◌++◌, length, slice_get, drop, Some, refl, sym, ap, ◌∙◌, subst, arith, ⊎_elim, length-append}
use Rattle.rights_books.specs.declared.claim.Claim.{Claim}
use Rattle.rights_books.specs.declared.claim.Claim.TheVariants.{Segment}
use Rattle.rights_books.specs.Rules.{each_from}
use Rattle.rights_books.specs.Accounts.{SegmentView, first_of, number_of}
use Rattle.rights_books.specs.ClaimRules.{Held}
use Rattle.rights_books.proofs.Dealing.{slice_get_push, next_dealt, next_numbered, each_begins}
use Rattle.rights_books.proofs.books.Books.deal_segments.Goals as goal

pub loop-init : goal.loop-init
loop-init c =
    let f : ℕ → Claim = λ n. Segment n [] in
    let d = c.dealer.view_is in
    let first : (c.dealer.inside.holder).claims ≡ each_from 0 c.args.count f ++ drop c.args.count (c.dealer.inside.holder).claims =
    subst (λ (h : Held Claim). h.claims ≡ each_from 0 c.args.count f ++ drop c.args.count h.claims) (sym d) c.requires.first in
    let none : c.in_ok-segments.segments.items ≡ [] = c.in_ok-segments.ensures.items in
    record {
      book = ap (λ (h : Held Claim). h.book) d ∙ c.requires.book;
      claims = first ∙ ap (λ (cs : List Claim). cs ++ drop c.args.count (c.dealer.inside.holder).claims) (each_begins f 0 c.args.count);
      count = ap (λ (l : List SegmentView). length l) none;
      items = λ k v e. let z : slice_get [] k ≡ Some v = subst (λ (l : List SegmentView). slice_get l k ≡ Some v) none e in absurd (cc);
    }

pub deal_segment-segment-requires-clause-first : goal.deal_segment-segment-requires-clause-first
deal_segment-segment-requires-clause-first c =
    next_numbered (λ n. Segment n []) (λ k. refl) 0 c.args.count c.loop.counter c.loop.dealer.claims (drop c.args.count (c.dealer.inside.holder).claims) c.loop.invariant.claims c.loop-test.true

pub loop-preserved : goal.loop-preserved
loop-preserved c =
    let i = c.loop.counter in
    let e = next_dealt (λ n. Segment n []) 0 c.args.count i c.loop.dealer.claims (drop c.args.count (c.dealer.inside.holder).claims) c.loop.invariant.claims c.loop-test.true in
    let given = c.deal_segment-segment.ensures in
    let x = c.deal_segment-segment.result.0 in
    let items = c.loop.segments.items in
    let pushed : c.push.new.self.items ≡ items ++ x ∷ [] = c.in_ok-push.ensures.items in
    let number : number_of (first_of c.loop.dealer.claims) ≡ i + 0 = ap (λ (cs : List Claim). number_of (first_of cs)) e in
    record {
      book = ap (λ (h : Held Claim). h.book) given.dealer;
      claims = ap (λ (h : Held Claim). h.claims) given.dealer ∙ ap (λ (cs : List Claim). drop 1 cs) e;
      count = let a = ap (λ (l : List SegmentView). length l) pushed in let b = length-append items (x ∷ []) in let d = c.loop.invariant.count in omega arith;
      items = λ k v at.
          ⊎_elim (λ (old : slice_get items k ≡ Some v). c.loop.invariant.items k v old)
          (λ (new : (k ≡ length items) × (x ≡ v)).
          let d = c.loop.invariant.count in
          let k_is : number_of (first_of c.loop.dealer.claims) ≡ k = let a = new.0 in let b = number in omega arith in
          sym new.1 ∙ (given.segment ∙ ap (λ (n : ℕ). (let v : SegmentView = record { book = c.args.self.now.book; segment = n; marks = [] } in v)) k_is))
          (slice_get_push items x k v (subst (λ (l : List SegmentView). slice_get l k ≡ Some v) pushed at));
    }
