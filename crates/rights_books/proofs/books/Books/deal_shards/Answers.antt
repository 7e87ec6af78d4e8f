-- What the dealer has left are the shards' claims from the next number on, and then the rest: so each turn deals the
-- next shard's account, and after the last one the rest is left.
use Rattle.std.proofs.Common.{◌≡◌, ℕ, ◌+◌, List, [], ◌∷◌, ◌++◌, length, slice_get, drop, Some, refl, sym, ap, ◌∙◌, subst, arith, ⊎_elim, length-append}
use Rattle.rights_books.specs.declared.claim.Claim.{Claim}
use Rattle.rights_books.specs.declared.claim.Claim.TheVariants.{Shard}
use Rattle.rights_books.specs.Rules.{each_from}
use Rattle.rights_books.specs.Accounts.{ShardView, first_of, number_of}
use Rattle.rights_books.specs.ClaimRules.{Held}
use Rattle.rights_books.proofs.Dealing.{slice_get_push, next_dealt, next_numbered, each_begins}
use Rattle.rights_books.proofs.books.Books.deal_shards.Goals as goal

pub loop-init : goal.loop-init
loop-init c =
    let f : ℕ → Claim = λ n. Shard n [] in
    let d = c.dealer.view_is in
    let first : (c.dealer.inside.holder).claims ≡ each_from 0 c.args.count f ++ drop c.args.count (c.dealer.inside.holder).claims =
    subst (λ (h : Held Claim). h.claims ≡ each_from 0 c.args.count f ++ drop c.args.count h.claims) (sym d) c.requires.first in
    let none : c.in_ok-shards.shards.items ≡ [] = c.in_ok-shards.ensures.items in
    record {
      book = ap (λ (h : Held Claim). h.book) d ∙ c.requires.book;
      claims = first ∙ ap (λ (cs : List Claim). cs ++ drop c.args.count (c.dealer.inside.holder).claims) (each_begins f 0 c.args.count);
      count = ap (λ (l : List ShardView). length l) none;
      items = λ k v e. let z : slice_get [] k ≡ Some v = subst (λ (l : List ShardView). slice_get l k ≡ Some v) none e in absurd (cc);
    }

pub deal_shard-shard-requires-clause-first : goal.deal_shard-shard-requires-clause-first
deal_shard-shard-requires-clause-first c =
    next_numbered (λ n. Shard n []) (λ k. refl) 0 c.args.count c.loop.counter c.loop.dealer.claims (drop c.args.count (c.dealer.inside.holder).claims) c.loop.invariant.claims c.loop-test.true

pub loop-preserved : goal.loop-preserved
loop-preserved c =
    let i = c.loop.counter in
    let e = next_dealt (λ n. Shard n []) 0 c.args.count i c.loop.dealer.claims (drop c.args.count (c.dealer.inside.holder).claims) c.loop.invariant.claims c.loop-test.true in
    let given = c.deal_shard-shard.ensures in
    let x = c.deal_shard-shard.result.0 in
    let items = c.loop.shards.items in
    let pushed : c.push.new.self.items ≡ items ++ x ∷ [] = c.in_ok-push.ensures.items in
    let number : number_of (first_of c.loop.dealer.claims) ≡ i + 0 = ap (λ (cs : List Claim). number_of (first_of cs)) e in
    record {
      book = ap (λ (h : Held Claim). h.book) given.dealer;
      claims = ap (λ (h : Held Claim). h.claims) given.dealer ∙ ap (λ (cs : List Claim). drop 1 cs) e;
      count = let a = ap (λ (l : List ShardView). length l) pushed in let b = length-append items (x ∷ []) in let d = c.loop.invariant.count in omega arith;
      items = λ k v at.
          ⊎_elim (λ (old : slice_get items k ≡ Some v). c.loop.invariant.items k v old)
          (λ (new : (k ≡ length items) × (x ≡ v)).
          let d = c.loop.invariant.count in
          let k_is : number_of (first_of c.loop.dealer.claims) ≡ k = let a = new.0 in let b = number in omega arith in
          sym new.1 ∙ (given.shard ∙ ap (λ (n : ℕ). (let v : ShardView = record { book = c.args.self.now.book; shard = n; taken = [] } in v)) k_is))
          (slice_get_push items x k v (subst (λ (l : List ShardView). slice_get l k ≡ Some v) pushed at));
    }
