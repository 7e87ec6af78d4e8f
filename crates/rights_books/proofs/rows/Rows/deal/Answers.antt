-- The holder has left the pairs of the parts from the next number on: so each turn deals the next part's two accounts.
use Rattle.std.proofs.Common.{◌≡◌, ℕ, ◌-◌, List, [], ◌∷◌, ◌++◌, length, drop, sym, ap, ◌∙◌, arith}
use Rattle.rights_books.specs.ClaimRules.{Held}
use Rattle.rights_books.specs.declared.row_claim.RowClaim.{RowClaim}
use Rattle.rights_books.specs.RowRules.{pairs_from}
use Rattle.rights_books.specs.RowAccounts.{RowView, first_of, number_of}
use Rattle.rights_books.proofs.RowOpening.{next_pair, next_numbered, one_more, blank_at, blank_next, none_blank}
use Rattle.rights_books.proofs.rows.Rows.deal.Goals as goal

pub loop-init : goal.loop-init
loop-init c =
    let d = c.holder.view_is in
    let parts : c.in_ok-parts.parts.items ≡ [] = c.in_ok-parts.ensures.items in
    let twins : c.in_ok-twins.twins.items ≡ [] = c.in_ok-twins.ensures.items in
    record {
      book = ap (λ (h : Held RowClaim). h.book) d ∙ c.requires.book;
      claims = ap (λ (h : Held RowClaim). h.claims) d ∙ (c.requires.claims ∙ (let n : c.args.count ≡ c.args.count - 0 = omega arith in ap (λ (k : ℕ). pairs_from 0 k) n));
      every_part = ap (λ (l : List RowView). length l) parts;
      parts = none_blank c.args.self.now c.in_ok-parts.parts.items parts;
      every_kept = ap (λ (l : List RowView). length l) twins;
      kept = none_blank c.args.self.now c.in_ok-twins.twins.items twins;
    }

pub deal_pair-part-requires-clause-first : goal.deal_pair-part-requires-clause-first
deal_pair-part-requires-clause-first c = next_numbered c.args.count c.loop.counter c.loop.holder.claims c.loop.invariant.claims c.loop-test.true

pub loop-preserved : goal.loop-preserved
loop-preserved c =
    let book = c.args.self.now in
    let e = next_pair c.args.count c.loop.counter c.loop.holder.claims c.loop.invariant.claims c.loop-test.true in
    let given = c.deal_pair-part.ensures in
    let parts = c.loop.parts.items in
    let twins = c.loop.twins.items in
    let part_pushed : c.push.new.self.items ≡ parts ++ c.deal_pair-part.result.0 ∷ [] = c.in_ok-push.ensures.items in
    let twin_pushed : c.push-in-loop.new.self.items ≡ twins ++ c.deal_pair-part.result.1 ∷ [] = c.in_ok-push-2.ensures.items in
    let number : number_of (first_of c.loop.holder.claims) ≡ c.loop.counter = ap (λ (cs : List RowClaim). number_of (first_of cs)) e in
    record {
      book = given.rest.0;
      claims = given.rest.1 ∙ ap (λ (cs : List RowClaim). drop 2 cs) e;
      every_part = one_more parts c.push.new.self.items c.deal_pair-part.result.0 c.loop.counter part_pushed c.loop.invariant.every_part;
      parts = blank_next book parts c.push.new.self.items c.deal_pair-part.result.0 c.loop.invariant.parts part_pushed
          (given.part ∙ blank_at book (number ∙ sym c.loop.invariant.every_part));
      every_kept = one_more twins c.push-in-loop.new.self.items c.deal_pair-part.result.1 c.loop.counter twin_pushed c.loop.invariant.every_kept;
      kept = blank_next book twins c.push-in-loop.new.self.items c.deal_pair-part.result.1 c.loop.invariant.kept twin_pushed
          (given.kept ∙ blank_at book (number ∙ sym c.loop.invariant.every_kept));
    }
