-- What is not put yet stands where kept slips stand, so each turn takes one away from there and puts it.
use Rattle.std.proofs.Common.{◌≡◌, ℕ, ◌≤◌, [], ◌∷◌, ◌++◌, length, sym, ap, subst, ◌∙◌, ⊎_elim, arith}
use Rattle.std.proofs.lemmas.List.{length-append}
use Rattle.geometry.proofs.Indexing.{each_front}
use Rattle.geometry.proofs.Weighing.{weigh-append}
use Rattle.rights_books.proofs.Learning.{weigh_ones}
use Rattle.words.specs.Tokens.{FreeSegment}
use Rattle.pool.specs.Law.{all_parts}
use Rattle.pool.specs.declared.law.Account.{Account}
use Rattle.area.specs.Opening.{AreSlips}
use Rattle.area.specs.Slips.{HavePut}
use Rattle.area.proofs.Putting.{none_left, put_none, put_both, put_last, put_into_reserve, put_into_ordinary}
use Rattle.area.proofs.opening.put_slips.Goals as goal

pub unreachable-requires : goal.unreachable-requires
unreachable-requires g c =
    let pass = c.slips.pass in
    let i = c.slips.invariant in
    let full = c.in-Err.ensures.full.1 in
    let parts : all_parts ≤ pass.ordinary.parts = let p = i.put.parts.0 in let q = c.requires.all in omega arith in
    let same = (full.2 parts).same (λ x. 1) in
    let joined = weigh-append (λ (x : ℕ). 1) pass.ordinary.taken full.0 in
    let put = weigh_ones pass.ordinary.put in
    let items = weigh_ones full.0 in
    let many = full.1 in
    let less = c.in-Some.ensures.len in
    let room = i.room in omega arith

pub slips-preserved : goal.slips-preserved
slips-preserved g c =
    let i = c.slips.invariant in
    let pass = c.slips.pass in
    let now = c.put.new.pass in
    let slip = c.restore.result in
    let old = c.slips.slips.items in
    let rest = c.pop.new.self.items in
    let last : old ≡ rest ++ slip ∷ [] = c.in-Some.ensures.items ∙ ap (λ (s : FreeSegment). rest ++ s ∷ []) (sym c.restore.ensures) in
    record {
      words = each_front (λ k (s : FreeSegment). s.table ≡ g.W.WordsName.words) rest (slip ∷ []) (subst (AreSlips g.W.WordsName.words) last i.words);
      room =
          let less = c.in-Some.ensures.len in
          let room = i.room in
          ⊎_elim
          (λ put. let same = ap (λ (a : Account). length a.ordinary.put) put in omega arith)
          (λ put. let more = ap (λ (a : Account). length a.ordinary.put) put.0 in let one = length-append pass.ordinary.put (slip.segment ∷ []) in omega arith)
          c.in-Ok.ensures.put;
      put = put_both [] [] c.args.pass.now pass now c.args.slips.items old rest i.put (put_last pass now old rest slip last
          (⊎_elim (λ put. put_into_reserve pass now slip.segment rest put) (λ put. put_into_ordinary pass now slip.segment rest put.0) c.in-Ok.ensures.put));
    }

pub slips-init : goal.slips-init
slips-init g c = record { words = c.requires.words; room = c.requires.room; put = put_none c.args.pass.now c.args.slips.items }

pub returns : goal.returns
returns g c =
    let none = c.in_default.ensures.cases in
    let long = c.slips.slips.ok.0 in
    record { put = subst (HavePut [] c.args.pass.now c.slips.pass c.args.slips.items) (none_left c.slips.slips.items (omega arith)) c.slips.invariant.put }
