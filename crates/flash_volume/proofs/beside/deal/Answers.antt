-- Each work was given its passes and seats: what is left to deal is nothing.
use Rattle.std.proofs.Common.{rules, ◌≡◌, [], ap, arith, map, refl}
use Rattle.std.proofs.lemmas.List.{nil_from_length}
use Rattle.std.specs.Vec.Iter.{into_iter_items}
use Rattle.flash_volume.specs.Rounds.{Held}
use Rattle.flash_volume.proofs.Dealing.{dealt_all, dealt_push, mapped_more, seats_dealt, sent_all}
use Rattle.flash_volume.proofs.beside.deal.Goals as goal

pub loop-beside-preserved : goal.loop-beside-preserved
loop-beside-preserved g c =
    let others = into_iter_items c.loop-beside.beside-iterator in
    let rest = into_iter_items c.next.new.self in
    let next = c.in-Some.ensures.steps.0 in
    let had = c.loop-beside.part_jobs.items in
    let pushed = c.in_ok-push.ensures.items in
    let files = c.in-Some.beside.files.items in
    let same : c.as_slice.result.now ≡ files = search rules in
    record {
      seats = seats_dealt (λ part_job. part_job.lent.seats) _ _ _ _ had c.push.new.self.items _ c.loop-beside.invariant.seats c.in_ok-seats.ensures.seats pushed
          (ap (λ (held : Held). held.seats) c.new-lent.ensures);
      works = mapped_more (λ part_job. part_job.part.work) (λ beside. beside.work) _ had c.push.new.self.items others rest _ c.in-Some.beside next pushed refl c.loop-beside.invariant.works;
      dealt = dealt_push (λ part_job. part_job.lent.passes) _ (map (λ beside. beside.files.items) others) (map (λ beside. beside.files.items) rest) files c.as_slice.result.now _ _ _ _ had
          c.push.new.self.items _ (ap (λ works. map (λ beside. beside.files.items) works) next) same c.in_ok-passes.ensures.taken c.in_ok-passes.ensures.rest pushed
          (ap (λ (held : Held). held.passes) c.new-lent.ensures) c.loop-beside.invariant.dealt;
    }

pub returns-clause-works : goal.returns-clause-works
returns-clause-works g c =
    let others = into_iter_items c.loop-beside.beside-iterator in
    let none : others ≡ [] = nil_from_length others (omega (arith, c.in-None.ensures.steps.0, c.loop-beside.beside-iterator.rest.ok)) in
    sent_all (λ part_job. part_job.part.work) _ (map (λ beside. beside.work) others) c.loop-beside.part_jobs.items (ap (λ works. map (λ beside. beside.work) works) none) c.loop-beside.invariant.works

pub returns-clause-passes : goal.returns-clause-passes
returns-clause-passes g c =
    let others = into_iter_items c.loop-beside.beside-iterator in
    let none : others ≡ [] = nil_from_length others (omega (arith, c.in-None.ensures.steps.0, c.loop-beside.beside-iterator.rest.ok)) in
    dealt_all _ _ _ _ _ (ap (λ works. map (λ beside. beside.files.items) works) none) c.loop-beside.invariant.dealt
