use Rattle.std.proofs.Common.{subst, Some}
use Rattle.geometry.specs.File.{cut_to}
use Rattle.program_run.specs.Files.{Files}
use Rattle.program_run.specs.Work.{IsCut}
use Rattle.program_run.proofs.OneCall.{cut_told, placed_changed, found_at}
use Rattle.program_run.proofs.FilePlaces.{put_at}
use Rattle.program_run.proofs.session.Session.cut.Goals as goal

pub invariant_of-self : goal.invariant_of-self
invariant_of-self g c =
    let s = c.self.inside in
    let files : Files = record { geometry = g.V.Numbers.GeometryName.geometry; time = s.time; passes = s.passes.items; readers = s.readers.items } in
    let at = found_at s.passes.items c.deref.result.now c.in_ok-place.place c.index_mut.result.now c.in-Some.pass c.deref.ensures.value c.in_ok-place.ensures.place.1 c.index_mut.ensures.value c.in-Some.is in
    (placed_changed files c.in_ok-place.place c.args.file c.in-Some.pass c.cut.new.pass c.self.invariant.0 c.in_ok-place.ensures.place.0 at c.cut.result (cut_to c.in-Some.pass.file c.args.length) c.cut.ensures.file c.cut.ensures.err, c.self.invariant.1)

pub returns : goal.returns
returns g c =
    let s = c.self.inside in
    let files : Files = record { geometry = g.V.Numbers.GeometryName.geometry; time = s.time; passes = s.passes.items; readers = s.readers.items } in
    let at = found_at s.passes.items c.deref.result.now c.in_ok-place.place c.index_mut.result.now c.in-Some.pass c.deref.ensures.value c.in_ok-place.ensures.place.1 c.index_mut.ensures.value c.in-Some.is in
    subst (λ f. IsCut f c.args.file c.args.length c.cut.result (put_at files c.in_ok-place.place (Some c.cut.new.pass))) c.self.view_is
    (cut_told files c.in_ok-place.place c.args.file c.in-Some.pass c.cut.new.pass c.self.invariant.0 c.in_ok-place.ensures.place.0 at c.args.length c.cut.result c.cut.ensures.file c.cut.ensures.err c.cut.ensures.error)
