use Rattle.std.proofs.Common.{◌≡◌, ◌∙◌, sym, subst, Some}
use Rattle.program_run.specs.Work.{IsRefusedWounded}
use Rattle.program_run.proofs.OneCall.{found_at, given_back, refused_told, taken_placed}
use Rattle.program_run.proofs.FilePlaces.{put_at}
use Rattle.program_run.specs.Files.{ArePlaced, Files}
use Rattle.program_run.proofs.session.Session.delete.Goals as goal

pub invariant_of-self : goal.invariant_of-self
invariant_of-self g c =
    let s = c.self.inside in
    let files : Files = record { geometry = g.V.Numbers.GeometryName.geometry; time = s.time; passes = s.passes.items; readers = s.readers.items } in
    let place = c.in_ok-place.place in
    let at = found_at s.passes.items c.deref.result.now place c.index_mut.result.now c.in-Some.pass c.deref.ensures.value c.in_ok-place.ensures.place.1 c.index_mut.ensures.value (sym c.take.ensures.value ∙ c.in-Some.is) in
    (taken_placed files place c.args.file c.in-Some.pass c.in-Some.pass c.self.invariant.0 c.in_ok-place.ensures.place.0 at c.take.new.self c.take.ensures.after, c.self.invariant.1)

pub invariant_of-self-in-Err : goal.invariant_of-self-in-Err
invariant_of-self-in-Err g c =
    let s = c.self.inside in
    let files : Files = record { geometry = g.V.Numbers.GeometryName.geometry; time = s.time; passes = s.passes.items; readers = s.readers.items } in
    let place = c.in_ok-place.place in
    let at = found_at s.passes.items c.deref.result.now place c.index_mut.result.now c.in-Some.pass c.deref.ensures.value c.in_ok-place.ensures.place.1 c.index_mut.ensures.value (sym c.take.ensures.value ∙ c.in-Some.is) in
    (subst ArePlaced (sym (given_back files place c.args.file c.in-Some.pass c.in-Err.pass c.self.invariant.0 c.in_ok-place.ensures.place.0 at c.take.new.self (c.in-Err.ensures.pass))) c.self.invariant.0, c.self.invariant.1)

pub returns-in-Err : goal.returns-in-Err
returns-in-Err g c =
    let s = c.self.inside in
    let files : Files = record { geometry = g.V.Numbers.GeometryName.geometry; time = s.time; passes = s.passes.items; readers = s.readers.items } in
    let place = c.in_ok-place.place in
    let at = found_at s.passes.items c.deref.result.now place c.index_mut.result.now c.in-Some.pass c.deref.ensures.value c.in_ok-place.ensures.place.1 c.index_mut.ensures.value (sym c.take.ensures.value ∙ c.in-Some.is) in
    subst (λ f. IsRefusedWounded f c.args.file c.in-Err.error × (put_at (put_at files place c.take.new.self) place (Some c.in-Err.pass) ≡ f)) c.self.view_is (
      refused_told files place c.args.file c.in-Some.pass c.in-Err.pass c.self.invariant.0 c.in_ok-place.ensures.place.0 at c.in-Err.error (c.in-Err.ensures.error),
      given_back files place c.args.file c.in-Some.pass c.in-Err.pass c.self.invariant.0 c.in_ok-place.ensures.place.0 at c.take.new.self (c.in-Err.ensures.pass),
    )
