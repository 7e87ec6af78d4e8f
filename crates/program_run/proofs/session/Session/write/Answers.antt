use Rattle.std.proofs.Common.{◌≡◌, ◌∙◌, ap, subst, replicate, length, Some}
use Rattle.std.proofs.lemmas.List.{length-replicate}
use Rattle.geometry.specs.File.{written}
use Rattle.program_run.specs.Files.{Files}
use Rattle.program_run.specs.Work.{IsWritten, equal_block}
use Rattle.program_run.proofs.OneCall.{placed_changed, found_at, written_told}
use Rattle.program_run.proofs.FilePlaces.{put_at}
use Rattle.program_run.proofs.session.Session.write.Goals as goal

pub invariant_of-self : goal.invariant_of-self
invariant_of-self g c =
    let s = c.self.inside in
    let files : Files = record { geometry = g.V.Numbers.GeometryName.geometry; time = s.time; passes = s.passes.items; readers = s.readers.items } in
    let at = found_at s.passes.items c.deref.result.now c.in_ok-place.place c.index_mut.result.now c.in-Some.pass c.deref.ensures.value c.in_ok-place.ensures.place.1 c.index_mut.ensures.value c.in-Some.is in (
      placed_changed files c.in_ok-place.place c.args.file c.in-Some.pass c.write.new.pass c.self.invariant.0 c.in_ok-place.ensures.place.0 at c.write.result (written c.in-Some.pass.file c.args.index c.as_slice.result.now) c.write.ensures.file c.write.ensures.err,
      ap length c.fill_block.ensures ∙ length-replicate (length s.block.items) c.args.byte ∙ c.self.invariant.1,
    )

pub returns : goal.returns
returns g c =
    let s = c.self.inside in
    let files : Files = record { geometry = g.V.Numbers.GeometryName.geometry; time = s.time; passes = s.passes.items; readers = s.readers.items } in
    let at = found_at s.passes.items c.deref.result.now c.in_ok-place.place c.index_mut.result.now c.in-Some.pass c.deref.ensures.value c.in_ok-place.ensures.place.1 c.index_mut.ensures.value c.in-Some.is in
    let block : c.as_slice.result.now ≡ equal_block files c.args.byte =
    c.as_slice.ensures.value ∙ c.fill_block.ensures ∙ ap (λ n. replicate n c.args.byte) c.self.invariant.1 in
    subst (λ f. IsWritten f c.args.file c.args.index c.args.byte c.write.result (put_at files c.in_ok-place.place (Some c.write.new.pass))) c.self.view_is
    (written_told files c.in_ok-place.place c.args.file c.in-Some.pass c.write.new.pass c.self.invariant.0 c.in_ok-place.ensures.place.0 at c.args.index c.args.byte c.as_slice.result.now c.write.result block c.write.ensures.file c.write.ensures.err c.write.ensures.error)
