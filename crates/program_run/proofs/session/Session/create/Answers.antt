use Rattle.std.proofs.Common.{◌∙◌, sym}
use Rattle.program_run.specs.Files.{Files}
use Rattle.program_run.proofs.OneCall.{placed_new}
use Rattle.program_run.proofs.session.Session.create.Goals as goal

pub invariant_of-self : goal.invariant_of-self
invariant_of-self g c =
    let s = c.self.inside in
    let files : Files = record { geometry = g.V.Numbers.GeometryName.geometry; time = s.time; passes = s.passes.items; readers = s.readers.items } in
    (placed_new files c.in-Some.place c.in-Ok.pass c.self.invariant.0 (sym c.number.ensures.number ∙ c.if-number-place.true), c.self.invariant.1)
