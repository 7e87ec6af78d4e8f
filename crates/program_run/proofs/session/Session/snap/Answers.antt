use Rattle.std.proofs.Common.{◌≡◌, ◌∙◌, ◌+◌, ◌∷◌, ◌++◌, [], ap, subst, arith, length, Some, is_some}
use Rattle.file_cells.specs.Reader.{IsPinned, SnapshotOf}
use Rattle.program_run.specs.Files.{Files, HasFile, file_at, with_reader}
use Rattle.program_run.proofs.OneCall.{found_at}
use Rattle.program_run.proofs.FilePlaces.{has_at, pass_is}
use Rattle.program_run.proofs.session.Session.snap.Goals as goal

pub returns-in-Ok : goal.returns-in-Ok
returns-in-Ok g c =
    let s = c.self.inside in
    let files : Files = record { geometry = g.V.Numbers.GeometryName.geometry; time = s.time; passes = s.passes.items; readers = s.readers.items } in
    let place = c.in_ok-place.place in
    let old = c.in-Some-index.pass in
    let shown : SnapshotOf = c.in-Ok.reader in
    let at = found_at s.passes.items c.deref.result.now place c.index.result.now old c.deref.ensures.value c.in_ok-place.ensures.place.1 c.index.ensures c.in-Some-index.is in
    let is = c.in_ok-place.ensures.place.0 in
    let new : Files = record files { readers = c.push_reserved.new.self.items } in
    let more : new ≡ with_reader files shown =
    ap (λ r. record files { readers = r }) (c.push_reserved.ensures.items ∙ ap (λ xs. xs ++ Some shown ∷ []) c.reserve.ensures.items) in
    subst (λ f. HasFile f c.args.file × (c.len.result ≡ length f.readers + 1)
    × ((x : SnapshotOf) × (x.file ≡ file_at f c.args.file) × IsPinned x × (new ≡ with_reader f x))) c.self.view_is (
      has_at files place c.args.file is (ap is_some at),
      omega (arith, c.len.ensures, c.push_reserved.ensures.len, c.reserve.ensures.len, s.readers.ok.0),
      (shown, c.in-Ok.ensures.file ∙ ap (λ p. p.file) (pass_is files place c.args.file old c.self.invariant.0 is at), c.in-Ok.ensures.pins, more),
    )
