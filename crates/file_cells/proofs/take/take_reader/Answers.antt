-- What was prepared lends each block of the file, and the pins cover the segment of each: the file did not change
-- between, so the reader shows it and its blocks stay.
use Rattle.std.proofs.Common.{◌∙◌, sym, ap, subst}
use Rattle.nodes.specs.File.{file_of}
use Rattle.file_cells.specs.Reader.{IsPinned, segments_of}
use Rattle.file_cells.specs.Law.{ArePins, ReaderLaw}
use Rattle.file_cells.proofs.Shown.{pinned_there}
use Rattle.file_cells.proofs.take.take_reader.Goals as goal

pub invariant_of-result : goal.invariant_of-result
invariant_of-result g c =
    let f = c.args.file.now in
    let items = g.B.Lease.AsSlice.items in
    let geometry = g.V.Numbers.GeometryName.geometry in
    let table = g.V.Words.WordsName.words in
    let made = c.in-Ok.prepared in
    let held = c.pin_all.new.seat.held in
    let same = c.of.ensures ∙ c.prepare.ensures.same.0 in
    let long = c.length.ensures ∙ ap (λ x. x.length) c.prepare.ensures.same.0 in
    let value = c.deref.ensures.value in
    subst (λ x. ReaderLaw items geometry table c.words.result.now x c.length.result made.indexes.items made.leases.items made.noted.items held) (sym same) (record {
      words_are = c.words.ensures;
      file = c.requires.file;
      shape_is = c.requires.shape;
      whole = c.requires.whole;
      long = long;
      lent = c.in-Ok.ensures.lent;
      noted = c.in-Ok.ensures.sized;
      pins = subst (λ noted. ArePins noted held) value c.pin_all.ensures.pins;
      covered = c.in-Ok.ensures.covered;
    })

pub returns-in-Ok-clause-file : goal.returns-in-Ok-clause-file
returns-in-Ok-clause-file g c = ap file_of (c.of.ensures ∙ c.prepare.ensures.same.0)

pub returns-in-Ok-clause-segments : goal.returns-in-Ok-clause-segments
returns-in-Ok-clause-segments g c = ap segments_of (c.of.ensures ∙ c.prepare.ensures.same.0)

pub returns-in-Ok-clause-pins : goal.returns-in-Ok-clause-pins
returns-in-Ok-clause-pins g c =
    let f = c.args.file.now in
    let held = c.pin_all.new.seat.held in
    let pins = subst (λ noted. ArePins noted held) c.deref.ensures.value c.pin_all.ensures.pins in
    subst (λ x. IsPinned (record { file = file_of x; segments = segments_of x; held = held })) (sym (c.of.ensures ∙ c.prepare.ensures.same.0))
    (pinned_there f c.requires.file c.in-Ok.prepared.noted.items held pins c.in-Ok.ensures.covered)
