use Rattle.std.proofs.Common.{◌∙◌, Some, sym, ap}
use Rattle.packs.specs.Area.{reading_of}
use Rattle.packs.specs.Pack.{picked}
use Rattle.image_reading.proofs.reading.read_tables.Goals as goal

pub returns-clause-tables : goal.returns-clause-tables
returns-clause-tables g c = λ bytes shown. record {
  body = c.as_slice.result.now;
  picked =
      ap (picked (reading_of c.args.geometry.now)) (sym (c.in_ok-area.ensures.read bytes shown))
      ∙ c.in_ok-body.ensures.body
      ∙ ap (λ b. Some b) (sym c.as_slice.ensures.value);
  spelled = c.in_ok-decode.ensures.tables;
}
