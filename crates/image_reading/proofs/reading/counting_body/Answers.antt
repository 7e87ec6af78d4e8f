use Rattle.std.proofs.Common.{◌∙◌, ap, sym}
use Rattle.std.proofs.lemmas.Result.{IfErr-weaker}
use Rattle.packs.specs.Area.{reading_of}
use Rattle.packs.specs.Pack.{picked}
use Rattle.image_reading.proofs.Refusing.{body_refused}
use Rattle.image_reading.proofs.reading.counting_body.Goals as goal

pub returns-in-Ok-clause-refused : goal.returns-in-Ok-clause-refused
returns-in-Ok-clause-refused c =
    let picks = ap (picked (reading_of c.args.geometry.now)) (sym c.new.ensures.bytes) ∙ c.in-Ok.ensures.picked in
    IfErr-weaker c.read_body.result _ _ (body_refused c.args.geometry.now c.in-Ok.packs.geometry c.args.area.items _ c.in-Ok.ensures.geometry picks) c.read_body.ensures.refused
