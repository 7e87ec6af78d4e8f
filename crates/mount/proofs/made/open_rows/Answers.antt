-- The accounts are dealt in rising order, and turned round.
use Rattle.std.proofs.Common.{◌+◌, ap, ◌∙◌, subst, sym, length}
use Rattle.atomic_table.specs.Seated.{TableId}
use Rattle.area.specs.Opening.{PartsFall}
use Rattle.std.proofs.lemmas.List.{length-reverse}
use Rattle.mount.proofs.Parts.{parts_fall}
use Rattle.mount.proofs.made.open_rows.Goals as goal

pub returns-clause-rows : goal.returns-clause-rows
returns-clause-rows c =
    let opened = c.in_ok-rows.field-0 in
    let given = c.in_ok-rows.ensures in
    let n = c.args.geometry.now.segments + 16 in
    record {
      every_part = ap length c.reverse.ensures.items ∙ (length-reverse opened.parts.items ∙ given.every_part);
      parts = subst (λ (b : TableId). PartsFall b n c.reverse.new.self.items) (sym c.new-body.ensures.rows) (parts_fall opened.rows n opened.parts.items c.reverse.new.self.items given.every_part given.parts c.reverse.ensures.items);
      numbers = c.new-body.ensures.geometry;
      touched = c.new-body.ensures.touched;
    }
