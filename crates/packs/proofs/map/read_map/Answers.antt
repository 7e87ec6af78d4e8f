use Rattle.std.proofs.Common.{sym, ◌∙◌}
use Rattle.packs.proofs.Maps.{read_is, map_if, map_else}
use Rattle.packs.proofs.map.read_map.Goals as goal

pub returns-then-is_map : goal.returns-then-is_map
returns-then-is_map c =
    map_if c.args.geometry.now c.number_in-format.result c.long_number_in-number.result c.number_in-zeros.result c.sides_of-sides.result c.sides_of-sides.ensures (sym c.is_map.ensures ∙ c.if-is_map.true)
    ∙ read_is c.args.geometry.now c.args.bytes.now _ _ _ c.number_in-format.ensures c.long_number_in-number.ensures c.number_in-zeros.ensures

pub returns-else-is_map : goal.returns-else-is_map
returns-else-is_map c =
    map_else c.args.geometry.now c.number_in-format.result c.long_number_in-number.result c.number_in-zeros.result c.sides_of-sides.result c.sides_of-sides.ensures (sym c.is_map.ensures ∙ c.if-is_map.false)
    ∙ read_is c.args.geometry.now c.args.bytes.now _ _ _ c.number_in-format.ensures c.long_number_in-number.ensures c.number_in-zeros.ensures
