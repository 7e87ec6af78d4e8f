use Rattle.std.proofs.Common.{◌≡◌, ◌≤◌, ℕ, List, length, sym, ◌∙◌, arith}
use Rattle.std.specs.Prelude.{Some}
use Rattle.packs.specs.Parts.{body_bytes}
use Rattle.packs.proofs.Gathering.{assembled_is, assembled_short}
use Rattle.packs.proofs.Sizes.{is_more, is_long, front_fits}
use Rattle.packs.proofs.reading.assemble_parts.Goals as goal

pub returns-in_ok-parts_of-in-Some : goal.returns-in_ok-parts_of-in-Some
returns-in_ok-parts_of-in-Some c =
    c.in_ok-parts_of-in-Some.ensures ∙ sym (assembled_is c.args.geometry.now c.args.slot c.args.area.now (Some c.in-Some.map) (sym c.find_map.ensures ∙ c.in-Some.is))

pub returns-in-None : goal.returns-in-None
returns-in-None c =
    let geometry = c.args.geometry.now in
    let more = is_more geometry in
    assembled_short geometry c.args.slot c.args.area.now
    (front_fits (body_bytes geometry) c.args.slot (length c.args.area.now) c.requires.slot (omega (arith, more)) (is_long geometry c.args.area.now c.requires.slots c.requires.long)) more (sym c.find_map.ensures ∙ c.in-None.is)
