use Rattle.std.proofs.Common.{◌≡◌, sym, ◌∙◌, ap, suc, ◌-◌, arith}
use Rattle.packs.specs.Parts.{place as place_of_part}
use Rattle.packs.proofs.Places.{place_zero, place_suc}
use Rattle.packs.proofs.parts.place.Goals as goal

pub returns-then-k-eq0 : goal.returns-then-k-eq0
returns-then-k-eq0 c = sym (ap (place_of_part c.args.geometry.now) {y = 0} c.if-k-eq0.true ∙ place_zero c.args.geometry.now)

pub returns : goal.returns
returns c =
    let at : c.args.k ≡ suc (c.args.k - 1) = omega (arith, c.if-k-eq0.false) in
    rw (c.first_row-entries.ensures, c.first_row-segments.ensures, c.saturating_sub.ensures, c.from.ensures, c.saturating_sub-2.ensures, c.from-2.ensures, c.from-blocks.ensures, c.segment_blocks.ensures)
    (sym (ap (place_of_part c.args.geometry.now) at ∙ place_suc c.args.geometry.now (c.args.k - 1)))
