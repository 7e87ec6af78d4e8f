use Rattle.std.proofs.Common.{rules, ◌≡◌, ◌∙◌, ap, sym, subst, replicate, map, List, Bool}
use Rattle.geometry.specs.Summary.{owner_in}
use Rattle.geometry.specs.declared.owner.Summary.{Summary}
use Rattle.sit.specs.Valid.{AreValid}
use Rattle.sit.proofs.ValidLemmas.{shown_none, valid_none}
use Rattle.sit.proofs.valid.ValidBlocks.new.Goals as goal

abbrev none : Summary
none = record { nid = 0; slot = 0 }

pub invariant_of-result : goal.invariant_of-result
invariant_of-result c =
    let n = c.args.blocks in
    let items : c.in_ok-vec.field-0.items ≡ replicate n none = search rules in
    subst (λ (b : List Bool × List Summary). AreValid b.0 b.1 0) (λ i. (sym c.in_ok-new.ensures.ok i, sym items i)) (valid_none n c.ranges.blocks.fits)

pub returns-clause-ok : goal.returns-clause-ok
returns-clause-ok c =
    let n = c.args.blocks in
    let items : c.in_ok-vec.field-0.items ≡ replicate n none = search rules in
    ap (map owner_in) items ∙ shown_none n
