use Rattle.std.proofs.Common.{[], false, true, get_or, ap, ◌∙◌, arith}
use Rattle.std.proofs.lemmas.List.{get_or-set_same, set-set}
use Rattle.sit.proofs.Lists.{set-back}
use Rattle.sit.proofs.Homes.{home_of, home_set}
use Rattle.sit.proofs.blocks.Blocks.write_out.Goals as goal

pub returns-in-Err-clause-err : goal.returns-in-Err-clause-err
returns-in-Err-clause-err g c =
    let h = c.args.self.now in
    let f = c.put.new.self.failed in
    let bytes = g.B.Block.content_of c.write.new.self in (
      bytes,
      c.write.ensures.length ∙ c.take-block.ensures.length,
      c.put.ensures.home ∙ (ap (λ x. home_set x c.args.offset true bytes f) c.take-block.ensures.home
          ∙ (λ i. home_of h.first h.block_bytes (set-back h.present c.args.offset false true false c.requires.present i) (set-set h.contents c.args.offset [] bytes i) f)),
    )

pub returns-in-Err-clause-failure : goal.returns-in-Err-clause-failure
returns-in-Err-clause-failure g c =
    let h = c.args.self.now in
    let away = ap (λ x. get_or x.present c.args.offset false) c.take-block.ensures.home ∙ get_or-set_same h.present c.args.offset false false c.requires.within in
    let put = c.put.ensures.failures away in
    let taken = c.take-block.ensures.failures in
    let counted = c.in-Err.ensures.failure in
    omega arith
