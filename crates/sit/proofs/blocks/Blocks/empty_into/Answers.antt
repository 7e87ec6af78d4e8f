use Rattle.std.proofs.Common.{rules, ◌≡◌, ◌∙◌, ◌+◌, ◌<◌, length, subst, refl, sym, arith}
use Rattle.sit.proofs.Filling.{IsEmptying, emptying_begins, emptying_goes_on, emptied_contents}
use Rattle.sit.proofs.blocks.Blocks.empty_into.Goals as goal

pub loop-offset-init : goal.loop-offset-init
loop-offset-init g c =
    let count = c.len-offset-end.ensures in (
      emptying_begins g.B.Block.address_of g.B.Block.content_of c.args.self c.args.all.now.items c.requires.whole (sym count.contents ∙ count.present) c.requires.run,
      refl,
    )

pub returns-clause-contents : goal.returns-clause-contents
returns-clause-contents g c =
    let end = c.loop-offset.auto in
    let test = c.loop-offset-test.false in
    let count = c.len-offset-end.ensures.present in
    emptied_contents g.B.Block.address_of g.B.Block.content_of c.args.self c.loop-offset.self c.args.all.now.items c.loop-offset.offset c.loop-offset.all.items c.loop-offset.invariant.0 (omega arith)

pub loop-offset-preserved : goal.loop-offset-preserved
loop-offset-preserved g c =
    let is = c.loop-offset.invariant.0 in
    let test = c.loop-offset-test.true in
    let count = c.len-offset-end.ensures.present in
    let next : c.args.self.first ≡ 1 + length c.args.all.now.items = search rules in
    let within : c.loop-offset.offset < length c.args.self.present = omega arith in (
      subst (IsEmptying g.B.Block.address_of g.B.Block.content_of c.args.self c.take-block.new.self c.args.all.now.items (c.loop-offset.offset + 1)) (sym c.push_reserved.ensures.items)
          (emptying_goes_on g.B.Block.address_of g.B.Block.content_of c.args.self c.loop-offset.self c.take-block.new.self c.args.all.now.items c.loop-offset.offset c.take-block.new.self.failed c.loop-offset.all.items c.take-block.result
          is next within c.take-block.ensures.home c.take-block.ensures.content c.take-block.ensures.address c.take-block.ensures.length),
      c.push_reserved.ensures.capacity ∙ c.loop-offset.invariant.1,
    )
