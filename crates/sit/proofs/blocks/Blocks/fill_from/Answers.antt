-- The last block of the run has the address of the last place still empty: so each one that is popped comes home where
-- it belongs, and the run is left with the blocks before.
use Rattle.std.proofs.Common.{rules, ◌≡◌, ℕ, ◌+◌, ◌-◌, length, Vec, Global, vec_len, true, refl, sym, ap, ◌∙◌, arith}
use Rattle.sit.proofs.Filling.{filling_begins, filling_goes_on, filling_ends, filled_contents, popped-address, popped-bytes}
use Rattle.sit.proofs.Homes.{home_set}
use Rattle.sit.proofs.blocks.Blocks.fill_from.Goals as goal

-- the run ends with the last of these blocks
ends_with : {X : Type 0} (first count : ℕ) (all : Vec X Global) → first + count ≡ 1 + vec_len all → first + count ≡ 1 + length all.items
ends_with first count all e = search rules

pub loop-left-init : goal.loop-left-init
loop-left-init g c =
    (filling_begins g.B.Block.address_of g.B.Block.content_of c.args.self.now c.args.all.now.items (sym c.len-count.ensures.contents ∙ c.len-count.ensures.present) c.requires.run, refl)

pub put-requires-clause-address : goal.put-requires-clause-address
put-requires-clause-address g c =
    let test = c.loop-left-test.true in
    let count = c.len-count.ensures.present in
    popped-address g.B.Block.address_of g.B.Block.content_of c.args.self.now c.loop-left.self c.args.all.now.items c.loop-left.left c.loop-left.all.items c.pop.new.self.items c.in-Some.block c.loop-left.invariant.0 c.in-Some.ensures.items (ends_with _ _ c.args.all.now c.requires.last) (omega arith)
    ∙ ap (λ n. c.loop-left.self.first + (n - 1 - c.loop-left.left)) (sym count)

pub put-requires-clause-length : goal.put-requires-clause-length
put-requires-clause-length g c =
    let test = c.loop-left-test.true in
    let count = c.len-count.ensures.present in
    popped-bytes g.B.Block.address_of g.B.Block.content_of c.args.self.now c.loop-left.self c.args.all.now.items c.loop-left.left c.loop-left.all.items c.pop.new.self.items c.in-Some.block c.loop-left.invariant.0 c.in-Some.ensures.items (ends_with _ _ c.args.all.now c.requires.last) (omega arith)

pub loop-left-preserved : goal.loop-left-preserved
loop-left-preserved g c =
    let test = c.loop-left-test.true in
    let count = c.len-count.ensures.present in (
      filling_goes_on g.B.Block.address_of g.B.Block.content_of c.args.self.now c.loop-left.self c.args.all.now.items c.loop-left.left c.loop-left.all.items c.pop.new.self.items c.in-Some.block c.loop-left.invariant.0 c.in-Some.ensures.items (ends_with _ _ c.args.all.now c.requires.last) (omega arith)
          c.put.new.self c.put.new.self.failed (c.put.ensures.home ∙ ap (λ n. home_set c.loop-left.self (n - 1 - c.loop-left.left) true (g.B.Block.content_of c.in-Some.block) c.put.new.self.failed) count),
      c.pop.ensures.capacity ∙ c.loop-left.invariant.1,
    )

pub returns-clause-home : goal.returns-clause-home
returns-clause-home g c =
    let end = c.loop-left.auto in
    let test = c.loop-left-test.false in
    let count = c.len-count.ensures.present in
    filling_ends g.B.Block.address_of g.B.Block.content_of c.args.self.now c.loop-left.self c.args.all.now.items c.loop-left.left c.loop-left.all.items c.loop-left.invariant.0 (omega arith)

pub returns-clause-contents : goal.returns-clause-contents
returns-clause-contents g c =
    let end = c.loop-left.auto in
    let test = c.loop-left-test.false in
    let count = c.len-count.ensures.present in
    filled_contents g.B.Block.address_of g.B.Block.content_of c.args.self.now c.loop-left.self c.args.all.now.items c.loop-left.left c.loop-left.all.items c.loop-left.invariant.0 (omega arith)
