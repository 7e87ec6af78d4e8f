-- The segments stand in falling order, so the one popped is always the next: its blocks go on where the run ends, and
-- the room that is asked holds those of all that are left.
use Rattle.std.proofs.Common.{◌≡◌, ◌+◌, ◌-◌, [], length, map, get_or, ap, sym, subst, ◌∙◌, arith}
use Rattle.geometry.specs.Shape.{block_bytes}
use Rattle.device.specs.Parts.{IsBlockRun}
use Rattle.image_codec.specs.Blocks.{bytes_at}
use Rattle.area_emptying.proofs.Run.{popped_empty, popped_first, popped_fits, emptying_goes_on, emptied_on, emptied_none, emptying_from}
use Rattle.area_emptying.proofs.emptied_area.empty_segments.Goals as goal

pub empty_into-requires-clause-run : goal.empty_into-requires-clause-run
empty_into-requires-clause-run g c =
    let is = c.segments.invariant.0 in
    subst (λ s. IsBlockRun g.B.Block.address_of g.B.Block.content_of (block_bytes s) 1 c.segments.blocks.items)
    (sym (popped_empty g.B.Block.address_of g.B.Block.content_of c.args.geometry.now.shape c.args.geometry.now.segments c.segments.segments.items c.pop.new.self.items c.in-Some.segment c.segments.blocks.items c.segments.invariant.0 c.in-Some.ensures.items).shape_is) is.run

pub empty_into-requires-clause-next : goal.empty_into-requires-clause-next
empty_into-requires-clause-next g c =
    let long = c.segments.blocks.ok.0 in
    popped_first g.B.Block.address_of g.B.Block.content_of c.args.geometry.now.shape c.args.geometry.now.segments c.segments.segments.items c.pop.new.self.items c.in-Some.segment c.segments.blocks.items c.segments.invariant.0 c.in-Some.ensures.items ∙ (omega arith)

pub empty_into-requires-clause-room : goal.empty_into-requires-clause-room
empty_into-requires-clause-room g c =
    let long = c.segments.blocks.ok.0 in
    let fits = popped_fits g.B.Block.address_of g.B.Block.content_of c.args.geometry.now.shape c.args.geometry.now.segments c.segments.segments.items c.pop.new.self.items c.in-Some.segment c.segments.blocks.items c.segments.invariant.0 c.in-Some.ensures.items in
    let room = c.segments.invariant.1 in omega arith

pub segments-preserved : goal.segments-preserved
segments-preserved g c =
    let new = c.empty_into.new.all.ok.0 in
    let old = c.segments.blocks.ok.0 in (
      emptying_goes_on g.B.Block.address_of g.B.Block.content_of c.args.geometry.now.shape c.args.geometry.now.segments c.segments.segments.items c.pop.new.self.items c.in-Some.segment
          c.segments.blocks.items c.segments.invariant.0 c.in-Some.ensures.items c.empty_into.new.all.items c.empty_into.ensures.run (let more = c.empty_into.ensures.count in omega arith),
      (let room = c.segments.invariant.1 in let same = c.empty_into.ensures.capacity in omega arith),
      emptied_on g.B.Block.content_of c.args.segments.items c.segments.segments.items c.pop.new.self.items c.in-Some.segment c.segments.blocks.items c.empty_into.new.all.items c.segments.invariant.2 c.in-Some.ensures.items
          c.empty_into.ensures.contents (let more = c.empty_into.ensures.count in omega arith)
          (popped_first g.B.Block.address_of g.B.Block.content_of c.args.geometry.now.shape c.args.geometry.now.segments c.segments.segments.items c.pop.new.self.items c.in-Some.segment c.segments.blocks.items c.segments.invariant.0 c.in-Some.ensures.items),
    )

pub segments-init : goal.segments-init
segments-init g c =
    let none = c.requires.none in
    let long = c.args.blocks.ok.0 in
    let count = c.requires.count in
    let many = c.args.segments.ok.0 in
    let no_blocks : length c.args.blocks.items ≡ 0 = omega arith in
    let all : length c.args.segments.items ≡ c.args.geometry.now.segments = omega arith in (
      emptying_from g.B.Block.address_of g.B.Block.content_of c.args.geometry.now.shape c.args.geometry.now.segments c.args.segments.items c.args.blocks.items c.requires.segments all no_blocks,
      c.requires.room,
      emptied_none g.B.Block.content_of c.args.segments.items c.args.blocks.items,
    )

pub returns-clause-home : goal.returns-clause-home
returns-clause-home g c = λ k other low.
    let none = c.in_default.ensures.cases.0 in
    let long = c.segments.segments.ok.0 in
    c.segments.invariant.2.shown (bytes_at g.B.Block.content_of c.segments.blocks.items)
    (λ i within. let back : i + 1 - 1 ≡ i = omega arith in ap (λ j. get_or (map g.B.Block.content_of c.segments.blocks.items) j []) (sym back))
    k other (omega arith) low
