use Rattle.std.proofs.Common.{◌≡◌, List, length, sym, ap, subst, ◌∙◌, arith}
use Rattle.image_codec.specs.Blocks.{bytes_at}
use Rattle.sit.specs.Registered.{Registered}
use Rattle.area_emptying.specs.Home.{AreAtHome}
use Rattle.area_emptying.proofs.Run.{turned}
use Rattle.area_emptying.proofs.Homes.{home_turned}
use Rattle.area_emptying.proofs.owned_area.OwnedArea.empty.Goals as goal

pub empty_segments-requires-clause-segments : goal.empty_segments-requires-clause-segments
empty_segments-requires-clause-segments g c =
    let geometry = g.V.Numbers.GeometryName.geometry in
    let count : length c.show_empty.new.segments.items ≡ geometry.segments =
    let long = c.show_empty.new.segments.ok.0 in
    let old = c.args.self.segments.ok.0 in
    let same = ap (λ (xs : List Registered). length xs) c.show_empty.ensures.same in
    let every = c.args.self.every_segment in omega arith in
    turned geometry c.args.self.geometry c.show_empty.new.segments.items c.reverse.new.self.items count c.args.self.numbers c.reverse.ensures.items c.show_empty.ensures.empty

pub returns-clause-home : goal.returns-clause-home
returns-clause-home g c =
    let bytes = bytes_at g.B.Block.content_of c.empty_segments.result.items in
    subst (AreAtHome bytes) c.show_empty.ensures.same
    (home_turned c.show_empty.new.segments.items bytes (subst (AreAtHome bytes) c.reverse.ensures.items c.empty_segments.ensures.home))
