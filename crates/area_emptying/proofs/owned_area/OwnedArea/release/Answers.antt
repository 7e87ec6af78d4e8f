use Rattle.std.proofs.Common.{◌≡◌, ◌<◌, ℕ, List, get_or, length, ap, sym, subst, ◌∙◌, arith}
use Rattle.geometry.specs.declared.geometry.Geometry.{Geometry}
use Rattle.geometry.specs.declared.shape.Shape.{Shape}
use Rattle.geometry.specs.Shape.{segment_blocks}
use Rattle.geometry.specs.Address.{segment_of, offset_of}
use Rattle.sit.specs.Registered.{Registered}
use Rattle.sit.specs.ShownBlocks.{ShowsBlocks}
use Rattle.area.specs.Cells.{IsSegmentOf}
use Rattle.area_emptying.proofs.Homes.{came_home, home_again, one_at_home}
use Rattle.area_emptying.proofs.owned_area.OwnedArea.release.Goals as goal

pub returns-clause-home : goal.returns-clause-home
returns-clause-home g c bytes shown =
    let segments : List Registered = c.args.self.now.segments.items in
    let k : ℕ = c.segment_of.result in
    let old : Registered = c.index_mut-segment.result.now in
    let new : Registered = c.release.new.self in
    let address : ℕ = c.args.ticket.mark.address in
    let place : old ≡ get_or segments k old = c.index_mut-segment.ensures.value in
    let every = c.args.self.now.every_segment in
    let long = c.args.self.now.segments.ok.0 in
    let numbers = ap (λ (x : Geometry). x.segments) c.args.self.now.numbers in
    let within = c.segment_of.ensures.within in
    let low : k < length segments = omega arith in
    let is : IsSegmentOf g.V.Numbers.GeometryName.geometry g.V.Books.BooksName.books.book g.V.Words.WordsName.words k old =
    subst (IsSegmentOf g.V.Numbers.GeometryName.geometry g.V.Books.BooksName.books.book g.V.Words.WordsName.words k) (sym place) (c.args.self.now.segments_are k old low) in
    let shape : c.args.self.now.geometry.shape ≡ old.segment.shape = ap (λ (x : Geometry). x.shape) c.args.self.now.numbers ∙ sym is.shape in
    let some = subst (λ a. 0 < a) c.address-address.ensures c.locate.ensures.some in
    let home : segment_of old.segment.shape address ≡ old.segment.number =
    sym (c.segment_of.ensures.number ∙ ap (λ (p : Shape × ℕ). segment_of p.0 p.1) (λ i. (shape i, c.address-address.ensures i))) ∙ sym is.number_is in
    let back = came_home old.segment new.segment address c.args.ticket.content new.segment.failed c.release.result c.args.ticket.mark.owner some home (is.sized ∙ ap segment_blocks (sym is.shape)) c.release.ensures.valid c.release.ensures.segment c.release.ensures.blocks bytes in
    (home_again segments k old new bytes low place (λ shows. (back shows).0) shown, (back (one_at_home segments k new bytes low shown)).1)
