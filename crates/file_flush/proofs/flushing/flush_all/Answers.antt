-- Each node that is written leaves one mark less, and the file as it was; so both walks end, and what the first did the second adds to.
use Rattle.std.proofs.Common.{◌≡◌, ◌+◌, refl, subst, sym, arith}
use Rattle.rights_books.specs.Accounts.{HandView}
use Rattle.nodes.specs.Change.{each_marked}
use Rattle.nodes.specs.File.{weight_of}
use Rattle.nodes_walks.proofs.Flushed.{fewer_marked}
use Rattle.file_flush.proofs.Steps.{flushed_none, flushed_more, still_flushable}
use Rattle.file_flush.proofs.flushing.flush_all.Goals as goal

pub flush_node-requires-clause-file : goal.flush_node-requires-clause-file
flush_node-requires-clause-file g c =
    still_flushable g.V.Numbers.GeometryName.geometry g.V.Books.BooksName.books.book c.args.file.now c.walk.file c.args.hand.now c.walk.hand c.requires.file c.walk.invariant

pub flush_node-requires-in-marked-clause-file : goal.flush_node-requires-in-marked-clause-file
flush_node-requires-in-marked-clause-file g c =
    still_flushable g.V.Numbers.GeometryName.geometry g.V.Books.BooksName.books.book c.args.file.now c.marked.file c.args.hand.now c.marked.hand c.requires.file c.marked.invariant.0

pub walk-init : goal.walk-init
walk-init g c =
    let was = c.requires.file in flushed_none g.V.Numbers.GeometryName.geometry.files c.args.file.now was.file_is was.numbered was.law c.args.hand.now

pub walk-smaller : goal.walk-smaller
walk-smaller g c =
    let one = c.in_ok-flush_node.ensures.one c.if-branch.true in
    let less : weight_of c.flush_node.new.file each_marked + 1 ≡ weight_of c.walk.file each_marked
    = fewer_marked (weight_of c.walk.file) (weight_of c.flush_node.new.file) one.0 one.1 one.2 in
    omega arith

pub walk-preserved : goal.walk-preserved
walk-preserved g c =
    let one = c.in_ok-flush_node.ensures.one c.if-branch.true in
    flushed_more g.V.Numbers.GeometryName.geometry.files c.args.file.now c.walk.file c.flush_node.new.file c.args.hand.now c.walk.hand c.flush_node.new.hand c.walk.invariant
    one.0 one.1 one.2 one.3 one.4 c.flush_node.ensures.kept

pub marked-smaller : goal.marked-smaller
marked-smaller g c =
    let one = c.in_ok-flush_node-2.ensures.one c.if-branch-2.true in
    let less : weight_of c.flush_node-in-marked.new.file each_marked + 1 ≡ weight_of c.marked.file each_marked
    = fewer_marked (weight_of c.marked.file) (weight_of c.flush_node-in-marked.new.file) one.0 one.1 one.2 in
    omega arith

pub marked-preserved : goal.marked-preserved
marked-preserved g c =
    let one = c.in_ok-flush_node-2.ensures.one c.if-branch-2.true in (
      flushed_more g.V.Numbers.GeometryName.geometry.files c.args.file.now c.marked.file c.flush_node-in-marked.new.file c.args.hand.now c.marked.hand c.flush_node-in-marked.new.hand c.marked.invariant.0
          one.0 one.1 one.2 one.3 one.4 c.flush_node-in-marked.ensures.kept,
      refl,
    )
