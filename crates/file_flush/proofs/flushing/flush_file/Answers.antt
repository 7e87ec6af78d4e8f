use Rattle.nodes.proofs.TreeResults.{on_ok}
use Rattle.nodes_law.proofs.Listing.{written_where_clean}
use Rattle.file_flush.proofs.Steps.{still_held, still_shown}
use Rattle.file_flush.proofs.flushing.flush_file.Goals as goal

pub flush_all-requires-clause-file : goal.flush_all-requires-clause-file
flush_all-requires-clause-file g c =
    let was = c.requires in
    record { book_is = was.book; shape_is = was.shape; file_is = was.file; numbered = was.numbered; law = was.law; held = was.held }

pub returns-clause-written : goal.returns-clause-written
returns-clause-written g c =
    on_ok c.flush_all.result c.flush_all.ensures.clean (written_where_clean c.flush_all.new.file c.flush_all.ensures.flushed.law.spelled)

pub returns-clause-same : goal.returns-clause-same
returns-clause-same g c =
    still_shown g.V.Numbers.GeometryName.geometry.files c.args.file.now c.flush_all.new.file c.args.hand.now c.flush_all.new.hand c.flush_all.ensures.flushed c.requires.file

pub returns-clause-held : goal.returns-clause-held
returns-clause-held g c =
    λ others held. still_held g.V.Numbers.GeometryName.geometry.files c.args.file.now c.flush_all.new.file c.args.hand.now c.flush_all.new.hand c.flush_all.ensures.flushed others held
