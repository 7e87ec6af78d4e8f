use Rattle.mount_blocks.proofs.Rights.{right_is, rights_next}
use Rattle.mount_blocks.proofs.segment_rights.SegmentRights.take_last.Goals as goal

pub returns-clause-others : goal.returns-clause-others
returns-clause-others g c =
    rights_next c.args.geometry.now.shape c.args.books.now.book c.args.words.now.table _ _ _ _ _ _ _ _ _ _ _ _ c.requires c.in_ok-room.ensures.items c.last_of-account.ensures c.last_of-standing.ensures c.last_of-slip.ensures

pub returns-clause-right : goal.returns-clause-right
returns-clause-right g c =
    right_is c.args.geometry.now.shape c.args.books.now.book c.args.words.now.table _ _ _ _ _ _ _ _ _ _ _ _ c.requires c.in_ok-room.ensures.items c.last_of-account.ensures c.last_of-standing.ensures c.last_of-slip.ensures
