use Rattle.rights_books.proofs.RowOpening.{opens}
use Rattle.rights_books.proofs.rows.Rows.open.Goals as goal

pub open-requires : goal.open-requires
open-requires c = opens c.args.parts
