use Rattle.rights_books.proofs.Opening.{opens}
use Rattle.rights_books.proofs.books.Books.open.Goals as goal

pub open-requires : goal.open-requires
open-requires c = opens c.args.layout.now
