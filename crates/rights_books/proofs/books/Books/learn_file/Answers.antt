use Rattle.std.proofs.Common.{◌≡◌, ap}
use Rattle.geometry.specs.Weights.{weigh}
use Rattle.rights_books.specs.Weights.{file_copy, past}
use Rattle.rights_books.specs.Accounts.{FileView, CensusView, file_view, census_view}
use Rattle.rights_books.proofs.books.Books.learn_file.Goals as goal
use Rattle.rights_books.proofs.Counting.{counts_file}

pub exchange-requires-clause-rule : goal.exchange-requires-clause-rule
exchange-requires-clause-rule c =
    let v = census_view c.audit.inside.holder in
    let w = file_view c.file.inside.holder in
    let fresh : weigh (file_copy (past w.inode)) v.copies ≡ 0 =
    rw (ap (λ (x : CensusView). x.copies) c.audit.view_is, ap (λ (x : FileView). x.inode) c.file.view_is) c.requires.ascending in
    rw (c.audit.invariant, c.file.invariant) (counts_file c.args.self.now.key w.inode w.tickets w.tokens w.content v.copies fresh)
