use Rattle.rights_books.specs.declared.claim.Claim.TheVariants.{Segment, File}
use Rattle.rights_books.specs.Accounts.{segment_view, file_view}
use Rattle.rights_books.specs.Lodged.{AreMarked}
use Rattle.rights_books.proofs.books.Books.show_marked.Given as goal

abbrev pub ghosts-exchange : goal.ghosts-exchange
ghosts-exchange a =
    let v = segment_view a.one.now in
    let w = file_view a.other.now in
    record { one = Segment v.segment v.marks; other = File w.inode w.tickets w.tokens w.content; told = AreMarked a.self.now.key.blocks v.segment w.tickets v.marks }
