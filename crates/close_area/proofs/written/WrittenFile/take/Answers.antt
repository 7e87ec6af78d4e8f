use Rattle.close_area.proofs.Emptied.{none_written}
use Rattle.close_area.proofs.written.WrittenFile.take.Goals as goal

pub invariant_of-self : goal.invariant_of-self
invariant_of-self g c = none_written g.V.Books.BooksName.books.book g.V.Numbers.GeometryName.geometry c.take-file.new.self c.law.ensures c.take-file.ensures.none.0
