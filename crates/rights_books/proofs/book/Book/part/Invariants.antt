use Rattle.rights_books.proofs.book.Book.part.Given as goal

abbrev pub ghosts-part_by : goal.ghosts-part_by
ghosts-part_by g a = record { kept = a.keep }
