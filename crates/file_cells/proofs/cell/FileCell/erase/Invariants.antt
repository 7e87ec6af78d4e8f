use Rattle.rights_books.specs.Contents.{as_content}
use Rattle.nodes.specs.File.{file_of}
use Rattle.file_cells.proofs.cell.FileCell.erase.Given as goal

abbrev pub ghosts-note_file : goal.ghosts-note_file
ghosts-note_file g a = record { content = as_content (file_of a.file.now) }
