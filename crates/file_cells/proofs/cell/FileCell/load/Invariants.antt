use Rattle.rights_books.specs.Contents.{as_content}
use Rattle.nodes.specs.File.{file_of}
use Rattle.file_cells.proofs.cell.FileCell.load.Given as goal

abbrev pub ghosts-issue_file : goal.ghosts-issue_file
ghosts-issue_file g a = record { content = as_content (file_of a.file.now) }
