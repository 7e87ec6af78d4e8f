use Rattle.rights_books.proofs.EnoughHands.{enough, too_few}
use Rattle.rights_books.proofs.enough.all_are_needed.Goals as goal

pub returns-clause-enough : goal.returns-clause-enough
returns-clause-enough c = enough

pub returns-clause-too_few : goal.returns-clause-too_few
returns-clause-too_few c = too_few
