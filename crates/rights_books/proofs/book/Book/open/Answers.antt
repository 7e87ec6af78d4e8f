use Rattle.std.proofs.Common.{arith}
use Rattle.geometry.specs.Weights.{weigh}
use Rattle.rights_books.proofs.Keeping.{same_weights}
use Rattle.rights_books.proofs.book.Book.open.Goals as goal

pub of_words-requires : goal.of_words-requires
of_words-requires g c =
    let key = c.args.key.now in
    let first = g.L.Law.first key in
    same_weights (g.L.Law.lawful key) (λ h. weigh h first) _ (λ h. omega arith) c.requires
