use Rattle.std.proofs.Common.{sym, subst}
use Rattle.file_flush.specs.Written.{IsWritable, IsInHand}
use Rattle.file_flush.proofs.Ready.{writable, in_hand}
use Rattle.file_flush.proofs.flushing.flush_node.Goals as goal

pub flush_next-found-requires-clause-ready : goal.flush_next-found-requires-clause-ready
flush_next-found-requires-clause-ready g c =
    let f = c.args.file.now in
    let was = c.requires.file in
    let shape = was.shape_is in
    λ n marked among. (
      subst (λ s. IsWritable s c.number.result n) shape
          (subst (λ k. IsWritable f.shape k n) (sym c.number.ensures) (writable f was.file_is was.numbered n among)),
      subst (λ s. IsInHand s g.V.Books.BooksName.books.book c.args.hand.now n.token) shape
          (in_hand f was.file_is was.numbered g.V.Numbers.GeometryName.geometry.files was.held.0 g.V.Books.BooksName.books.book c.args.hand.now was.book_is
          was.law.tokens was.held.1 n among),
      c.requires.block,
    )
