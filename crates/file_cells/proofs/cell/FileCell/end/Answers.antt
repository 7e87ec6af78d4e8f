use Rattle.std.proofs.Common.{ap, sym, subst, ◌∙◌}
use Rattle.rights_books.specs.Accounts.{HandView}
use Rattle.nodes.specs.Held.{no_others}
use Rattle.nodes_law.specs.Contents.{InHand}
use Rattle.file_cells.proofs.Lodging.{empty_hand}
use Rattle.file_cells.proofs.cell.FileCell.end.Goals as goal

pub give_up-requires : goal.give_up-requires
give_up-requires g c =
    let took = c.take-file.ensures in
    record {
      file = record {
        book_is = ap (λ (v : HandView). v.book) took.hand ∙ ap (λ (v : HandView). v.book) c.requires.hand;
        shape_is = took.lodged.shape_is;
        stored = took.lodged.stored;
        law = took.lodged.law;
        held = (no_others, subst (InHand no_others c.take-file.result) (sym took.hand) took.lodged.lodged);
      };
    }

pub returns-clause-hand : goal.returns-clause-hand
returns-clause-hand g c =
    let took = c.take-file.ensures in
    let mine = subst (InHand no_others c.take-file.result) (sym took.hand) took.lodged.lodged in
    let here = ap (λ (v : HandView). v.book) took.hand ∙ ap (λ (v : HandView). v.book) c.requires.hand in
    empty_hand g.V.Books.BooksName.books.book c.args.hand.now c.give_up.new.hand c.requires.hand (c.give_up.ensures.book ∙ here) (c.give_up.ensures.tickets no_others mine (λ x. 1)) (c.give_up.ensures.tokens no_others mine (λ x. 1))
