-- Once its entries are given back, the inode's token is all that the file has in hand: with it the hand is empty, and
-- every block of the file is at home.
use Rattle.std.proofs.Common.{◌≡◌, ◌<◌, ap, sym, subst, ◌∙◌}
use Rattle.rights_books.specs.declared.claim.TakenNumber.{TakenNumber}
use Rattle.rights_books.specs.Lists.{times}
use Rattle.rights_books.specs.Sameness.{same_entry}
use Rattle.nodes.specs.Held.{no_others}
use Rattle.nodes.proofs.Held.{root_there}
use Rattle.geometry.specs.Shape.{block_bytes}
use Rattle.nodes_law.specs.Law.{ragged}
use Rattle.nodes_law.proofs.Serving.{less_token, root_whole}
use Rattle.close_area.proofs.Holding.{hold_last, empty_hand}
use Rattle.close_area.proofs.file.return_file.Goals as goal

pub return_node-requires-clause-held : goal.return_node-requires-clause-held
return_node-requires-clause-held g c =
    let done = c.return_entries.ensures in
    let f = c.return_entries.new.file in
    let hand = c.return_entries.new.hand in
    subst (λ (e : TakenNumber). 0 < times same_entry e hand.tokens) (sym c.into_token.ensures)
    (root_there f done.bare hand.tickets hand.tokens (done.serves.others no_others c.requires.held))

pub return_node-requires-clause-whole : goal.return_node-requires-clause-whole
return_node-requires-clause-whole g c =
    let done = c.return_entries.ensures in
    let f = c.return_entries.new.file in
    ap (ragged (block_bytes g.V.Numbers.GeometryName.geometry.shape)) c.into_token.ensures
    ∙ (ap (λ s. ragged (block_bytes s) f.token) (sym (done.serves.shape ∙ c.requires.shape)) ∙ root_whole f done.law)

pub return_node-requires-clause-book : goal.return_node-requires-clause-book
return_node-requires-clause-book g c = c.return_entries.ensures.serves.book ∙ c.requires.book

pub returns-clause-hand : goal.returns-clause-hand
returns-clause-hand g c =
    let done = c.return_entries.ensures in
    let f = c.return_entries.new.file in
    let old = c.return_entries.new.hand in
    let held = done.serves.others no_others c.requires.held in
    let gone = c.return_node.ensures.hand ∙ ap (λ e. less_token e old) c.into_token.ensures in
    empty_hand g.V.Books.BooksName.books.book f done.bare old held c.return_node.new.hand gone (done.serves.book ∙ c.requires.book)

pub returns-clause-home : goal.returns-clause-home
returns-clause-home g c = λ bytes shown.
    (let one = c.return_node.ensures.home bytes shown in
    let done = c.return_entries.ensures in
    let f = c.return_entries.new.file in
    let before = done.home bytes one.0 in
    let last = subst (λ (e : TakenNumber). 0 < e.address → bytes e.address ≡ e.bytes) c.into_token.ensures one.1 in
    (before.0, before.1, before.2 (hold_last bytes f done.bare c.return_entries.new.hand (done.serves.others no_others c.requires.held) last)))
