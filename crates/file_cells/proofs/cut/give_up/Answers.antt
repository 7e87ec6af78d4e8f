-- Cut to nothing, the file has its inode's token alone; that is given back too, and in hand is left exactly what others
-- have.
use Rattle.std.proofs.Common.{◌<◌, refl, ap, sym, subst, ◌∙◌, arith}
use Rattle.geometry.specs.Weights.{weigh}
use Rattle.rights_books.specs.Accounts.{HandView}
use Rattle.rights_books.specs.declared.claim.TakenNumber.{TakenNumber}
use Rattle.rights_books.specs.Lists.{times}
use Rattle.rights_books.specs.Sameness.{same_entry}
use Rattle.rights_books.proofs.Steps.{without_entry}
use Rattle.nodes.specs.Change.{of_tickets, of_tokens}
use Rattle.nodes.proofs.Held.{bare_weighs, root_there}
use Rattle.geometry.specs.Shape.{block_bytes}
use Rattle.nodes_law.specs.Law.{ragged}
use Rattle.nodes_law.proofs.Serving.{less_token, root_whole}
use Rattle.file_cells.proofs.cut.give_up.Goals as goal

pub cut_blocks-requires : goal.cut_blocks-requires
cut_blocks-requires g c = record { file = c.requires.file }

pub give_node-requires-clause-held : goal.give_node-requires-clause-held
give_node-requires-clause-held g c =
    let held = c.requires.file.held in
    let cut = c.cut_blocks.ensures in
    let f = c.cut_blocks.new.file in
    let hand = c.cut_blocks.new.hand in
    subst (λ (e : TakenNumber). 0 < times same_entry e hand.tokens) (sym c.into_token.ensures)
    (root_there f (cut.bare refl) hand.tickets hand.tokens (cut.serves.others held.0 held.1))

pub give_node-requires-clause-whole : goal.give_node-requires-clause-whole
give_node-requires-clause-whole g c =
    let cut = c.cut_blocks.ensures in
    let f = c.cut_blocks.new.file in
    ap (ragged (block_bytes g.V.Numbers.GeometryName.geometry.shape)) c.into_token.ensures
    ∙ (ap (λ s. ragged (block_bytes s) f.token) (sym (cut.serves.shape ∙ c.requires.file.shape_is)) ∙ root_whole f cut.law)

pub give_node-requires-clause-book : goal.give_node-requires-clause-book
give_node-requires-clause-book g c = c.cut_blocks.ensures.serves.book ∙ c.requires.file.book_is

pub returns-clause-tickets : goal.returns-clause-tickets
returns-clause-tickets g c = λ others was h.
    let cut = c.cut_blocks.ensures in
    let f = c.cut_blocks.new.file in
    let now = (cut.serves.others others was).tickets h in
    let none = bare_weighs f (cut.bare refl) (of_tickets (λ t. h t.mark)) in
    let hand = ap (λ (v : HandView). weigh h v.tickets) c.give_node.ensures.hand in
    omega arith

pub returns-clause-tokens : goal.returns-clause-tokens
returns-clause-tokens g c = λ others was h.
    let cut = c.cut_blocks.ensures in
    let f = c.cut_blocks.new.file in
    let old = c.cut_blocks.new.hand in
    let held = cut.serves.others others was in
    let now = held.tokens h in
    let none = bare_weighs f (cut.bare refl) (of_tokens h) in
    let there = root_there f (cut.bare refl) old.tickets old.tokens held in
    let less = without_entry h f.token old.tokens there in
    let hand = ap (λ (v : HandView). weigh h v.tokens) (c.give_node.ensures.hand ∙ ap (λ e. less_token e old) c.into_token.ensures) in
    omega arith
