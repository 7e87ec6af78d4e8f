use Rattle.std.proofs.Common.{ap, ◌∙◌, arith}
use Rattle.geometry.specs.Weights.{weigh}
use Rattle.geometry.specs.Shape.{block_bytes}
use Rattle.rights_books.specs.Accounts.{HandView}
use Rattle.rights_books.proofs.Steps.{without_entry}
use Rattle.nodes.proofs.Beside.{spare_there}
use Rattle.nodes_law.specs.Law.{ragged}
use Rattle.file_cells.proofs.path.give_back.Goals as goal

pub give_node-requires-clause-held : goal.give_node-requires-clause-held
give_node-requires-clause-held g c =
    spare_there c.spares.spares c.give_back.new.self c.in-Some.token c.spares.hand.tokens c.spares.invariant.held c.in-Some.ensures.token

pub give_node-requires-clause-whole : goal.give_node-requires-clause-whole
give_node-requires-clause-whole g c =
    let all = c.in-Some.ensures.token (ragged (block_bytes g.V.Numbers.GeometryName.geometry.shape)) in
    let none = c.spares.invariant.whole in omega arith

pub give_node-requires-clause-book : goal.give_node-requires-clause-book
give_node-requires-clause-book g c = c.spares.invariant.book ∙ c.requires.book

pub spares-preserved : goal.spares-preserved
spares-preserved g c =
    let was = c.spares.invariant in
    let done = c.in-Some.ensures in
    let gave = c.give_node.ensures in
    let k = c.in-Some.token in
    let entries = c.spares.hand.tokens in
    let there = spare_there c.spares.spares c.give_back.new.self k entries was.held done.token in
    record {
      empty = (was.empty.0, done.empty was.empty.0 was.empty.1);
      whole = let all = done.token (ragged (block_bytes g.V.Numbers.GeometryName.geometry.shape)) in let none = was.whole in omega arith;
      held = λ h. (let all = was.held h in let one = done.token h in let less = without_entry h k entries there in
          let now = ap (λ (v : HandView). weigh h v.tokens) gave.hand in omega arith);
      tokens = λ h. (let all = was.tokens h in let one = done.token h in let less = without_entry h k entries there in
          let now = ap (λ (v : HandView). weigh h v.tokens) gave.hand in omega arith);
      tickets = ap (λ (v : HandView). v.tickets) gave.hand ∙ was.tickets;
      book = ap (λ (v : HandView). v.book) gave.hand ∙ was.book;
    }
