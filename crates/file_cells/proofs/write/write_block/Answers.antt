-- The write begins with no spares, so what it serves is the file alone, and all spares that it leaves go back.
use Rattle.std.proofs.Common.{ap, sym, ◌∙◌}
use Rattle.geometry.specs.Path.{node_entries}
use Rattle.geometry.specs.Shape.{block_bytes}
use Rattle.nodes.specs.Change.{unnumbered}
use Rattle.nodes.specs.Lacking.{spare_tokens}
use Rattle.nodes_law.specs.Law.{ragged, strange}
use Rattle.nodes.proofs.Beside.{held_none}
use Rattle.file_cells.proofs.Beside.{spares_there, serves_beside}
use Rattle.file_cells.proofs.write.write_block.Goals as goal

pub write_with-done-requires : goal.write_with-done-requires
write_with-done-requires g c =
    let was = c.requires in
    let none = c.new-spares.ensures.none in
    record {
      file = record {
        book_is = was.book;
        shape_is = was.shape;
        inside = was.inside;
        whole = was.bytes;
        stored = was.stored;
        spare = record { empty = c.new-spares.ensures.empty (node_entries c.args.file.now.shape); numbered = none unnumbered };
        law = record {
          law = was.law;
          own = record { below = none (strange g.V.Numbers.GeometryName.geometry.files c.args.file.now.token.number); whole = none (ragged (block_bytes c.args.file.now.shape)) };
        };
        held = (was.held.0, held_none was.held.0 c.args.file.now c.new-spares.result c.args.hand.now.tickets c.args.hand.now.tokens none was.held.1);
      };
    }

pub give_back-requires-clause-held : goal.give_back-requires-clause-held
give_back-requires-clause-held g c =
    let held = c.requires.held in
    spares_there c.args.file.now c.write_with-done.new.file c.new-spares.result c.write_with-done.new.spares c.args.hand.now c.write_with-done.new.hand
    c.new-spares.ensures.none c.write_with-done.ensures.serves held.0 held.1

pub returns-clause-serves : goal.returns-clause-serves
returns-clause-serves g c =
    let gave = c.give_back.ensures in
    serves_beside c.args.file.now c.write_with-done.new.file c.new-spares.result c.write_with-done.new.spares c.args.hand.now c.write_with-done.new.hand
    c.new-spares.ensures.none c.write_with-done.ensures.serves c.give_back.new.hand gave.tokens gave.tickets gave.book

pub give_back-requires-clause-whole : goal.give_back-requires-clause-whole
give_back-requires-clause-whole g c =
    let done = c.write_with-done.ensures in
    ap (λ s. spare_tokens (ragged (block_bytes s)) c.write_with-done.new.spares) (sym (done.serves.shape ∙ c.requires.shape)) ∙ done.law.own.whole

pub returns-in-Some-clause-law : goal.returns-in-Some-clause-law
returns-in-Some-clause-law g c = c.append_over.ensures.law g.V.Numbers.GeometryName.geometry.files c.requires.law
