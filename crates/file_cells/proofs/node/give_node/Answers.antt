use Rattle.std.proofs.Common.{sym, ◌∙◌}
use Rattle.geometry.specs.Shape.{block_bytes}
use Rattle.nodes_law.proofs.Serving.{given_there, given_whole, given_none, given_some}
use Rattle.file_cells.proofs.node.give_node.Goals as goal

pub release-requires-clause-held : goal.release-requires-clause-held
release-requires-clause-held g c = given_there c.args.token c.args.hand.now c.give.new.hand c.in-Some.ticket (sym c.in-Some.ensures.ticket) c.in-Some.ensures.hand

pub release-requires-clause-bytes : goal.release-requires-clause-bytes
release-requires-clause-bytes g c = given_whole c.args.token c.args.hand.now c.give.new.hand c.in-Some.ticket (sym c.in-Some.ensures.ticket) (block_bytes g.V.Numbers.GeometryName.geometry.shape) c.requires.whole

pub returns-in-Some : goal.returns-in-Some
returns-in-Some g c = record {
  hand = c.release.ensures.hand ∙ given_some c.args.token c.args.hand.now c.give.new.hand c.in-Some.ticket (sym c.in-Some.ensures.ticket) c.in-Some.ensures.hand;
}

pub returns-in_default : goal.returns-in_default
returns-in_default g c = record { hand = given_none c.args.token c.args.hand.now c.give.new.hand (sym c.in_default.ensures.ticket) c.in_default.ensures.hand }
