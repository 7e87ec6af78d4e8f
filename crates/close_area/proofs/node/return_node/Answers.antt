use Rattle.std.proofs.Common.{sym, subst, ◌∙◌}
use Rattle.geometry.specs.Shape.{block_bytes}
use Rattle.nodes_law.proofs.Serving.{given_there, given_whole, given_none, given_some}
use Rattle.area_emptying.specs.Home.{AreAtHome}
use Rattle.close_area.proofs.Holding.{hold_node, hold_no_node}
use Rattle.close_area.proofs.node.return_node.Goals as goal

pub release-requires-clause-held : goal.release-requires-clause-held
release-requires-clause-held g c = given_there c.args.token c.args.hand.now c.give.new.hand c.in-Some.ticket (sym c.in-Some.ensures.ticket) c.in-Some.ensures.hand

pub release-requires-clause-bytes : goal.release-requires-clause-bytes
release-requires-clause-bytes g c = given_whole c.args.token c.args.hand.now c.give.new.hand c.in-Some.ticket (sym c.in-Some.ensures.ticket) (block_bytes g.V.Numbers.GeometryName.geometry.shape) c.requires.whole

pub returns-in-Some-clause-hand : goal.returns-in-Some-clause-hand
returns-in-Some-clause-hand g c = c.release.ensures.hand ∙ given_some c.args.token c.args.hand.now c.give.new.hand c.in-Some.ticket (sym c.in-Some.ensures.ticket) c.in-Some.ensures.hand

pub returns-in-Some-clause-home : goal.returns-in-Some-clause-home
returns-in-Some-clause-home g c bytes shown =
    let back = c.release.ensures.home bytes shown in
    (subst (AreAtHome bytes) c.in-Some.ensures.segments back.0, hold_node bytes c.args.token c.in-Some.ticket (sym c.in-Some.ensures.ticket) back.1)

pub returns-in_default : goal.returns-in_default
returns-in_default g c = record {
  hand = given_none c.args.token c.args.hand.now c.give.new.hand (sym c.in_default.ensures.ticket) c.in_default.ensures.hand;
  home = λ bytes shown. (subst (AreAtHome bytes) c.in_default.ensures.segments shown, hold_no_node bytes c.args.token (sym c.in_default.ensures.ticket));
}
