-- A number is taken only to make a spare node of it, or is given back at once: so the hand always has the tokens of
-- file and spares, until none is lacking on the way.
use Rattle.std.proofs.Common.{◌<◌, ◌∷◌, ap, sym, subst, ◌∙◌, arith}
use Rattle.rights_books.specs.Accounts.{HandView}
use Rattle.rights_books.specs.declared.claim.TakenNumber.{TakenNumber}
use Rattle.rights_books.specs.Lists.{times}
use Rattle.rights_books.specs.Sameness.{same_entry}
use Rattle.geometry.specs.Shape.{block_bytes}
use Rattle.rights_books.specs.Rules.{bare_entry}
use Rattle.nodes_law.specs.Law.{ragged}
use Rattle.nodes_law.proofs.Lasting.{own_prepared}
use Rattle.file_cells.specs.Beside.{ServesBeside, HasLawBeside}
use Rattle.nodes_law.proofs.Serving.{less_token, first_token, serves_back}
use Rattle.file_cells.proofs.Beside.{beside_both, beside_made, beside_serves}
use Rattle.file_cells.proofs.path.prepare_path.Goals as goal

pub lacking-preserved : goal.lacking-preserved
lacking-preserved g c =
    let f = c.args.file.now in
    let was = c.lacking.invariant.serves in
    let took = c.in_ok-token.ensures in
    let made = c.in-Ok.ensures in
    let step = beside_made f c.lacking.spares c.prepare.new.spares c.lacking.hand c.new_nid.new.hand c.in_ok-token.token c.requires.stored was.spare
    took.hand (let n = took.low in omega arith) made.empty made.tokens in
    let law = c.lacking.invariant.law in
    record {
      serves = beside_both f f f c.args.spares.now c.lacking.spares c.prepare.new.spares c.args.hand.now c.lacking.hand c.new_nid.new.hand was step;
      law = record {
        law = law.law;
        own = own_prepared g.V.Numbers.GeometryName.geometry.files f.shape f.token.number c.lacking.spares c.prepare.new.spares c.in_ok-token.token law.own
            made.tokens (took.token ∙ ap (bare_entry c.in_ok-token.token.number) c.number.ensures) took.low;
      };
    }

pub give_node-requires-clause-held : goal.give_node-requires-clause-held
give_node-requires-clause-held g c =
    let back = c.in-Err.token in
    subst (λ (h : HandView). 0 < times same_entry back h.tokens) (sym c.in_ok-token.ensures.hand)
    (subst (λ (e : TakenNumber). 0 < times same_entry back (e ∷ c.lacking.hand.tokens)) c.in-Err.ensures.token (first_token back c.lacking.hand.tokens))

pub give_node-requires-clause-whole : goal.give_node-requires-clause-whole
give_node-requires-clause-whole g c =
    ap (ragged (block_bytes g.V.Numbers.GeometryName.geometry.shape)) (c.in-Err.ensures.token ∙ c.in_ok-token.ensures.token)

pub give_node-requires-clause-book : goal.give_node-requires-clause-book
give_node-requires-clause-book g c = ap (λ (h : HandView). h.book) c.in_ok-token.ensures.hand ∙ (c.lacking.invariant.serves.book ∙ c.requires.book)

pub new_nid-requires : goal.new_nid-requires
new_nid-requires g c = record { book = c.lacking.invariant.serves.book ∙ c.requires.book }

pub returns-in-Err-clause-serves : goal.returns-in-Err-clause-serves
returns-in-Err-clause-serves g c =
    let f = c.args.file.now in
    let was = c.lacking.invariant.serves in
    let took = c.in_ok-token.ensures in
    let gave = c.give_node.ensures in
    let s = c.lacking.spares in
    let x = c.lacking.hand in
    let y = c.new_nid.new.hand in
    let z = c.give_node.new.hand in
    let back = serves_back f x y z c.in_ok-token.token c.requires.stored took.hand (gave.hand ∙ ap (λ e. less_token e y) c.in-Err.ensures.token) in
    subst (λ t. ServesBeside f f c.args.spares.now t c.args.hand.now z) (sym c.in-Err.ensures.refused)
    (beside_both f f f c.args.spares.now s s c.args.hand.now x z was (beside_serves f f s x z was.spare back))

pub returns-in-Err-clause-law : goal.returns-in-Err-clause-law
returns-in-Err-clause-law g c =
    subst (λ t. HasLawBeside g.V.Numbers.GeometryName.geometry.files c.args.file.now t) (sym c.in-Err.ensures.refused) c.lacking.invariant.law
