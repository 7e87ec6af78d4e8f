-- The visit changes one token at most, in the file as in the hand: where it was moved its bytes stay the same, and
-- where there was none the file and the hand are as they were.
use Rattle.std.proofs.Common.{rules, ap, sym, ◌∙◌, subst, inl, inr}
use Rattle.std.proofs.lemmas.Bool.{cases_Bool}
use Rattle.geometry.specs.Shape.{block_bytes}
use Rattle.nodes.specs.File.{weight_of}
use Rattle.nodes.specs.Useful.{each_node}
use Rattle.nodes_law.proofs.Serving.{same_file}
use Rattle.cleaning.specs.Moves.{IsMovable}
use Rattle.cleaning.proofs.Lawful.{law_moved}
use Rattle.cleaning.proofs.Served.{served_stays}
use Rattle.cleaning.proofs.Moving.{nodes_movable, carries, fares, serves_moved, serves_given, given, stays_even}
use Rattle.cleaning.proofs.node.migrate_node.Goals as goal

pub visit_node-requires-clause-ready : goal.visit_node-requires-clause-ready
visit_node-requires-clause-ready g c = λ n numbered among. (
  c.requires.file.book_is,
  c.requires.file.some,
  c.requires.file.room ∙ ap block_bytes c.requires.file.shape_is,
  search rules,
  numbered,
  subst (λ k. IsMovable k n.token c.args.hand.now) (ap block_bytes c.requires.file.shape_is)
      (nodes_movable c.args.file.now c.args.hand.now c.requires.file.stored c.requires.file.law c.requires.file.held.0 c.requires.file.held.1 n among),
)

pub returns-in-Ok-clause-served : goal.returns-in-Ok-clause-served
returns-in-Ok-clause-served g c =
    let files = g.V.Numbers.GeometryName.geometry.files in
    let was = c.requires.file in
    let done = c.in-Ok.ensures in
    let kept = done.kept in
    let old = c.args.file.now in
    let new = c.visit_node.new.file in
    let x = c.args.hand.now in
    let y = c.visit_node.new.visitor.hand.now in
    elim (cases_Bool c.in-Ok.field-0) [
      | inl found ↦ (
          let one = done.visited found in
          let name = one.3.0 in
          let fared = fares c.args.address one.0.token one.1 x y c.visit_node.new.visitor.fate one.3.2 in
          record {
            serves = serves_given old new x _ y (search (rules, name))
                (serves_moved old new x y was.stored kept.file kept.shape_is kept.kind_is kept.length_is kept.number kept.same kept.namer one.0 one.1 one.2
                c.args.address fared was.law);
            law = law_moved files old new was.law kept.shape_is kept.number one.0 one.1 one.2 (carries c.args.address one.0.token one.1 x y was.some fared);
            useful = kept.useful each_node;
            file = same_file old new was.stored kept.file kept.shape_is kept.kind_is kept.length_is kept.same;
          })
      | inr missing ↦ (
          let none = done.none missing in
          let name = ap (λ v. v.hand.ghost_name) none.2 in
          served_stays files old new x _ was.stored was.law none.1 (given _ y x (search (rules, name)) (ap (λ v. v.hand.now) none.2)))
    ]

pub returns-in-Err-clause-served : goal.returns-in-Err-clause-served
returns-in-Err-clause-served g c =
    let refused = c.in-Err.ensures.refused in
    let name = refused.3.0 in
    served_stays g.V.Numbers.GeometryName.geometry.files c.args.file.now c.visit_node.new.file c.args.hand.now _ c.requires.file.stored c.requires.file.law refused.0
    (given _ c.visit_node.new.visitor.hand.now c.args.hand.now (search (rules, name)) refused.3.1)

pub returns-in-Ok-clause-moved : goal.returns-in-Ok-clause-moved
returns-in-Ok-clause-moved g c = λ is.
    (let done = c.in-Ok.ensures in
    elim (cases_Bool c.in-Ok.field-0) [
      | inl found ↦ (
          let one = done.visited found in
          elim one.3.2 [
            | inl stays ↦ (let gone = stays.0 in absurd (cc))
            | inr moves ↦ (one.0, one.1, record { number = one.3.1; one = one.2; elsewhere = moves.1.elsewhere })
          ])
      | inr missing ↦ (let gone = ap (λ v. v.fate) (done.none missing).2 in absurd (cc))
    ])

pub returns-in-Ok-clause-gone : goal.returns-in-Ok-clause-gone
returns-in-Ok-clause-gone g c = λ is.
    (let done = c.in-Ok.ensures in
    elim (cases_Bool c.in-Ok.field-0) [
      | inl found ↦ (
          let one = done.visited found in
          let name = one.3.0 in
          elim one.3.2 [
            | inl stays ↦ (inr (one.0, one.2.among, one.3.1, stays.1), stays_even c.args.file.now c.visit_node.new.file one.0 one.1 one.2 stays.2, given _ c.visit_node.new.visitor.hand.now c.args.hand.now (search (rules, name)) stays.3)
            | inr moves ↦ (let moved = moves.0 in absurd (cc))
          ])
      | inr missing ↦ (
          let none = done.none missing in
          let name = ap (λ v. v.hand.ghost_name) none.2 in
          let kept = ap (λ v. v.hand.now) none.2 in
          (inl none.0, λ w. ap (λ f. weight_of f w) none.1, given _ c.visit_node.new.visitor.hand.now c.args.hand.now (search (rules, name)) kept))
    ])
