-- Each test says whether its rule holds, from the names and the map of addresses; they run in the order of the rules,
-- so the first that fails is the least rule broken.
use Rattle.std.proofs.Common.{subst, IsTrue, arith}
use Rattle.std.specs.Prelude.{All}
use Rattle.geometry.specs.declared.owner.Mark.{Mark}
use Rattle.image.specs.Image.{is_marked}
use Rattle.image.specs.Rules.{NamedIsMarked}
use Rattle.image.specs.View.{image_view}
use Rattle.image_checker.proofs.FaultLemmas.{kept_none, kept_more, named_of_map, map_of_named}
use Rattle.image_checker.proofs.faults.named_fault.Goals as goal

pub returns-then-not-marked_are_named : goal.returns-then-not-marked_are_named
returns-then-not-marked_are_named c =
    let g = c.args.geometry.now in
    let i = image_view c.args.image.now in
    let rule7 : NamedIsMarked g i = subst (λ xs. All (λ (n : Mark). IsTrue (is_marked g i n.address)) xs) c.requires.all (c.named_are_marked.ensures.0 c.if-not-named_are_marked.false) in
    record {
      low = omega arith;
      high = omega arith;
      broken = λ named.
          let yes = c.marked_are_named.ensures.1 (map_of_named g i c.args.map.now c.requires.whole c.requires.shown named) in
          let no = c.if-not-marked_are_named.true in cc;
      kept = kept_more g i 7 7 (kept_none g i 7) rule7;
    }

pub returns-then-not-summaries_tell_owners : goal.returns-then-not-summaries_tell_owners
returns-then-not-summaries_tell_owners c =
    let g = c.args.geometry.now in
    let i = image_view c.args.image.now in
    let rule7 : NamedIsMarked g i = subst (λ xs. All (λ (n : Mark). IsTrue (is_marked g i n.address)) xs) c.requires.all (c.named_are_marked.ensures.0 c.if-not-named_are_marked.false) in
    let rule8 = named_of_map g i c.args.map.now c.requires.sized c.requires.whole c.requires.shown (c.marked_are_named.ensures.0 c.if-not-marked_are_named.false) in
    record {
      low = omega arith;
      high = omega arith;
      broken = λ told.
          let yes = c.summaries_tell_owners.ensures.1 told in
          let no = c.if-not-summaries_tell_owners.true in cc;
      kept = kept_more g i 7 8 (kept_more g i 7 7 (kept_none g i 7) rule7) rule8;
    }

pub returns-then-not-numbers_agree : goal.returns-then-not-numbers_agree
returns-then-not-numbers_agree c =
    let g = c.args.geometry.now in
    let i = image_view c.args.image.now in
    let rule7 : NamedIsMarked g i = subst (λ xs. All (λ (n : Mark). IsTrue (is_marked g i n.address)) xs) c.requires.all (c.named_are_marked.ensures.0 c.if-not-named_are_marked.false) in
    let rule8 = named_of_map g i c.args.map.now c.requires.sized c.requires.whole c.requires.shown (c.marked_are_named.ensures.0 c.if-not-marked_are_named.false) in
    let rule9 = c.summaries_tell_owners.ensures.0 c.if-not-summaries_tell_owners.false in
    record {
      low = omega arith;
      high = omega arith;
      broken = λ agree.
          let yes = c.numbers_agree.ensures.1 agree in
          let no = c.if-not-numbers_agree.true in cc;
      kept = kept_more g i 7 9 (kept_more g i 7 8 (kept_more g i 7 7 (kept_none g i 7) rule7) rule8) rule9;
    }

pub returns : goal.returns
returns c =
    let g = c.args.geometry.now in
    let i = image_view c.args.image.now in
    let rule7 : NamedIsMarked g i = subst (λ xs. All (λ (n : Mark). IsTrue (is_marked g i n.address)) xs) c.requires.all (c.named_are_marked.ensures.0 c.if-not-named_are_marked.false) in
    let rule8 = named_of_map g i c.args.map.now c.requires.sized c.requires.whole c.requires.shown (c.marked_are_named.ensures.0 c.if-not-marked_are_named.false) in
    let rule9 = c.summaries_tell_owners.ensures.0 c.if-not-summaries_tell_owners.false in
    let rule10 = c.numbers_agree.ensures.0 c.if-not-numbers_agree.false in
    kept_more g i 7 10 (kept_more g i 7 9 (kept_more g i 7 8 (kept_more g i 7 7 (kept_none g i 7) rule7) rule8) rule9) rule10
