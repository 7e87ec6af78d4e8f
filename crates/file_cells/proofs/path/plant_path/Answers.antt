-- Each plant moves one spare node into the file and leaves tickets and owners as they were; when none is planted any
-- more, none is missing on the way, so the path is there.
use Rattle.std.proofs.Common.{ap, sym, subst, ◌∙◌, arith, Some}
use Rattle.nodes.specs.File.{file_of}
use Rattle.nodes.specs.Owners.{namer_at}
use Rattle.nodes.specs.Useful.{IsUseful, is_off}
use Rattle.nodes.proofs.Useful.{off_spares}
use Rattle.file_cells.specs.Beside.{ServesBeside, HasLawBeside}
use Rattle.nodes_law.proofs.Serving.{same_file}
use Rattle.file_cells.proofs.Beside.{beside_both, beside_planted, stored_planted, spare_planted}
use Rattle.file_cells.proofs.Lawful.{lawful_planted}
use Rattle.file_cells.proofs.path.plant_path.Goals as goal

pub ready-preserved : goal.ready-preserved
ready-preserved g c =
    let was = c.ready.invariant in
    let done = c.plant.ensures in
    let one = done.change c.ready-test.true in
    let first = c.args.file.now in
    let old = c.ready.file in
    let new = c.plant.new.self in
    let had = c.args.spares.now in
    let s = c.ready.spares in
    let t = c.plant.new.spares in
    record {
      serves = λ hand. beside_both first old new had s t hand hand hand (was.serves hand)
          (beside_planted old new s t hand was.stored was.spare done.file done.shape done.kind done.length done.same done.namer done.empty one.0 one.2 one.3);
      law = λ files at_first. lawful_planted files old new s t (was.law files at_first) done.shape one.0 one.1.1 one.2 one.3;
      stored = stored_planted old new s t was.stored was.spare done.file done.shape done.kind done.length done.same done.namer one.0 one.2 one.3;
      spare = spare_planted old new s t was.spare done.shape done.empty one.0 one.3;
      shape = done.shape ∙ was.shape;
      file = same_file old new was.stored done.file done.shape done.kind done.length done.same ∙ was.file;
      names = λ j n at. done.namer j n (was.names j n at);
      end = λ gone none. (let more = done.grown c.ready-test.true in done.end (omega arith) none ∙ ap (λ n. Some n) (was.rest (omega arith)).1);
      rest = λ gone. (let more = done.grown c.ready-test.true in let before = was.rest (omega arith) in (before.0, done.rest gone ∙ before.1));
      useful = λ off. done.useful (is_off c.args.index) (off_spares c.args.index) (was.useful off);
      ready = done.ready;
    }

pub returns-clause-serves : goal.returns-clause-serves
returns-clause-serves g c = λ hand.
    (let kept = c.plant.ensures.none c.ready-test.false in
    subst (λ f. ServesBeside c.args.file.now f c.args.spares.now c.plant.new.spares hand hand) (sym kept.1)
    (subst (λ s. ServesBeside c.args.file.now c.ready.file c.args.spares.now s hand hand) (sym kept.2) (c.ready.invariant.serves hand)))

pub returns-clause-file : goal.returns-clause-file
returns-clause-file g c =
    let kept = c.plant.ensures.none c.ready-test.false in
    ap file_of kept.1 ∙ c.ready.invariant.file

pub returns-clause-names : goal.returns-clause-names
returns-clause-names g c =
    let kept = c.plant.ensures.none c.ready-test.false in
    λ j n at. ap (λ f. namer_at f j) kept.1 ∙ c.ready.invariant.names j n at

pub returns-clause-end : goal.returns-clause-end
returns-clause-end g c = λ gone.
    (let kept = c.plant.ensures.none c.ready-test.false in
    ap (λ f. namer_at f c.args.index) kept.1 ∙ c.ready.invariant.end gone kept.0)

pub returns-clause-law : goal.returns-clause-law
returns-clause-law g c = λ files at_first.
    (let kept = c.plant.ensures.none c.ready-test.false in
    subst (λ f. HasLawBeside files f c.plant.new.spares) (sym kept.1)
    (subst (λ s. HasLawBeside files c.ready.file s) (sym kept.2) (c.ready.invariant.law files at_first)))

pub returns-clause-useful : goal.returns-clause-useful
returns-clause-useful g c = λ off.
    (let kept = c.plant.ensures.none c.ready-test.false in
    subst (λ f. IsUseful (is_off c.args.index) f) (sym kept.1) (c.ready.invariant.useful off))
