-- Index by index one block goes, and all others stay; past the length nothing stood. So the file is the one with holes there.
use Rattle.std.proofs.Common.{◌≡◌, ◌≤◌, ◌<◌, min, refl, ap, ◌∙◌, inl, inr, arith}
use Rattle.std.proofs.lemmas.Bool.{cases_eq, cases_lt}
use Rattle.nodes.specs.File.{ticket_at}
use Rattle.file_cells.proofs.Erasing.{file_erased}
use Rattle.nodes_law.proofs.Serving.{serves_not, serves_both}
use Rattle.file_cells.proofs.erase.erase_blocks.Goals as goal

pub returns-clause-file : goal.returns-clause-file
returns-clause-file g c =
    let was = c.loop-index.invariant in
    let old = c.args.file.now in
    let new = c.loop-index.file in
    let test : c.min-end.result ≤ c.loop-index.index = c.loop-index-test.false in
    let end : c.min-end.result ≡ min c.args.to old.length = rw c.length.ensures at c.min-end.ensures in
    file_erased old new c.requires.file.stored.file was.serves.stored.file was.kind was.length c.args.from c.args.to
    (λ j from to. elim (cases_lt j c.min-end.result) [
      | inl lt ↦ was.gone j from (omega arith)
      | inr ge ↦ was.serves.stored.file.within j (let length = was.length in omega arith)
    ])
    (λ j out. was.others j (λ from lt. (let reached = was.reached in elim out [ inl low ↦ absurd (omega arith) | inr past ↦ absurd (omega arith) ])))

pub loop-index-init : goal.loop-index-init
loop-index-init g c = record {
  law = c.requires.file.law;
  serves = serves_not c.args.file.now c.args.hand.now c.requires.file.stored;
  gone = λ j from lt. absurd (omega arith);
  others = λ j out. refl;
  length = refl;
  kind = refl;
  reached = omega arith;
  useful = λ all. all;
}

pub erase_block-requires-clause-file : goal.erase_block-requires-clause-file
erase_block-requires-clause-file g c =
    let was = c.loop-index.invariant in
    let file = c.requires.file in
    record {
      book_is = was.serves.book ∙ file.book_is;
      shape_is = was.serves.shape ∙ file.shape_is;
      stored = was.serves.stored;
      law = was.law;
      held = (file.held.0, was.serves.others file.held.0 file.held.1);
    }

pub loop-index-preserved : goal.loop-index-preserved
loop-index-preserved g c =
    let was = c.loop-index.invariant in
    let done = c.erase_block.ensures in
    let i = c.loop-index.index in
    let low : c.args.from ≤ i = c.loop-index.auto.index in
    record {
      law = done.law;
      serves = serves_both c.args.file.now c.loop-index.file c.erase_block.new.file c.args.hand.now c.loop-index.hand c.erase_block.new.hand was.serves done.serves;
      gone = λ j from lt. elim (cases_eq j i) [
        | inl e ↦ ap (ticket_at c.erase_block.new.file) e ∙ done.hole.0
        | inr ne ↦ done.hole.1 j ne ∙ was.gone j from (omega arith)
      ];
      others = λ j out. done.hole.1 j (λ e. out (omega arith) (omega arith)) ∙ was.others j (λ from lt. out from (omega arith));
      length = done.length ∙ was.length;
      kind = done.kind ∙ was.kind;
      reached = (let near : i < c.min-end.result = c.loop-index-test.true in omega arith);
      useful = λ all. done.useful (was.useful all);
    }
