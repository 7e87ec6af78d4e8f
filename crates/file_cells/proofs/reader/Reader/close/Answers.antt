use Rattle.std.proofs.Common.{◌∙◌, ◌+◌, ◌<◌, length, sym, subst, arith}
use Rattle.words.specs.declared.claim.Pins.{Pins}
use Rattle.file_cells.proofs.Noted.{AreLetGo, let_go_kept, let_go_one, let_go_all, noted_at}
use Rattle.file_cells.proofs.reader.Reader.close.Goals as goal
use Rattle.file_cells.proofs.reader.Reader.close.Goals.{then-index, else-index}

pub loop-segment-preserved : goal.loop-segment-preserved
loop-segment-preserved g c =
    let xs = c.self.inside.pinned.items in
    let k = c.loop-segment.segment in
    let old = c.loop-segment.seat in
    let within : k < length xs = let e = c.len-segment-end.ensures in let t = c.loop-segment-test.true in omega arith in
    let read = noted_at xs k c.index.result.now within c.index.ensures in
    elim c.if-index.branch [
      | then-index w ↦
          subst (λ (p : Pins). AreLetGo xs (k + 1) p.held) (sym w.seat-is) (let_go_one xs k old w.unpin.new.self c.loop-segment.invariant (read ∙ w.if-index.true) w.unpin.ensures).1
      | else-index w ↦
          subst (λ (p : Pins). AreLetGo xs (k + 1) p.held) (sym w.seat-is) (let_go_kept xs k old.held c.loop-segment.invariant (read ∙ w.if-index.false))
    ]

pub invariant_of-result : goal.invariant_of-result
invariant_of-result g c =
    let xs = c.self.inside.pinned.items in
    let_go_all xs c.loop-segment.segment c.loop-segment.seat.held (let e = c.len-segment-end.ensures in let t = c.loop-segment-test.false in omega arith) c.loop-segment.invariant

pub returns : goal.returns
returns g c =
    let xs = c.self.inside.pinned.items in
    let_go_all xs c.loop-segment.segment c.loop-segment.seat.held (let e = c.len-segment-end.ensures in let t = c.loop-segment-test.false in omega arith) c.loop-segment.invariant
