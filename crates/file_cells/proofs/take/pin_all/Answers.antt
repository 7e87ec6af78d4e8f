-- Segment by segment, each that is noted gets its one pin: a block whose ticket is lodged lies in it.
use Rattle.std.proofs.Common.{◌∙◌, ◌+◌, sym, subst}
use Rattle.words.specs.declared.claim.Pins.{Pins}
use Rattle.file_cells.proofs.Noted.{ArePinnedTo, pinned_kept, pinned_one}
use Rattle.file_cells.proofs.take.pin_all.Goals as goal
use Rattle.file_cells.proofs.take.pin_all.Goals.{then-noted-segment, else-noted-segment}

pub loop-segment-preserved : goal.loop-segment-preserved
loop-segment-preserved g c =
    let noted = c.args.noted.now in
    let k = c.loop-segment.segment in
    let old = c.loop-segment.seat in
    elim c.if-noted-segment.branch [
      | then-noted-segment w ↦ record {
        account = w.account-is ∙ (w.pin_segment.ensures.account ∙ c.loop-segment.invariant.account);
        so = subst (λ (p : Pins). ArePinnedTo noted (k + 1) p.held) (sym w.seat-is)
            (pinned_one noted k w.pin_segment.ensures.pins.0 old w.pin_segment.new.seat c.loop-segment.invariant.so w.if-noted-segment.true w.pin_segment.ensures.pins.1);
      }
      | else-noted-segment w ↦ record {
        account = w.account-is ∙ c.loop-segment.invariant.account;
        so = subst (λ (p : Pins). ArePinnedTo noted (k + 1) p.held) (sym w.seat-is) (pinned_kept noted k old.held c.loop-segment.invariant.so w.if-noted-segment.false);
      }
    ]
