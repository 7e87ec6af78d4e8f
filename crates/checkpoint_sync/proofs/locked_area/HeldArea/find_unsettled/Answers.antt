use Rattle.std.proofs.Common.{◌≡◌, ◌+◌, List, Some, length, slice_get, subst, sym, ap, ◌∙◌, arith}
use Rattle.std.proofs.lemmas.List.{length-set}
use Rattle.std.proofs.lemmas.Option.{slice_get_read}
use Rattle.sit.specs.Registered.{Registered}
use Rattle.area.specs.declared.unsettled.SegmentTask.{SegmentTask}
use Rattle.checkpoint_image.proofs.Places.{below_length}
use Rattle.checkpoint_sync.specs.LocksHeld.{AreaView}
use Rattle.checkpoint_sync.proofs.Turned.{AreFound, found_more}
use Rattle.checkpoint_sync.proofs.locked_area.HeldArea.find_unsettled.Goals as goal

pub loop-number-preserved : goal.loop-number-preserved
loop-number-preserved g c =
    let segments = c.args.self.now.segments in
    let turns : List SegmentTask = c.loop-number.unsettled.turns.items in
    let number = c.loop-number.number in
    let here = c.index.result.now in
    let rows : c.self.inside.segments.items ≡ segments = ap (λ (a : AreaView). a.segments) c.self.view_is in
    let count : c.len-number-end.result ≡ length c.self.inside.segments.items = let told = c.len-number-end.ensures in let long = c.self.inside.segments.ok in omega (arith, told, long) in
    let read = slice_get_read c.self.inside.segments.items c.len-number-end.result number here count c.loop-number-test.true c.index.ensures in
    record {
      count = ap (λ (ts : List SegmentTask). length ts) c.find.ensures ∙ (length-set turns number c.turn.result ∙ c.loop-number.invariant.count);
      found = subst (λ (ts : List SegmentTask). AreFound segments ts (number + 1)) (sym c.find.ensures)
          (found_more segments turns number here c.turn.result (subst (λ (xs : List Registered). slice_get xs number ≡ Some here) rows read)
          (record { keep = c.turn.ensures.keep; free = c.turn.ensures.free }) c.loop-number.invariant.found);
    }

pub returns-clause-found : goal.returns-clause-found
returns-clause-found g c =
    let same : length c.self.inside.segments.items ≡ length c.args.self.now.segments = ap (λ (a : AreaView). length a.segments) c.self.view_is in
    let all = c.len-number-end.ensures in
    let long = c.self.inside.segments.ok in
    let done = c.loop-number-test.false in
    λ k r other there within. let last = below_length c.args.self.now.segments k r there in c.loop-number.invariant.found k r other (omega arith) there within
