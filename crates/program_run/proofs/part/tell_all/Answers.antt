use Rattle.std.proofs.Common.{◌++◌, subst, sym}
use Rattle.std.specs.Io.KnownBytes.{Appends}
use Rattle.std.proofs.KnownBytes.{Appends-trans}
use Rattle.program_run.specs.WorkerLines.{end_line}
use Rattle.program_run.proofs.WorkerTelling.{told_next}
use Rattle.program_run.proofs.part.tell_all.Goals as goal

pub loop-number-preserved : goal.loop-number-preserved
loop-number-preserved g c =
    let contents = g.O.Write.contents in
    let number = c.loop-number.number in
    let now = contents c.loop-number.out in
    let new = contents c.tell_end.new.out in
    let lines = subst (λ text. Appends now new (text ++ end_line number)) c.as_slice.ensures.value
    (Appends-trans now (contents c.write_all.new.self) new c.as_slice.result.now (end_line number) c.in_ok-write_all.ensures.bytes c.in_ok-tell_end.ensures) in
    subst (Appends (contents c.args.out.now) new) (sym (told_next c.args.all.now (λ made. record { what = made.text.items; held = made.lent }) number c.index-all-number.result c.loop-number-test.true c.index-all-number.is))
    (Appends-trans (contents c.args.out.now) now new _ (c.index-all-number.result.text.items ++ end_line number) c.loop-number.invariant lines)
