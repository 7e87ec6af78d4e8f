use Rattle.std.proofs.Common.{ap, inl, inr, refl}
use Rattle.std.specs.Io.KnownBytes.{Appends}
use Rattle.program_run.specs.Files.{reader_at, shown_by}
use Rattle.program_run.specs.Lines.{look_line, refusal_line}
use Rattle.program_run.specs.Work.{IsLooked, Wrote}
use Rattle.program_run.proofs.OnOk.{on_ok}
use Rattle.program_run.proofs.work.tell_look.Goals as goal

pub returns-in-Ok-clause-told : goal.returns-in-Ok-clause-told
returns-in-Ok-clause-told g c =
    let files = c.args.session.now in
    let reader = c.args.reader in
    let old = g.W.Write.contents c.args.out.now in
    let new = g.W.Write.contents c.tell_shown.new.out in
    let line = look_line files.geometry.shape reader (shown_by (reader_at files reader)) in
    on_ok c.tell_shown.result (Appends old new line) (Wrote (IsLooked files reader) old new)
    (λ told. record { line = line; is_line = inl (c.in-Ok.ensures.length.0, refl); told = told }) c.tell_shown.ensures.told

pub returns-in-Err-clause-told : goal.returns-in-Err-clause-told
returns-in-Err-clause-told g c =
    let files = c.args.session.now in
    let reader = c.args.reader in
    let old = g.W.Write.contents c.args.out.now in
    let new = g.W.Write.contents c.tell_refusal.new.out in
    on_ok c.tell_refusal.result (Appends old new (refusal_line c.in-Err.error)) (Wrote (IsLooked files reader) old new)
    (λ told. record { line = refusal_line c.in-Err.error; is_line = inr (c.in-Err.ensures.none, ap refusal_line c.in-Err.ensures.error); told = told }) c.tell_refusal.ensures
