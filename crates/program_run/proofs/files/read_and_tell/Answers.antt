use Rattle.std.proofs.Common.{List, ℕ, subst}
use Rattle.program_run.proofs.OnOk.{on_ok}
use Rattle.program_run.specs.Checking.{IsDeviceOf, TellsFiles}
use Rattle.program_run.specs.Ending.{ToldParts}
use Rattle.program_run.specs.Reading.{IsEnoughOf, IsWhole}
use Rattle.program_run.proofs.Front.{if_some, whole_is_all}
use Rattle.program_run.proofs.Memory.{address, content, seen}
use Rattle.program_run.proofs.files.read_and_tell.Goals as goal

pub returns-clause-told : goal.returns-clause-told
returns-clause-told g c =
    let parts = c.in_ok-parts.parts in
    let input = g.R.Read.remaining c.args.input.now in
    let old = g.W.Write.contents c.args.out.now in
    let new = g.W.Write.contents c.tell_parts.new.out in
    let read = c.in_ok-file.file.items in
    let P = λ (bytes : List ℕ). IsDeviceOf seen address content bytes parts in
    let whole = subst IsWhole c.as_slice.ensures.value c.in_ok-parts.ensures.whole in
    let device = subst P c.as_slice.ensures.value c.in_ok-parts.ensures.device in
    on_ok c.tell_parts.result (ToldParts seen content parts old new) (TellsFiles seen address content input old new)
    (λ told. record {
      parts = parts;
      device = if_some input (IsEnoughOf read) P (λ file enough. subst P (whole_is_all read file enough whole) device) c.in_ok-file.ensures;
      told = told;
    }) c.tell_parts.ensures.told
