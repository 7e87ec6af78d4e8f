use Rattle.std.proofs.Common.{subst}
use Rattle.pack_tables.specs.File.{IsFileRefusal}
use Rattle.program_run.specs.Checking.{HoldsLawfulImage}
use Rattle.program_run.specs.Reading.{IsEnoughOf}
use Rattle.program_run.proofs.Front.{if_some, image_is_known, refusal_is_known}
use Rattle.program_run.proofs.check.read_and_tell.Goals as goal

pub returns-clause-lawful : goal.returns-clause-lawful
returns-clause-lawful g c =
    λ done.
    let tells = c.in_ok-status.ensures.lawful done in
    let read = c.in_ok-file.file.items in
    let P = HoldsLawfulImage tells.geometry tells.image in
    record {
      geometry = tells.geometry;
      image = tells.image;
      held = if_some (g.R.Read.remaining c.args.input.now) (IsEnoughOf read) P (λ file enough. image_is_known read file enough tells.geometry tells.image (subst P c.as_slice.ensures.value tells.held)) c.in_ok-file.ensures;
      told = tells.told;
    }

pub returns-clause-refused : goal.returns-clause-refused
returns-clause-refused g c =
    λ refused.
    let tells = c.in_ok-status.ensures.refused refused in
    let read = c.in_ok-file.file.items in
    record {
      error = tells.error;
      cause = if_some (g.R.Read.remaining c.args.input.now) (IsEnoughOf read) (λ bytes. IsFileRefusal bytes tells.error)
          (λ file enough. refusal_is_known read file enough tells.error (subst (λ bytes. IsFileRefusal bytes tells.error) c.as_slice.ensures.value tells.cause)) c.in_ok-file.ensures;
      told = tells.told;
    }
