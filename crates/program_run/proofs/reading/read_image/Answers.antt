use Rattle.std.proofs.Common.{subst}
use Rattle.geometry.specs.declared.geometry.Geometry.{Geometry}
use Rattle.pack_tables.specs.Grammar.{HasSuper}
use Rattle.program_run.specs.Reading.{IsEnoughOf}
use Rattle.program_run.proofs.Front.{front_is_enough, if_consumed}
use Rattle.program_run.proofs.reading.read_image.Goals as goal

pub returns-in-Err : goal.returns-in-Err
returns-in-Err g c =
    let front = c.in_ok-front.front.items in
    let after = g.R.Read.remaining c.read_up_to.new.input in
    if_consumed (g.R.Read.remaining c.args.input.now) after front (IsEnoughOf front) c.in_ok-front.ensures.read
    (front_is_enough after front c.in_ok-front.ensures.all (subst (λ bytes. (geometry : Geometry) → ¬ HasSuper geometry bytes) c.as_slice.ensures.value c.in-Err.ensures.err.1))
