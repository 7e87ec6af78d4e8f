use Rattle.program_run.proofs.Wrapped.{size_of_ok}
use Rattle.program_run.proofs.disk.new_parts.Goals as goal

pub returns-in-Ok-clause-size : goal.returns-in-Ok-clause-size
returns-in-Ok-clause-size c =
    size_of_ok _ _ _ (λ m. m.inner) (λ b. b.inner) c.args.geometry.now c.in-Ok.device.parts c.with_faults.result c.with_faults.ensures.meta c.with_faults.ensures.blocks c.in-Ok.ensures.size
