-- What was named is what was mounted.
use Rattle.flash_volume.proofs.scheduler_ladder.on_mounted.Goals as goal

pub returns-in-Ok-clause-done : goal.returns-in-Ok-clause-done
returns-in-Ok-clause-done g c = rw c.in-Ok.ensures.mounted at c.on_opened.ensures.done

pub returns-in-Ok-clause-back : goal.returns-in-Ok-clause-back
returns-in-Ok-clause-back g c = rw c.in-Ok.ensures.mounted at c.on_opened.ensures.back
