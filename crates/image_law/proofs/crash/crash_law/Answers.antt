use Rattle.image.proofs.Picking.{between_picks}
use Rattle.image_law.proofs.Law.{crash_law_holds, slots_law_holds}
use Rattle.image_law.proofs.crash.crash_law.Goals as goal

pub returns-clause-kept : goal.returns-clause-kept
returns-clause-kept c = crash_law_holds

pub returns-clause-slots : goal.returns-clause-slots
returns-clause-slots c = slots_law_holds

pub returns-clause-old_or_new : goal.returns-clause-old_or_new
returns-clause-old_or_new c = between_picks
