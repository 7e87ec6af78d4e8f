use Rattle.std.proofs.Common.{inl, inr}
use Rattle.flash_volume.proofs.leaving.close_volume.Goals as goal

pub returns-in-Err-clause-error : goal.returns-in-Err-clause-error
returns-in-Err-clause-error g c = elim c.in-Err.ensures.error [
  | inl out ↦ inl (_, out)
  | inr unwritten ↦ inr unwritten
]
