use Rattle.std.proofs.Common.{◌≡◌, map, take}
use Rattle.flash_volume.proofs.answers.sync_passes.Given as goal

-- those in front are lent
abbrev pub invariant-loop-pass : goal.invariant-loop-pass
invariant-loop-pass g l = map (λ pass. pass.now) l.lent.items ≡ take l.pass-index l.passes
