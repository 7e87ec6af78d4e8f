use Rattle.std.proofs.Common.{◌≡◌, true, take, nat_eq}
use Rattle.std.specs.List.{list_all}
use Rattle.program_run.proofs.content.Content.of.Given as goal

abbrev pub invariant-loop-other : goal.invariant-loop-other
invariant-loop-other l = list_all (λ other. nat_eq other l.byte) (take l.other-index l.block) ≡ true
