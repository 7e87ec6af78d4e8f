use Rattle.std.proofs.Common.{◌≡◌, ◌-◌, ◌≤◌}
use Rattle.program_run.specs.Work.{IsFilledTo}
use Rattle.program_run.proofs.calls.Calls.fill.Given as goal

abbrev pub invariant-loop-index : goal.invariant-loop-index
invariant-loop-index g l =
    IsFilledTo l.fn.share l.file l.first (l.index - l.first) l.byte l.share × (l.index - l.first ≤ l.last - l.first) × (l.self.worker ≡ l.fn.self.worker)
