use Rattle.std.proofs.Common.{◌-◌, ◌≤◌}
use Rattle.program_run.specs.Work.{IsFilledTo}
use Rattle.program_run.proofs.session.Session.fill.Given as goal

abbrev pub invariant-loop-index : goal.invariant-loop-index
invariant-loop-index g l =
    IsFilledTo l.fn.self l.file l.first (l.index - l.first) l.byte l.self × (l.index - l.first ≤ l.last - l.first)
