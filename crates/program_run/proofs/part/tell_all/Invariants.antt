use Rattle.std.proofs.Common.{map, take}
use Rattle.std.specs.Io.KnownBytes.{Appends}
use Rattle.program_run.specs.PartJobs.{told_text}
use Rattle.program_run.proofs.part.tell_all.Given as goal

abbrev pub invariant-loop-number : goal.invariant-loop-number
invariant-loop-number g l =
    Appends (g.O.Write.contents l.fn.out) (g.O.Write.contents l.out) (told_text 0 (map (λ made. record { what = made.text.items; held = made.lent }) (take l.number l.all)))
