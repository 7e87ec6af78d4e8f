use Rattle.std.proofs.Common.{◌≡◌, List, Option}
use Rattle.std.specs.Vec.Iter.{into_iter_items}
use Rattle.file_cells.specs.Pass.{Pass}
use Rattle.program_run.specs.Files.{StandInPlace, passes_among}
use Rattle.program_run.proofs.Placing.{PlacedSo}
use Rattle.program_run.proofs.places.place_passes.Given as goal

abbrev pub invariant-loop-pass : goal.invariant-loop-pass
invariant-loop-pass g l =
    (places : List (Option Pass)) × StandInPlace l.files places × (passes_among places ≡ l.fn.passes.items) × PlacedSo places l.places.items (into_iter_items l.pass-iterator)
