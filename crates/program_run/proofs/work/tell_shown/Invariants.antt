use Rattle.std.proofs.Common.{◌≡◌, ◌++◌}
use Rattle.std.specs.Io.KnownBytes.{Appends}
use Rattle.program_run.specs.Files.{reader_at, shown_by}
use Rattle.program_run.specs.Lines.{block_text, look_text, texts_below}
use Rattle.program_run.proofs.work.tell_shown.Given as goal

abbrev pub invariant-loop-index : goal.invariant-loop-index
invariant-loop-index g l =
    let file = shown_by (reader_at l.fn.session l.reader) in
    (l.session ≡ l.fn.session)
    × Appends (g.W.Write.contents l.fn.out) (g.W.Write.contents l.out)
    (look_text l.reader ++ texts_below l.index (block_text l.fn.session.geometry.shape file))
