use Rattle.std.proofs.Common.{◌∙◌}
use Rattle.file_cells.proofs.write.write_with.Goals as goal

pub append_at-requires-clause-file : goal.append_at-requires-clause-file
append_at-requires-clause-file g c =
    let was = c.requires.file in
    let made = c.prepare_path.ensures in
    record {
      book_is = made.serves.book ∙ was.book_is;
      shape_is = was.shape_is;
      inside = was.inside;
      whole = was.whole;
      stored = was.stored;
      spare = made.serves.spare;
      law = made.law;
      held = (was.held.0, made.serves.others was.held.0 was.held.1);
    }
