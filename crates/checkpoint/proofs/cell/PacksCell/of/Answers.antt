use Rattle.packs.proofs.Knowing.{none_out}
use Rattle.checkpoint.proofs.Counting.{whole_counts}
use Rattle.checkpoint.proofs.cell.PacksCell.of.Goals as goal

pub invariant_of-result : goal.invariant_of-result
invariant_of-result g c =
    let is = c.requires in
    record {
      size = is.size;
      numbers = is.numbers;
      of_words = is.words;
      whole = λ sound. is.whole;
      front = is.front;
      counts = whole_counts g.M.Meta.seen g.M.Meta.may_leave g.V.Numbers.GeometryName.geometry c.args.packs is.lawful.0 is.whole is.front is.lawful.1 is.lawful.2;
      complete = λ sound. is.complete;
      slips = is.slips;
      room = is.room;
      of_rows = is.rows;
      of_numbers = is.body_numbers;
      touched = λ _ k below out. absurd (none_out g.V.Numbers.GeometryName.geometry c.args.body.body.touched is.touched k below out);
    }
