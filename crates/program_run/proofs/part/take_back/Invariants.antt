use Rattle.std.proofs.Common.{◌≡◌, All, length, map, vec_len}
use Rattle.program_run.specs.Files.{AreInOrder, Files}
use Rattle.program_run.specs.PartJobs.{AreBack}
use Rattle.program_run.proofs.part.take_back.Given as goal

abbrev pub invariant-loop-made : goal.invariant-loop-made
invariant-loop-made g l = record {
  fit : All (λ made. AreInOrder g.V.Numbers.GeometryName.geometry.files made.lent.passes × (length made.lent.readers ≡ length l.session.readers)) l.all.items;
  back : (new : Files) → AreBack g.V.Numbers.GeometryName.geometry l.session (map (λ made. record { what = made.text.items; held = made.lent }) l.all.items) new
      → AreBack g.V.Numbers.GeometryName.geometry l.fn.session (map (λ made. record { what = made.text.items; held = made.lent }) l.fn.all.items) new;
}

abbrev pub decreases-loop-made : goal.decreases-loop-made
decreases-loop-made g l = vec_len l.all
