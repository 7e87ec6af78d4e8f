use Rattle.std.proofs.Common.{List, [], map, vec_len}
use Rattle.file_cells.specs.Pass.{Pass}
use Rattle.flash_volume.specs.declared.leave.Leave.{Leave}
use Rattle.geometry.specs.declared.error.Error.{Error}
use Rattle.flash_volume.proofs.rounds.run_rounds.Given as goal

-- The scheduler may run its round with what it has; what is promised from here on keeps what was promised at first, and fails only as was told at first.
abbrev pub invariant-loop : goal.invariant-loop
invariant-loop g l = record {
  fits : g.X.Scheduler.fits l.scheduler g.V.Numbers.GeometryName.geometry l.lent (map (λ end. record { what = end.done; held = end.lent }) l.ended.items);
  may_fail : (error : Error) → g.X.Scheduler.failed l.scheduler g.V.Numbers.GeometryName.geometry l.fn.volume.base l.lent (map (λ end. record { what = end.done; held = end.lent }) l.ended.items) error
      → g.X.Scheduler.failed l.fn.scheduler g.V.Numbers.GeometryName.geometry l.fn.volume.base (record { passes = l.fn.rights.passes.items; seats = vec_len l.fn.rights.seats; readers = [] }) [] error;
  keeps : (output : _) (leave : Leave) (after : List Pass)
      → g.X.Scheduler.did l.scheduler g.V.Numbers.GeometryName.geometry l.fn.volume.base l.lent (map (λ end. record { what = end.done; held = end.lent }) l.ended.items) output leave after
      → g.X.Scheduler.did l.fn.scheduler g.V.Numbers.GeometryName.geometry l.fn.volume.base (record { passes = l.fn.rights.passes.items; seats = vec_len l.fn.rights.seats; readers = [] }) [] output leave after;
}
