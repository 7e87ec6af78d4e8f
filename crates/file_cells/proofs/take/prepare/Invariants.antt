use Rattle.std.proofs.Common.{◌≡◌, ◌≤◌, ◌-◌, length}
use Rattle.file_cells.specs.Law.{AreOccupied}
use Rattle.file_cells.proofs.Lending.{AreLentBelow}
use Rattle.file_cells.proofs.Pinning.{AreCoveredBelow}
use Rattle.file_cells.proofs.take.prepare.Given as goal

abbrev pub invariant-loop-leases : goal.invariant-loop-leases
invariant-loop-leases g l = record {
  same : l.file ≡ l.fn.file;
  account : l.account ≡ l.fn.account;
  bound : l.from ≤ l.fn.file.length;
  sized : length l.noted.items ≡ g.V.Numbers.GeometryName.geometry.segments;
  lent : AreLentBelow g.B.Lease.AsSlice.items l.fn.file l.from l.indexes.items l.leases.items;
  covered : AreCoveredBelow l.fn.file l.from l.noted.items;
  occupied : AreOccupied g.V.Numbers.GeometryName.geometry.shape l.noted.items l.fn.account.tickets;
}

abbrev pub decreases-loop-leases : goal.decreases-loop-leases
decreases-loop-leases g l = l.fn.file.length - l.from
