use Rattle.std.proofs.Common.{refl}
use Rattle.pack_tables.proofs.RoundTrip.{tables_back}
use Rattle.pack_tables.proofs.law.reading_law.Goals as goal

pub returns : goal.returns
returns c = record {
  round_trip = λ geometry image blocks fits. tables_back geometry image fits blocks;
  picked = λ geometry file. refl;
}
