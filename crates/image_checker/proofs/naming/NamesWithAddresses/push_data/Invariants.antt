use Rattle.std.proofs.Common.{◌≡◌, ◌++◌, length, take}
use Rattle.image.specs.Walk.{data_names}
use Rattle.image_checker.proofs.naming.NamesWithAddresses.push_data.Given as goal

abbrev pub invariant-loop-slot : goal.invariant-loop-slot
invariant-loop-slot l = record {
  so_far : l.self.names.items ≡ l.fn.self.names.items ++ data_names l.nid 0 (take l.slot l.addresses);
  sized : length l.self.map.items ≡ length l.fn.self.map.items;
}
