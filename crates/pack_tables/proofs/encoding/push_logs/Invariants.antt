use Rattle.std.proofs.Common.{◌≡◌, ◌++◌, take}
use Rattle.std.specs.List.{flat_map}
use Rattle.image.specs.Pack.{log_bytes}
use Rattle.pack_tables.proofs.encoding.push_logs.Given as goal

abbrev pub invariant-loop-log : goal.invariant-loop-log
invariant-loop-log l = l.out.items ≡ l.initial.out.items ++ flat_map log_bytes (take l.log-index l.logs)
