use Rattle.std.proofs.Common.{◌≡◌, ◌<◌, ◌^◌, ◌++◌, take, map}
use Rattle.std.specs.Prelude.{All}
use Rattle.std.specs.List.{flat_map}
use Rattle.image.specs.Pack.{segment_bytes}
use Rattle.image.specs.View.{info_view}
use Rattle.pack_tables.proofs.encoding.push_segments.Given as goal

abbrev pub invariant-loop-info : goal.invariant-loop-info
invariant-loop-info l = record {
  added : l.out.items ≡ l.initial.out.items ++ flat_map (segment_bytes l.shape) (map info_view (take l.info-index l.segments));
  small : All (λ info. (info.count < 2 ^ 32) × (info.mtime < 2 ^ 64)) (take l.info-index l.segments);
}
