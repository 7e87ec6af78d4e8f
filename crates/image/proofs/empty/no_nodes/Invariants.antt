use Rattle.std.proofs.Common.{◌≡◌, map, replicate}
use Rattle.image.specs.Image.{no_node}
use Rattle.image.specs.View.{node_or_none}
use Rattle.image.proofs.empty.no_nodes.Given as goal

abbrev pub invariant-loop : goal.invariant-loop
invariant-loop l = map node_or_none l.nodes.items ≡ replicate l.counter no_node
