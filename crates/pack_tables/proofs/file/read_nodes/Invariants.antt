use Rattle.std.proofs.Common.{◌≡◌, take, map}
use Rattle.image.specs.Reading.{read_nodes}
use Rattle.image.specs.View.{node_or_none}
use Rattle.pack_tables.specs.File.{block_in}
use Rattle.pack_tables.proofs.file.read_nodes.Given as goal

abbrev pub invariant-loop-entry : goal.invariant-loop-entry
invariant-loop-entry l = map node_or_none l.nodes.items ≡ read_nodes l.geometry.shape (block_in l.geometry l.file) (take l.entry-index l.nat)
