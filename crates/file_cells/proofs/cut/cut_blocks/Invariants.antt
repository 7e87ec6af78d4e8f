use Rattle.std.proofs.Common.{◌≡◌}
use Rattle.geometry.specs.File.{cut_to}
use Rattle.nodes.specs.File.{count_of, file_of}
use Rattle.nodes.specs.Useful.{IsUseful, each_node, ends_by}
use Rattle.nodes_law.specs.Law.{FileStateLaw}
use Rattle.nodes_law.specs.Contents.{Serves}
use Rattle.file_cells.proofs.cut.cut_blocks.Given as goal

abbrev pub invariant-spares : goal.invariant-spares
invariant-spares g l = record {
  law : FileStateLaw g.V.Numbers.GeometryName.geometry.files l.file;
  serves : Serves l.initial.file l.file l.initial.hand l.hand;
  file : cut_to (file_of l.file) l.length ≡ cut_to (file_of l.initial.file) l.length;
  useful : IsUseful each_node l.initial.file → IsUseful (ends_by l.length) l.file;
}

abbrev pub decreases-spares : goal.decreases-spares
decreases-spares g l = count_of l.file
