use Rattle.std.proofs.Common.{◌≡◌, ◌≢◌, ℕ}
use Rattle.nodes.specs.File.{count_of, ticket_at}
use Rattle.nodes.specs.Useful.{IsUseful, each_node, is_off}
use Rattle.nodes_law.specs.Law.{FileStateLaw}
use Rattle.nodes_law.specs.Contents.{Serves}
use Rattle.file_cells.proofs.erase.erase_block.Given as goal

abbrev pub invariant-spares : goal.invariant-spares
invariant-spares g l = record {
  law : FileStateLaw g.V.Numbers.GeometryName.geometry.files l.file;
  serves : Serves l.initial.file l.file l.initial.hand l.hand;
  others : (j : ℕ) → j ≢ l.index → ticket_at l.file j ≡ ticket_at l.initial.file j;
  length : l.file.length ≡ l.initial.file.length;
  kind : l.file.kind ≡ l.initial.file.kind;
  useful : IsUseful each_node l.initial.file → IsUseful (is_off l.index) l.file;
}

abbrev pub decreases-spares : goal.decreases-spares
decreases-spares g l = count_of l.file
