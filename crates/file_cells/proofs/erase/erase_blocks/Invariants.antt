use Rattle.std.proofs.Common.{◌≡◌, ℕ, ◌≤◌, ◌<◌, max, None}
use Rattle.nodes.specs.File.{ticket_at}
use Rattle.nodes.specs.Useful.{IsUseful, each_node}
use Rattle.nodes_law.specs.Law.{FileStateLaw}
use Rattle.nodes_law.specs.Contents.{Serves}
use Rattle.file_cells.proofs.erase.erase_blocks.Given as goal

abbrev pub invariant-loop-index : goal.invariant-loop-index
invariant-loop-index g l = record {
  law : FileStateLaw g.V.Numbers.GeometryName.geometry.files l.file;
  serves : Serves l.initial.file l.file l.initial.hand l.hand;
  gone : (j : ℕ) → l.from ≤ j → j < l.index → ticket_at l.file j ≡ None;
  others : (j : ℕ) → (l.from ≤ j → j < l.index → ⊥) → ticket_at l.file j ≡ ticket_at l.initial.file j;
  length : l.file.length ≡ l.initial.file.length;
  kind : l.file.kind ≡ l.initial.file.kind;
  reached : l.index ≤ max l.from l.end;
  useful : IsUseful each_node l.initial.file → IsUseful each_node l.file;
}
