use Rattle.std.proofs.Common.{ℕ, List}
use Rattle.checkpoint.specs.Files.{HoldContents}
use Rattle.nodes.specs.File.{count_of}
use Rattle.nodes_law.specs.Law.{FileStateLaw}
use Rattle.nodes_law.specs.Contents.{Serves}
use Rattle.area_emptying.specs.Home.{AreAtHome}
use Rattle.close_area.specs.HeldTokens.{HoldTokens}
use Rattle.close_area.proofs.file.return_entries.Given as goal

abbrev pub invariant-spares : goal.invariant-spares
invariant-spares g l = record {
  law : FileStateLaw g.V.Numbers.GeometryName.geometry.files l.file;
  serves : Serves l.initial.file l.file l.initial.hand l.hand;
  home : (bytes : ℕ → List ℕ) → AreAtHome bytes l.area.segments.items
      → AreAtHome bytes l.initial.area.segments.items × (HoldContents bytes l.file → HoldContents bytes l.initial.file) × (HoldTokens bytes l.hand.tokens → HoldTokens bytes l.initial.hand.tokens);
}

abbrev pub decreases-spares : goal.decreases-spares
decreases-spares g l = count_of l.file
