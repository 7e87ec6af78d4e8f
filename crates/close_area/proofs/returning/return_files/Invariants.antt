use Rattle.std.proofs.Common.{◌≡◌, ℕ, ◌+◌, List, Some, None, length, vec_len}
use Rattle.std.specs.Prelude.{slice_get, ◌⊎◌}
use Rattle.image_law.specs.Items.{Among}
use Rattle.rights_permits.specs.Turns.{at_home}
use Rattle.area_emptying.specs.Home.{AreAtHome}
use Rattle.file_cells.specs.Cell.{CellView}
use Rattle.file_cells.specs.Pass.{Pass}
use Rattle.close_area.specs.Returned.{living, AreGiven, AreReturned, IsFileOf}
use Rattle.close_area.proofs.returning.return_files.Given as goal

abbrev pub invariant-passes : goal.invariant-passes
invariant-passes g l = record {
  hand : l.hand ≡ at_home g.V.Books.BooksName.books.book;
  every : length l.files.items ≡ g.V.Numbers.GeometryName.geometry.files;
  numbers : (k : ℕ) (c : CellView g.row.B.Denot g.row.B-Lease.Denot) → slice_get l.files.items k ≡ Some c → c.number ≡ k + 1;
  same : (k : ℕ) (c : CellView g.row.B.Denot g.row.B-Lease.Denot) → slice_get l.files.items k ≡ Some c → (slice_get l.initial.files.items k ≡ Some c) ⊎ (c.state ≡ None);
  count : living l.files.items + vec_len l.initial.passes ≡ living l.initial.files.items + vec_len l.passes;
  given : AreGiven l.initial.passes.items l.initial.files.items l.files.items;
  rest : (pass : Pass) → Among pass l.passes.items → Among pass l.initial.passes.items;
  shown : (pass : Pass) → Among pass l.initial.passes.items → Among pass l.passes.items ⊎ IsFileOf l.initial.files.items pass;
  home : (bytes : ℕ → List ℕ) → AreAtHome bytes l.area.segments.items → AreAtHome bytes l.initial.area.segments.items × AreReturned bytes l.initial.files.items l.files.items;
}

abbrev pub decreases-passes : goal.decreases-passes
decreases-passes g l = vec_len l.passes
