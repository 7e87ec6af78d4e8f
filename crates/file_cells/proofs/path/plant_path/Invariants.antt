use Rattle.std.proofs.Common.{◌≡◌, ℕ, ◌<◌, Some}
use Rattle.nodes.specs.File.{missing_to, file_of}
use Rattle.rights_books.specs.Accounts.{HandView}
use Rattle.nodes.specs.Spares.{KeepsNames}
use Rattle.nodes.specs.Owners.{namer_at}
use Rattle.nodes.specs.Lacking.{lacking_to, end_number}
use Rattle.nodes.specs.Useful.{IsUseful, is_off}
use Rattle.nodes_law.specs.Contents.{IsStored}
use Rattle.file_cells.specs.Beside.{IsSpareFor, ServesBeside, HasLawBeside}
use Rattle.file_cells.proofs.path.plant_path.Given as goal

abbrev pub invariant-ready : goal.invariant-ready
invariant-ready g l = record {
  serves : (hand : HandView) → ServesBeside l.initial.file l.file l.initial.spares l.spares hand hand;
  law : (files : ℕ) → HasLawBeside files l.initial.file l.initial.spares → HasLawBeside files l.file l.spares;
  stored : IsStored l.file;
  spare : IsSpareFor l.file l.spares;
  shape : l.file.shape ≡ l.initial.file.shape;
  file : file_of l.file ≡ file_of l.initial.file;
  names : KeepsNames (namer_at l.initial.file) (namer_at l.file);
  end : 0 < missing_to l.initial.file l.index → missing_to l.file l.index ≡ 0 → namer_at l.file l.index ≡ Some (end_number l.initial.spares);
  rest : 0 < missing_to l.file l.index → (0 < missing_to l.initial.file l.index) × (end_number l.spares ≡ end_number l.initial.spares);
  useful : IsUseful (is_off l.index) l.initial.file → IsUseful (is_off l.index) l.file;
  ready : lacking_to l.file l.index l.spares ≡ 0;
}

abbrev pub decreases-ready : goal.decreases-ready
decreases-ready g l = missing_to l.file l.index
