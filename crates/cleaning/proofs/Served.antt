use Rattle.std.proofs.Common.{◌≡◌, ℕ, ap, sym, subst}
use Rattle.rights_books.specs.Accounts.{HandView}
use Rattle.nodes.specs.declared.file.FileState.{FileState}
use Rattle.nodes.specs.File.{file_of}
use Rattle.nodes.specs.Useful.{IsUseful, each_node}
use Rattle.nodes_law.specs.Law.{FileStateLaw}
use Rattle.nodes_law.specs.Contents.{IsStored}
use Rattle.cleaning.specs.Served.{HasServed}
use Rattle.cleaning.proofs.Moving.{serves_stays}

-- a file is served where neither it nor what is in hand has changed
pub served_stays : {B L : Type 0} (files : ℕ) (old new : FileState B L) (x y : HandView) → IsStored old → FileStateLaw files old → new ≡ old → y ≡ x
    → HasServed files old new x y
served_stays {B} {L} files old new x y stored law same hand = record {
  serves = serves_stays old new x y stored same hand;
  law = subst (λ (f : FileState B L). FileStateLaw files f) (sym same) law;
  useful = subst (λ (f : FileState B L). IsUseful each_node f) (sym same);
  file = ap (λ (f : FileState B L). file_of f) same;
}
