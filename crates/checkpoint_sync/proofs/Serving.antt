-- A file whose nodes were written, as it is kept.
use Rattle.std.proofs.Common.{◌≡◌, ℕ, ◌≤◌, sym, ap, ◌∙◌, arith}
use Rattle.geometry.specs.Path.{largest_length}
use Rattle.rights_books.specs.Accounts.{HandView}
use Rattle.nodes.specs.declared.file.FileState.{FileState}
use Rattle.nodes_law.specs.Contents.{IsStored, Serves}
use Rattle.nodes_law.proofs.Names.{named_still}
use Rattle.nodes_law.proofs.Serving.{stored_same}
use Rattle.file_flush.specs.Flushed.{HasFlushed}
use Rattle.file_flush.proofs.Steps.{still_held}

module _ {B L : Type 0} (files : ℕ) (old new : FileState B L) (before after : HandView) (is : IsStored old) (done : HasFlushed files old new before after) where
  short : new.length ≤ largest_length new.shape
  short = let s = is.short in let top = ap largest_length done.kept.shape_is in let long = done.kept.length_is in omega arith

  stored : IsStored new
  stored = stored_same old new is done.kept.file done.kept.shape_is done.kept.kind_is done.kept.length_is done.kept.same
      (named_still old new is.named done.kept.file short done.kept.shape_is (λ i t at. sym (done.kept.same i) ∙ at) (λ i t at. done.kept.namer i))
      (done.tickets (λ t. 1)) done.numbered

  pub serves_flushed : Serves old new before after
  serves_flushed = record {
    stored = stored;
    shape = done.kept.shape_is;
    number = done.kept.number;
    others = λ others held. still_held files old new before after done others held;
    book = done.book;
  }
