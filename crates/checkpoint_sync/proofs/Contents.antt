-- What a file's tree holds is the file that its state shows, and an image that stores its nodes has the file.
use Rattle.std.specs.Prelude.{◌==◌}
use Rattle.std.proofs.Common.{◌≡◌, ℕ, ◌≤◌, not, inl, refl, sym, ap, ◌∙◌}
use Rattle.std.proofs.lemmas.Bool.{ne_eqb}
use Rattle.geometry.specs.File.{Block}
use Rattle.geometry.specs.Path.{largest_length}
use Rattle.image.specs.Node.{Node}
use Rattle.image.specs.Image.{Image}
use Rattle.image.specs.declared.image.NodeEntry.{NodeEntry}
use Rattle.image_law.specs.Parts.{stored_of, inode_stored, ticket_at as tree_ticket_at}
use Rattle.image_law.specs.Contents.{content_of}
use Rattle.image_law.proofs.Trees.{HoldsAll}
use Rattle.image_law.proofs.Looking.{data_address_is}
use Rattle.checkpoint.specs.Files.{IsStateOf, HoldContents}
use Rattle.checkpoint.proofs.ImageFiles.{shown_at}
use Rattle.nodes.specs.declared.file.FileState.{FileState}
use Rattle.nodes.specs.File.{IsFile, file_of}
use Rattle.checkpoint_sync.specs.TreeOf.{tree_of}
use Rattle.checkpoint_sync.proofs.Slots.{ticket_is}

module _ {B L : Type 0} (f : FileState B L) (is : IsFile f) (short : f.length ≤ largest_length f.shape) where
  pub content_is : (blocks : ℕ → Block) → HoldContents blocks f → content_of f.shape blocks (tree_of f) ≡ file_of f
  content_is blocks held =
      let all = shown_at f is blocks held (λ i. tree_ticket_at f.shape (tree_of f) i) (λ i low. ticket_is f is short i) in
      λ i. record { kind = f.kind; length = f.length; blocks = all i }

  pub is_state_of : (image : Image) → HoldsAll image (stored_of (tree_of f)) → IsStateOf image f
  is_state_of image held =
      let node = (held (inode_stored (tree_of f)) (inl refl)).1 in
      let entry = (held (inode_stored (tree_of f)) (inl refl)).0 in
      let written = (held (inode_stored (tree_of f)) (inl refl)).2 in
      record {
        there = ap (λ (e : NodeEntry). not (e.address == 0)) entry ∙ ap not (ne_eqb (inode_stored (tree_of f)).address 0 written);
        kind = sym (ap (λ (n : Node). n.kind) node);
        length = sym (ap (λ (n : Node). n.length) node);
        slots = λ index low. sym (ticket_is f is short index) ∙ sym (data_address_is image (tree_of f) held f.shape index);
      }
