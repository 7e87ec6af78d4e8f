-- The law of a file with spare nodes beside it, through the calls on both.
use Rattle.std.proofs.Common.{◌≡◌, ℕ, ◌+◌, true, sym, ap, subst}
use Rattle.geometry.specs.declared.shape.Shape.{Shape}
use Rattle.rights_books.specs.declared.claim.TakenNumber.{TakenNumber}
use Rattle.nodes.specs.Change.{TreeNode, nothing}
use Rattle.nodes.specs.declared.file.FileState.{FileState}
use Rattle.nodes.specs.declared.spare_path.SparePath.{SparePath}
use Rattle.nodes.specs.Marks.{MarksNode, unchanged}
use Rattle.nodes.specs.Lacking.{spare_tokens}
use Rattle.nodes_law.specs.Law.{FileStateLaw, HaveOwnTokens}
use Rattle.nodes_law.proofs.Lasting.{law_plant, own_planted}
use Rattle.file_cells.specs.Beside.{HasLawBeside}

module _ {B L : Type 0} (files : ℕ) (old new : FileState B L) (s t : SparePath B L) (was : HasLawBeside files old s) (shape : new.shape ≡ old.shape) where
  own_of : new.token.number ≡ old.token.number → (u : SparePath B L) → HaveOwnTokens files old.shape old.token.number u → HaveOwnTokens files new.shape new.token.number u
  own_of number u own =
      subst (λ (h : Shape). HaveOwnTokens files h new.token.number u) (sym shape)
      (subst (λ (n : ℕ). HaveOwnTokens files old.shape n u) (sym number) own)

  -- a spare node comes into the file
  pub lawful_planted : (n : TreeNode) → n.dirty ≡ true → MarksNode unchanged old new nothing (λ w. w.node n)
      → ((h : TakenNumber → ℕ) → spare_tokens h t + h n.token ≡ spare_tokens h s) → HasLawBeside files new t
  lawful_planted n fresh change tokens = record {
    law = law_plant files old new was.law shape s t was.own n fresh tokens change;
    own = own_of (ap (λ (k : TakenNumber). k.number) change.token) t (own_planted files old.shape old.token.number s t was.own n tokens);
  }

  -- a call that does nothing to the spare nodes
  pub lawful_served : FileStateLaw files new → new.token.number ≡ old.token.number → HasLawBeside files new s
  lawful_served law number = record {
    law = law;
    own = own_of number s was.own;
  }
