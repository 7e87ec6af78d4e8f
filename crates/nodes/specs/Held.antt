-- What the books have of a file's tickets and tokens, by weight.
use Rattle.std.specs.Prelude.{◌≡◌, ℕ, ◌+◌, List}
use Rattle.geometry.specs.Weights.{weigh}
use Rattle.geometry.specs.declared.owner.Mark.{Mark}
use Rattle.rights_books.specs.declared.claim.TakenNumber.{TakenNumber}
use Rattle.nodes.specs.Change.{of_tickets, of_tokens}
use Rattle.nodes.specs.declared.file.FileState.{FileState}
use Rattle.nodes.specs.declared.spare_path.SparePath.{SparePath}
use Rattle.nodes.specs.File.{weight_of}
use Rattle.nodes.specs.Lacking.{spare_tokens}

-- what others have beside a file
pub record Others : Type 0 where
  pub tickets : (Mark → ℕ) → ℕ
  pub tokens : (TakenNumber → ℕ) → ℕ

abbrev pub no_others : Others
no_others = record { tickets = λ h. 0; tokens = λ h. 0 }

-- others, and the spare nodes of a path with them
abbrev pub with_spares : {B L : Type 0} → SparePath B L → Others → Others
with_spares spares others = record others { tokens = λ h. others.tokens h + spare_tokens h spares }

-- these are the marks of the file's tickets and the entries of its tokens, each as often, and what others have
pub record AreHeldBeside {B L : Type 0} (others : Others) (f : FileState B L) (marks : List Mark) (entries : List TakenNumber) : Type 0 where
  pub tickets : (h : Mark → ℕ) → weigh h marks ≡ weight_of f (of_tickets (λ t. h t.mark)) + others.tickets h
  pub tokens : (h : TakenNumber → ℕ) → weigh h entries ≡ weight_of f (of_tokens h) + others.tokens h

abbrev pub AreHeld : {B L : Type 0} → FileState B L → List Mark → List TakenNumber → Type 0
AreHeld f marks entries = AreHeldBeside no_others f marks entries
