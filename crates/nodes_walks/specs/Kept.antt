-- What a file keeps while one of its nodes is written or moved.
use Rattle.std.specs.Prelude.{◌≡◌, ℕ, Bool}
use Rattle.nodes.specs.Tree.{Same}
use Rattle.nodes.specs.declared.file.FileState.{FileState}
use Rattle.nodes.specs.File.{IsFile, ticket_at}
use Rattle.nodes.specs.Owners.{namer_at}
use Rattle.nodes.specs.Useful.{IsUseful}

-- What stands at each index, who names it, and which nodes are of use; its number, length, shape and kind.
pub record KeepsFile {B L : Type 0} (old new : FileState B L) : Type 0 where
  pub same : Same (ticket_at old) (ticket_at new)
  pub namer : Same (namer_at old) (namer_at new)
  pub useful : (asked : ℕ → ℕ → Bool) → IsUseful asked old → IsUseful asked new
  pub number : new.token.number ≡ old.token.number
  pub length_is : new.length ≡ old.length
  pub shape_is : new.shape ≡ old.shape
  pub kind_is : new.kind ≡ old.kind
  pub file : IsFile new
