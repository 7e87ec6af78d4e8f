-- The plain contents of the files that index trees hold.
use Rattle.std.specs.Prelude.{ℕ, zero, suc, List, [], ◌∷◌, ◌++◌}
use Rattle.std.specs.List.{filter_map}
use Rattle.std.specs.FinMap.{from_entries}
use Rattle.geometry.specs.declared.shape.Shape.{Shape}
use Rattle.geometry.specs.File.{File, Block}
use Rattle.image.specs.Files.{below, block_at}
use Rattle.image_law.specs.Parts.{each, FileTree, ticket_at, Parts, file_at}

-- each index with a ticket has the block at the ticket's address
abbrev pub content_of : Shape → (ℕ → Block) → FileTree → File
content_of shape blocks file = record {
  kind = file.kind;
  length = file.length;
  blocks = from_entries (filter_map (λ index. block_at blocks index (ticket_at shape file index)) (below file.length));
}

abbrev pub numbered : Shape → (ℕ → Block) → ℕ → FileTree → List (ℕ × File)
numbered shape blocks inode file = (inode, content_of shape blocks file) ∷ []

-- the live files with inode numbers up to n, in ascending order, each with its number
abbrev pub contents : Shape → (ℕ → Block) → Parts → ℕ → List (ℕ × File)
contents shape blocks parts zero = []
contents shape blocks parts (suc n) = contents shape blocks parts n ++ each (numbered shape blocks (suc n)) (file_at parts n)
