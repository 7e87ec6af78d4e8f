-- What is told of a block.
use Rattle.std.specs.Prelude.{ℕ, nat_eq, List, [], ◌∷◌, if◌then◌else◌}
use Rattle.std.specs.List.{list_all}
use Rattle.program_run.specs.declared.content.Content.{Content}
use Rattle.program_run.specs.declared.content.Content.TheVariants.{Equal, Mixed}

-- the byte that all bytes of a block are, where they are equal
abbrev pub content_of : List ℕ → Content
content_of [] = Mixed
content_of (byte ∷ bytes) = if list_all (λ other. nat_eq other byte) bytes then Equal byte else Mixed
