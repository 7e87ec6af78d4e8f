-- What a settled audit has learned of all that lies in the locks, by weight.
use Rattle.std.specs.Prelude.{◌≡◌, ℕ, ◌+◌, List}
use Rattle.geometry.specs.declared.owner.Mark.{Mark}
use Rattle.geometry.specs.Weights.{weigh}
use Rattle.rights_books.specs.declared.claim.TakenNumber.{TakenNumber}
use Rattle.rights_books.specs.declared.claim.Copied.{Copied}
use Rattle.rights_books.specs.Weights.{of_entry, marks_copied, tickets_copied, taken_copied, tokens_copied}
use Rattle.sit.specs.Segment.{Segment, marks_of}
use Rattle.nat.specs.Shard.{ShardNodes}
use Rattle.checkpoint_image.specs.Cells.{Cells, Filed}

-- The copies are of these segments, shards and files: of their marks, their taken numbers, and the tickets and tokens that
-- are lodged in them.
pub record AreCopies (cells : Cells) (copies : List Copied) : Type 0 where
  pub marks : (h : Mark → ℕ) → weigh (marks_copied h) copies ≡ weigh (λ (s : Segment). weigh h (marks_of s)) cells.segments
  pub taken : (h : TakenNumber → ℕ) → weigh (taken_copied h) copies ≡ weigh (λ (s : ShardNodes). weigh h s.taken) cells.shards
  pub tickets : (h : Mark → ℕ) → weigh (tickets_copied h) copies
      ≡ weigh (λ (f : Filed). weigh h f.tickets) cells.files + weigh (λ (s : ShardNodes). weigh (of_entry h) s.taken) cells.shards
  pub tokens : (h : TakenNumber → ℕ) → weigh (tokens_copied h) copies ≡ weigh (λ (f : Filed). weigh h f.tokens) cells.files
