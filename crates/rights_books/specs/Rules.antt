-- The rule of the books. It adds up what all claims have together: t h is the weight h of each, added up.
use Rattle.std.specs.Prelude.{◌≡◌, ℕ, zero, suc, ◌≤◌, ◌==◌, List, [], ◌∷◌, ◌++◌, Option, Some, None, if◌then◌else◌}
use Rattle.geometry.specs.declared.owner.Mark.{Mark}
use Rattle.rights_books.specs.declared.claim.TakenNumber.{TakenNumber}
use Rattle.rights_books.specs.declared.claim.FileContent.{FileContent}
use Rattle.rights_books.specs.declared.claim.Layout.{Layout}
use Rattle.rights_books.specs.declared.claim.Claim.{Claim}
use Rattle.rights_books.specs.declared.claim.Claim.TheVariants.{Segment, Hand, File, Shard}
use Rattle.rights_books.specs.declared.claim.Copied.{Copied}
use Rattle.rights_books.specs.Lists.{sum_below}
use Rattle.geometry.specs.Weights.{weigh}
use Rattle.rights_books.specs.Weights.{mark_of, marks_in, tickets_in, taken_in, tokens_in, shown_in, pass_in, segment_in, hand_in, file_in, shard_in, stray_in, copied_in, copies_in, segment_copy, file_copy, shard_copy, marks_copied, tickets_copied, taken_copied, tokens_copied}

pub record Lawful (l : Layout) (t : (Claim → ℕ) → ℕ) : Type 0 where
  -- each marked block has one ticket, and each ticket's block is marked
  pub tickets : (h : Mark → ℕ) → t (marks_in h) ≡ t (tickets_in h)
  -- each taken number has one token
  pub tokens : (h : TakenNumber → ℕ) → t (taken_in h) ≡ t (tokens_in h)
  -- a pass shows what its file has, and no file has two
  pub passes : (h : ℕ → FileContent → ℕ) → t (pass_in h) ≡ t (shown_in h)
  -- there is one holder for each segment, file and shard, and there are 64 hands
  pub segments : (h : ℕ → ℕ) → t (segment_in h) ≡ sum_below l.segments h
  pub files : (h : ℕ → ℕ) → t (file_in h) ≡ sum_below l.files (λ i. h (suc i))
  pub shards : (h : ℕ → ℕ) → t (shard_in h) ≡ sum_below 16 h
  pub hands : t hand_in ≡ 64
  -- what a census knows is so
  pub copies : (h : Copied → ℕ) → t (copies_in h) ≤ t (copied_in h)
  -- each mark is in its segment, and each number in its shard
  pub home : t (stray_in l.blocks) ≡ 0

-- f of each number below n
abbrev pub each_below : ℕ → (ℕ → Claim) → List Claim
each_below zero f = []
each_below (suc n) f = f n ∷ each_below n f

-- f of each of n numbers, from s on
abbrev pub each_from : ℕ → ℕ → (ℕ → Claim) → List Claim
each_from s zero f = []
each_from s (suc n) f = f s ∷ each_from (suc s) n f

-- the claims of an empty volume
abbrev pub opening : Layout → List Claim
opening l =
    each_below 64 (λ k. Hand [] [])
    ++ (each_from 0 l.segments (λ s. Segment s [])
    ++ (each_from 1 l.files (λ i. File i [] [] None)
    ++ each_from 0 16 (λ k. Shard k [])))

-- the entry of a number whose node has no block yet
abbrev pub bare_entry : ℕ → ℕ → TakenNumber
bare_entry number inode = record { number = number; inode = inode; address = 0; bytes = [] }

-- the entry with another block
abbrev pub moved_to : ℕ → List ℕ → TakenNumber → TakenNumber
moved_to a bytes e = record { number = e.number; inode = e.inode; address = a; bytes = bytes }

-- the tickets with that of the number's node, where it has a block
abbrev pub with_lodged : TakenNumber → List Mark → List Mark
with_lodged e ts = if e.address == 0 then ts else mark_of e ∷ ts

-- these are all hands, segments, files and shards
pub record IsWhole (l : Layout) (cs : List Claim) : Type 0 where
  pub hands : weigh hand_in cs ≡ 64
  pub segments : weigh (segment_in (λ s. 1)) cs ≡ l.segments
  pub files : weigh (file_in (λ i. 1)) cs ≡ l.files
  pub shards : weigh (shard_in (λ k. 1)) cs ≡ 16

-- nothing is outside these claims: their marks are their tickets, their taken numbers their tokens, and each of their passes shows what its file has
pub record Settled (cs : List Claim) : Type 0 where
  pub tickets : (h : Mark → ℕ) → weigh (marks_in h) cs ≡ weigh (tickets_in h) cs
  pub tokens : (h : TakenNumber → ℕ) → weigh (taken_in h) cs ≡ weigh (tokens_in h) cs
  pub passes : (h : ℕ → FileContent → ℕ) → weigh (pass_in h) cs ≤ weigh (shown_in h) cs

-- each segment, file and shard was copied
pub record IsComplete (l : Layout) (cs : List Copied) : Type 0 where
  pub segments : weigh (segment_copy (λ s. 1)) cs ≡ l.segments
  pub files : weigh (file_copy (λ i. 1)) cs ≡ l.files
  pub shards : weigh (shard_copy (λ k. 1)) cs ≡ 16

-- nothing is in flight: the marks are the tickets that are lodged, and the taken numbers the tokens that are lodged
pub record Balanced (cs : List Copied) : Type 0 where
  pub tickets : (h : Mark → ℕ) → weigh (marks_copied h) cs ≡ weigh (tickets_copied h) cs
  pub tokens : (h : TakenNumber → ℕ) → weigh (taken_copied h) cs ≡ weigh (tokens_copied h) cs

-- the ticket that is lodged in an entry
abbrev pub lodged_of : TakenNumber → Option Mark
lodged_of e = if e.address == 0 then None else Some (mark_of e)
