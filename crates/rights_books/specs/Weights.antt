-- What each claim has, by weight.
use Rattle.std.specs.Prelude.{ℕ, nat_lt, ◌==◌, ◌&&◌, ◌-◌, ◌/◌, ◌%◌, Bool, if◌then◌else◌, Option, Some, None}
use Rattle.geometry.specs.Weights.{weigh}
use Rattle.geometry.specs.declared.owner.Owner.TheVariants.{Node}
use Rattle.geometry.specs.declared.owner.Mark.{Mark}
use Rattle.rights_books.specs.declared.claim.TakenNumber.{TakenNumber}
use Rattle.rights_books.specs.declared.claim.FileContent.{FileContent}
use Rattle.rights_books.specs.declared.claim.Claim.{Claim}
use Rattle.rights_books.specs.declared.claim.Claim.TheVariants.{Segment, Hand, File, Shard, Pass, Census}
use Rattle.rights_books.specs.declared.claim.Copied.{Copied}
use Rattle.rights_books.specs.declared.claim.Copied.TheVariants.{SegmentCopy, FileCopy, ShardCopy}

-- the ticket of a number's node
abbrev pub mark_of : TakenNumber → Mark
mark_of e = record { address = e.address; owner = Node e.number }

-- its weight, where the node has a block
abbrev pub of_entry : (Mark → ℕ) → TakenNumber → ℕ
of_entry h e = if e.address == 0 then 0 else h (mark_of e)

-- the mark is of this segment: block o of segment s has the address 1 + s * blocks + o, and 0 is no address
abbrev pub is_of_segment : ℕ → ℕ → Mark → Bool
is_of_segment blocks s m = nat_lt 0 m.address && (((m.address - 1) / blocks) == s)

-- 1 where it is not
abbrev pub stray_mark : ℕ → ℕ → Mark → ℕ
stray_mark blocks s m = if is_of_segment blocks s m then 0 else 1

-- 1 where the number is not of this shard
abbrev pub stray_entry : ℕ → TakenNumber → ℕ
stray_entry k e = if (e.number % 16) == k then 0 else 1

-- the marks of a segment
abbrev pub marks_in : (Mark → ℕ) → Claim → ℕ
marks_in h (Segment s ms) = weigh h ms
marks_in h (Hand ts ks) = 0
marks_in h (File i ts ks f) = 0
marks_in h (Shard k es) = 0
marks_in h (Pass i f) = 0
marks_in h (Census cs) = 0

-- the tickets that a holder has
abbrev pub tickets_in : (Mark → ℕ) → Claim → ℕ
tickets_in h (Segment s ms) = 0
tickets_in h (Hand ts ks) = weigh h ts
tickets_in h (File i ts ks f) = weigh h ts
tickets_in h (Shard k es) = weigh (of_entry h) es
tickets_in h (Pass i f) = 0
tickets_in h (Census cs) = 0

-- the taken numbers of a shard
abbrev pub taken_in : (TakenNumber → ℕ) → Claim → ℕ
taken_in h (Segment s ms) = 0
taken_in h (Hand ts ks) = 0
taken_in h (File i ts ks f) = 0
taken_in h (Shard k es) = weigh h es
taken_in h (Pass i f) = 0
taken_in h (Census cs) = 0

-- the tokens that a holder has
abbrev pub tokens_in : (TakenNumber → ℕ) → Claim → ℕ
tokens_in h (Segment s ms) = 0
tokens_in h (Hand ts ks) = weigh h ks
tokens_in h (File i ts ks f) = weigh h ks
tokens_in h (Shard k es) = 0
tokens_in h (Pass i f) = 0
tokens_in h (Census cs) = 0

abbrev pub shown : (ℕ → FileContent → ℕ) → ℕ → Option FileContent → ℕ
shown h i (Some f) = h i f
shown h i None = 0

-- the file whose pass is out
abbrev pub shown_in : (ℕ → FileContent → ℕ) → Claim → ℕ
shown_in h (Segment s ms) = 0
shown_in h (Hand ts ks) = 0
shown_in h (File i ts ks f) = shown h i f
shown_in h (Shard k es) = 0
shown_in h (Pass i f) = 0
shown_in h (Census cs) = 0

-- the file that a pass shows
abbrev pub pass_in : (ℕ → FileContent → ℕ) → Claim → ℕ
pass_in h (Segment s ms) = 0
pass_in h (Hand ts ks) = 0
pass_in h (File i ts ks f) = 0
pass_in h (Shard k es) = 0
pass_in h (Pass i f) = h i f
pass_in h (Census cs) = 0

abbrev pub segment_in : (ℕ → ℕ) → Claim → ℕ
segment_in h (Segment s ms) = h s
segment_in h (Hand ts ks) = 0
segment_in h (File i ts ks f) = 0
segment_in h (Shard k es) = 0
segment_in h (Pass i f) = 0
segment_in h (Census cs) = 0

abbrev pub hand_in : Claim → ℕ
hand_in (Segment s ms) = 0
hand_in (Hand ts ks) = 1
hand_in (File i ts ks f) = 0
hand_in (Shard k es) = 0
hand_in (Pass i f) = 0
hand_in (Census cs) = 64

abbrev pub file_in : (ℕ → ℕ) → Claim → ℕ
file_in h (Segment s ms) = 0
file_in h (Hand ts ks) = 0
file_in h (File i ts ks f) = h i
file_in h (Shard k es) = 0
file_in h (Pass i f) = 0
file_in h (Census cs) = 0

abbrev pub shard_in : (ℕ → ℕ) → Claim → ℕ
shard_in h (Segment s ms) = 0
shard_in h (Hand ts ks) = 0
shard_in h (File i ts ks f) = 0
shard_in h (Shard k es) = h k
shard_in h (Pass i f) = 0
shard_in h (Census cs) = 0

-- the marks and numbers that are not where they belong
abbrev pub stray_in : ℕ → Claim → ℕ
stray_in blocks (Segment s ms) = weigh (stray_mark blocks s) ms
stray_in blocks (Hand ts ks) = 0
stray_in blocks (File i ts ks f) = 0
stray_in blocks (Shard k es) = weigh (stray_entry k) es
stray_in blocks (Pass i f) = 0
stray_in blocks (Census cs) = 0

-- what an account has
abbrev pub copied_in : (Copied → ℕ) → Claim → ℕ
copied_in h (Segment s ms) = h (SegmentCopy s ms)
copied_in h (Hand ts ks) = 0
copied_in h (File i ts ks f) = h (FileCopy i ts ks)
copied_in h (Shard k es) = h (ShardCopy k es)
copied_in h (Pass i f) = 0
copied_in h (Census cs) = 0

-- what a census knows
abbrev pub copies_in : (Copied → ℕ) → Claim → ℕ
copies_in h (Segment s ms) = 0
copies_in h (Hand ts ks) = 0
copies_in h (File i ts ks f) = 0
copies_in h (Shard k es) = 0
copies_in h (Pass i f) = 0
copies_in h (Census cs) = weigh h cs

-- the numbers of the segments, files and shards that were copied
abbrev pub segment_copy : (ℕ → ℕ) → Copied → ℕ
segment_copy h (SegmentCopy s ms) = h s
segment_copy h (FileCopy i ts ks) = 0
segment_copy h (ShardCopy k es) = 0

abbrev pub file_copy : (ℕ → ℕ) → Copied → ℕ
file_copy h (SegmentCopy s ms) = 0
file_copy h (FileCopy i ts ks) = h i
file_copy h (ShardCopy k es) = 0

abbrev pub shard_copy : (ℕ → ℕ) → Copied → ℕ
shard_copy h (SegmentCopy s ms) = 0
shard_copy h (FileCopy i ts ks) = 0
shard_copy h (ShardCopy k es) = h k

-- 0 below n
abbrev pub past : ℕ → ℕ → ℕ
past n j = if nat_lt j n then 0 else 1

abbrev pub marks_copied : (Mark → ℕ) → Copied → ℕ
marks_copied h (SegmentCopy s ms) = weigh h ms
marks_copied h (FileCopy i ts ks) = 0
marks_copied h (ShardCopy k es) = 0

abbrev pub tickets_copied : (Mark → ℕ) → Copied → ℕ
tickets_copied h (SegmentCopy s ms) = 0
tickets_copied h (FileCopy i ts ks) = weigh h ts
tickets_copied h (ShardCopy k es) = weigh (of_entry h) es

abbrev pub taken_copied : (TakenNumber → ℕ) → Copied → ℕ
taken_copied h (SegmentCopy s ms) = 0
taken_copied h (FileCopy i ts ks) = 0
taken_copied h (ShardCopy k es) = weigh h es

abbrev pub tokens_copied : (TakenNumber → ℕ) → Copied → ℕ
tokens_copied h (SegmentCopy s ms) = 0
tokens_copied h (FileCopy i ts ks) = weigh h ks
tokens_copied h (ShardCopy k es) = 0
