-- What contracts see of the accounts.
use Rattle.std.specs.Prelude.{◌≡◌, ℕ, ◌+◌, List, [], ◌∷◌, slice_get, Option, Some, None}
use Rattle.atomic_table.specs.Seated.{TableId}
use Rattle.rights_books.specs.ClaimRules.{Held}
use Rattle.rights_books.specs.Rules.{each_below}
use Rattle.geometry.specs.declared.owner.Mark.{Mark}
use Rattle.rights_books.specs.declared.claim.TakenNumber.{TakenNumber}
use Rattle.geometry.specs.declared.kind.Kind.TheVariants as kind
use Rattle.rights_books.specs.declared.claim.FileContent.{FileContent}
use Rattle.rights_books.specs.declared.claim.Copied.{Copied}
use Rattle.rights_books.specs.declared.claim.Claim.{Claim}
use Rattle.rights_books.specs.declared.claim.Claim.TheVariants.{Segment, Hand, File, Shard, Pass, Census}

-- a segment, and its marked blocks
pub record SegmentView : Type 0 where
  pub book : TableId
  pub segment : ℕ
  pub marks : List Mark

-- the tickets and tokens that a call has in hand
pub record HandView : Type 0 where
  pub book : TableId
  pub tickets : List Mark
  pub tokens : List TakenNumber

-- a file, the tickets and tokens that are lodged in it, and what its pass shows, where one is out
pub record FileView : Type 0 where
  pub book : TableId
  pub inode : ℕ
  pub tickets : List Mark
  pub tokens : List TakenNumber
  pub content : Option FileContent

-- a shard, and its taken numbers
pub record ShardView : Type 0 where
  pub book : TableId
  pub shard : ℕ
  pub taken : List TakenNumber

-- the right to change a file
pub record PassView : Type 0 where
  pub book : TableId
  pub inode : ℕ
  pub content : FileContent

-- all hands, and what some accounts have
pub record CensusView : Type 0 where
  pub book : TableId
  pub copies : List Copied

-- so many permits with nothing in hand
pub record PermitsView : Type 0 where
  pub book : TableId
  pub count : ℕ

-- the accounts of segments 0, 1, 2 and so on, of files 1, 2, 3 and so on, and of shards 0, 1, 2 and so on
abbrev pub AreSegments : TableId → List SegmentView → Type 0
AreSegments book segments = (k : ℕ) (v : SegmentView) → slice_get segments k ≡ Some v → (v.segment ≡ k) × (v.book ≡ book)

abbrev pub AreFiles : TableId → List FileView → Type 0
AreFiles book files = (k : ℕ) (v : FileView) → slice_get files k ≡ Some v → (v.inode ≡ k + 1) × (v.book ≡ book)

abbrev pub AreShards : TableId → List ShardView → Type 0
AreShards book shards = (k : ℕ) (v : ShardView) → slice_get shards k ≡ Some v → (v.shard ≡ k) × (v.book ≡ book)

-- the same, with nothing in them
abbrev pub AreEmptySegments : TableId → List SegmentView → Type 0
AreEmptySegments book segments =
    (k : ℕ) (v : SegmentView) → slice_get segments k ≡ Some v → v ≡ record { book = book; segment = k; marks = [] }

abbrev pub AreEmptyFiles : TableId → List FileView → Type 0
AreEmptyFiles book files =
    (k : ℕ) (v : FileView) → slice_get files k ≡ Some v → v ≡ record { book = book; inode = k + 1; tickets = []; tokens = []; content = None }

abbrev pub AreEmptyShards : TableId → List ShardView → Type 0
AreEmptyShards book shards =
    (k : ℕ) (v : ShardView) → slice_get shards k ≡ Some v → v ≡ record { book = book; shard = k; taken = [] }

-- so many hands with nothing in them
abbrev pub hands_claims : ℕ → List Claim
hands_claims n = each_below n (λ k. Hand [] [])

-- the parts of one claim
abbrev pub number_of : Claim → ℕ
number_of (Segment s ms) = s
number_of (Hand ts ks) = 0
number_of (File i ts ks f) = i
number_of (Shard k es) = k
number_of (Pass i f) = i
number_of (Census cs) = 0

abbrev pub marks_of : Claim → List Mark
marks_of (Segment s ms) = ms
marks_of (Hand ts ks) = ts
marks_of (File i ts ks f) = ts
marks_of (Shard k es) = []
marks_of (Pass i f) = []
marks_of (Census cs) = []

abbrev pub entries_of : Claim → List TakenNumber
entries_of (Segment s ms) = []
entries_of (Hand ts ks) = ks
entries_of (File i ts ks f) = ks
entries_of (Shard k es) = es
entries_of (Pass i f) = []
entries_of (Census cs) = []

-- the bytes of the entry that stands in front of what a holder has
abbrev pub bytes_of : List TakenNumber → List ℕ
bytes_of [] = []
bytes_of (e ∷ es) = e.bytes

abbrev pub content_of : Claim → Option FileContent
content_of (Segment s ms) = None
content_of (Hand ts ks) = None
content_of (File i ts ks f) = f
content_of (Shard k es) = None
content_of (Pass i f) = Some f
content_of (Census cs) = None

abbrev pub copies_of : Claim → List Copied
copies_of (Segment s ms) = []
copies_of (Hand ts ks) = []
copies_of (File i ts ks f) = []
copies_of (Shard k es) = []
copies_of (Pass i f) = []
copies_of (Census cs) = cs

abbrev pub first_of : List Claim → Claim
first_of [] = Hand [] []
first_of (c ∷ cs) = c

abbrev pub bytes_in_front : Held Claim → List ℕ
bytes_in_front h = bytes_of (entries_of (first_of h.claims))

abbrev pub shown_content : Option FileContent → FileContent
shown_content (Some f) = f
shown_content None = record { kind = kind.File; length = 0; blocks = [] }

abbrev pub segment_view : Held Claim → SegmentView
segment_view h = record { book = h.book; segment = number_of (first_of h.claims); marks = marks_of (first_of h.claims) }

abbrev pub hand_view : Held Claim → HandView
hand_view h = record { book = h.book; tickets = marks_of (first_of h.claims); tokens = entries_of (first_of h.claims) }

abbrev pub file_view : Held Claim → FileView
file_view h = record { book = h.book; inode = number_of (first_of h.claims); tickets = marks_of (first_of h.claims); tokens = entries_of (first_of h.claims); content = content_of (first_of h.claims) }

abbrev pub shard_view : Held Claim → ShardView
shard_view h = record { book = h.book; shard = number_of (first_of h.claims); taken = entries_of (first_of h.claims) }

abbrev pub pass_view : Held Claim → PassView
pass_view h = record { book = h.book; inode = number_of (first_of h.claims); content = shown_content (content_of (first_of h.claims)) }

abbrev pub census_view : Held Claim → CensusView
census_view h = record { book = h.book; copies = copies_of (first_of h.claims) }

-- the claims of each view
abbrev pub segment_claims : SegmentView → List Claim
segment_claims v = Segment v.segment v.marks ∷ []

abbrev pub hand_claims : HandView → List Claim
hand_claims v = Hand v.tickets v.tokens ∷ []

abbrev pub file_claims : FileView → List Claim
file_claims v = File v.inode v.tickets v.tokens v.content ∷ []

abbrev pub shard_claims : ShardView → List Claim
shard_claims v = Shard v.shard v.taken ∷ []

abbrev pub pass_claims : PassView → List Claim
pass_claims v = Pass v.inode v.content ∷ []

abbrev pub census_claims : CensusView → List Claim
census_claims v = Census v.copies ∷ []
