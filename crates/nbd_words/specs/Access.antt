-- What a request may ask of a disk.
use Rattle.std.specs.Prelude.{◌≡◌, ◌≢◌, ◌⊎◌, ◌≤◌, ◌<◌, ◌+◌, ◌==◌, ℕ, Bool, true, false, not, if◌then◌else◌, bit_and}
use Rattle.nbd_words.specs.Request.{Words}
use Rattle.nbd_words.specs.declared.judging.Access.{Access}
use Rattle.nbd_words.specs.declared.judging.Access.TheVariants.{Read, Write, Flush, Trim, Zero, Leave}
use Rattle.nbd_words.specs.declared.judging.Disk.{Disk}
use Rattle.nbd_words.specs.declared.judging.Refusal.{Refusal}
use Rattle.nbd_words.specs.declared.judging.Refusal.TheVariants.{Unknown, BadFlags, FlushOfAPart, ReadOnly, TooLong, ReadPastEnd, WritePastEnd}

-- a WRITE, a TRIM or a WRITE_ZEROES
abbrev pub IsChange : ℕ → Type 0
IsChange kind = (kind ≡ 1) ⊎ ((kind ≡ 4) ⊎ (kind ≡ 6))

-- each request may have FUA (1), and WRITE_ZEROES also NO_HOLE (2)
abbrev pub unknown_flags : ℕ → ℕ
unknown_flags kind = if kind == 6 then 0xFFFC else 0xFFFE

-- the flag FUA
abbrev pub is_through : Words → Bool
is_through words = not (bit_and words.flags 1 == 0)

-- the flag NO_HOLE
abbrev pub keeps_room : Words → Bool
keeps_room words = not (bit_and words.flags 2 == 0)

-- an access is at the place and of the length that the request tells, and all of it lies on the disk
pub record IsOnDisk (disk : Disk) (words : Words) (offset length : ℕ) : Type 0 where
  pub there : offset ≡ words.offset
  pub long : length ≡ words.length
  pub within : offset + length ≤ disk.bytes
  pub known : bit_and words.flags (unknown_flags words.kind) ≡ 0

-- the access is what the request asks, and the disk may do it
abbrev pub IsAllowed : Disk → Words → Access → Type 0
IsAllowed disk words (Read offset length) = (words.kind ≡ 0) × IsOnDisk disk words offset length × (length ≤ disk.most)
IsAllowed disk words (Write offset length through) =
    (words.kind ≡ 1) × IsOnDisk disk words offset length × (length ≤ disk.most) × (disk.read_only ≡ false) × (through ≡ is_through words)
IsAllowed disk words Flush = (words.kind ≡ 3) × IsOnDisk disk words 0 0
IsAllowed disk words (Trim offset length through) =
    (words.kind ≡ 4) × IsOnDisk disk words offset length × (disk.read_only ≡ false) × (through ≡ is_through words)
IsAllowed disk words (Zero offset length through keep) =
    (words.kind ≡ 6) × IsOnDisk disk words offset length × (disk.read_only ≡ false) × (through ≡ is_through words) × (keep ≡ keeps_room words)
IsAllowed disk words Leave = words.kind ≡ 2

-- why it may not: what is said here can't be where an access is allowed
abbrev pub IsRefused : Disk → Words → Refusal → Type 0
IsRefused disk words Unknown = (words.kind ≡ 5) ⊎ (6 < words.kind)
IsRefused disk words BadFlags = (words.kind ≢ 2) × (bit_and words.flags (unknown_flags words.kind) ≢ 0)
IsRefused disk words FlushOfAPart = (words.kind ≡ 3) × ((words.offset ≢ 0) ⊎ (words.length ≢ 0))
IsRefused disk words ReadOnly = IsChange words.kind × (disk.read_only ≡ true)
IsRefused disk words TooLong = ((words.kind ≡ 0) ⊎ (words.kind ≡ 1)) × (disk.most < words.length)
IsRefused disk words ReadPastEnd = (words.kind ≡ 0) × (disk.bytes < words.offset + words.length)
IsRefused disk words WritePastEnd = IsChange words.kind × (disk.bytes < words.offset + words.length)
