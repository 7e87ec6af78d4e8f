-- The rule of the words.
use Rattle.std.specs.Prelude.{◌≡◌, ℕ, ◌+◌, ◌*◌, ◌<◌, ◌≤◌, List, length, slice_index}
use Rattle.geometry.specs.declared.state.State.{State}
use Rattle.geometry.specs.declared.state.State.TheVariants.{Free, Open, Sealed, Prefree}
use Rattle.words.specs.declared.claim.SeatClaim.{SeatClaim}
use Rattle.words.specs.declared.claim.SeatClaim.TheVariants.{Stands, Slip, Appends, Reads, Checkpoint}
use Rattle.words.specs.Claims.{Every, total, times, stands, stands_at, rank, frees, opens, room, slips, appends, pins, pins_at, readers, checkpoints, version}

-- The completed version is never below a segment's incarnation, and it is above it while the segment is free: so the
-- next incarnation is not above it either.
abbrev pub IsDated : State → ℕ → ℕ → ℕ → Type 0
IsDated Free completed incarnation stamp = incarnation < completed
IsDated Open completed incarnation stamp = incarnation ≤ completed
IsDated Sealed completed incarnation stamp = incarnation ≤ completed
IsDated Prefree completed incarnation stamp = (incarnation ≤ stamp) × (stamp ≤ completed)

-- what a claim says by itself: no version that was seen is above the completed one, and a seat holds at most one pin
-- a segment
abbrev pub Sound : ℕ → ℕ → SeatClaim → Type 0
Sound n completed (Stands l) = (l.segment < n) × (l.seen ≤ completed)
    × IsDated l.state completed l.incarnation l.stamp
Sound n completed (Slip s) = Unit {0}
Sound n completed (Appends s) = Unit {0}
Sound n completed (Reads r) = ((s : ℕ) → times s r.held ≤ 1) × (r.seen ≤ completed)
Sound n completed (Checkpoint v) = Unit {0}

-- The words are those of n segments and of the completed version, and the views are the claims of all seats
pub record Law (n : ℕ) (words : List ℕ) (views : List (List SeatClaim)) : Type 0 where
  pub wide : length words ≡ n + 1
  -- each segment has one standing, and there is one checkpoint's seat
  pub one_standing : (s : ℕ) → s < n → total (stands s) views ≡ 1
  pub one_checkpoint : total checkpoints views ≡ 1
  -- a word is its standing's state and incarnation, and the number of pins
  pub encoded : (s : ℕ) → s < n → slice_index words s ≡ total (rank s) views + total (pins s) views
  pub completed : slice_index words n ≡ total version views
  pub bounded : slice_index words n < 4294967296
  -- a segment has a slip just while it is free, and then one
  pub one_slip : (s : ℕ) → total (slips s) views ≡ total (frees s) views
  -- and an appender just while it is open, and then one
  pub one_appender : (s : ℕ) → total (appends s) views ≡ total (opens s) views
  -- a free segment has no pin
  pub within : (s : ℕ) → total (pins s) views ≤ total (room s) views
  -- each pin has the incarnation of its segment's standing
  pub same_life : (s i : ℕ) → total (pins_at s i) views ≤ 64 * total (stands_at s i) views
  pub few_readers : total readers views ≤ 64
  pub sound : Every (Every (Sound n (slice_index words n))) views
