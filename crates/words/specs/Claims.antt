-- What the seats claim, and how claims are counted.
use Rattle.std.specs.Prelude.{ℕ, zero, suc, ◌+◌, ◌*◌, cond, eqb, List, [], ◌∷◌, ◌++◌, replicate}
use Rattle.geometry.specs.declared.state.State.{State}
use Rattle.geometry.specs.declared.state.State.TheVariants.{Free, Open, Sealed, Prefree}
use Rattle.geometry.specs.Weights.{weigh}
use Rattle.words.specs.declared.claim.Life.{Life}
use Rattle.words.specs.declared.claim.Pins.{Pins}
use Rattle.words.specs.declared.claim.SeatClaim.{SeatClaim}
use Rattle.words.specs.declared.claim.SeatClaim.TheVariants.{Stands, Slip, Appends, Reads, Checkpoint}

-- P holds of each element
abbrev pub Every : {X : Type 0} → (X → Type 0) → List X → Type 0
Every P [] = Unit {0}
Every P (x ∷ xs) = P x × Every P xs

-- the sum of f over all claims of all seats
abbrev pub total : (SeatClaim → ℕ) → List (List SeatClaim) → ℕ
total f views = weigh (λ v. weigh f v) views

-- n where the two numbers are equal, else 0
unfoldable pub at : ℕ → ℕ → ℕ → ℕ
at a s n = cond (eqb a s) n 0

abbrev pub code : State → ℕ
code Free = 0
code Open = 1
code Sealed = 2
code Prefree = 3

-- 1 where the state is free
abbrev pub is_free : State → ℕ
is_free Free = 1
is_free Open = 0
is_free Sealed = 0
is_free Prefree = 0

-- 1 where the state is open
abbrev pub is_open : State → ℕ
is_open Free = 0
is_open Open = 1
is_open Sealed = 0
is_open Prefree = 0

-- how many pins there may be. While a segment is open or sealed there is no other bound than the number of readers;
-- after that the pins only get fewer
abbrev pub room_of : State → ℕ → ℕ
room_of Free pins = 0
room_of Open pins = 64
room_of Sealed pins = 64
room_of Prefree pins = pins

-- how many of the pins are on the segment s
abbrev pub times : ℕ → List (ℕ × ℕ) → ℕ
times s held = weigh (λ p. at p.0 s 1) held

-- how many of them are on its incarnation i
abbrev pub times_at : ℕ → ℕ → List (ℕ × ℕ) → ℕ
times_at s i held = weigh (λ p. at p.0 s (at p.1 i 1)) held

-- what one claim adds to each count

-- the standings of the segment s
abbrev pub stands : ℕ → SeatClaim → ℕ
stands s (Stands l) = at l.segment s 1
stands s (Slip k) = 0
stands s (Appends k) = 0
stands s (Reads r) = 0
stands s (Checkpoint v) = 0

-- its standings in the incarnation i
abbrev pub stands_at : ℕ → ℕ → SeatClaim → ℕ
stands_at s i (Stands l) = at l.segment s (at l.incarnation i 1)
stands_at s i (Slip k) = 0
stands_at s i (Appends k) = 0
stands_at s i (Reads r) = 0
stands_at s i (Checkpoint v) = 0

-- state and incarnation, as they stand in the word
abbrev pub rank_of : Life → ℕ
rank_of l = 256 * code l.state + 65536 * l.incarnation

abbrev pub rank : ℕ → SeatClaim → ℕ
rank s (Stands l) = at l.segment s (rank_of l)
rank s (Slip k) = 0
rank s (Appends k) = 0
rank s (Reads r) = 0
rank s (Checkpoint v) = 0

-- its standings that say that it is free
abbrev pub frees : ℕ → SeatClaim → ℕ
frees s (Stands l) = at l.segment s (is_free l.state)
frees s (Slip k) = 0
frees s (Appends k) = 0
frees s (Reads r) = 0
frees s (Checkpoint v) = 0

-- its standings that say that it is open
abbrev pub opens : ℕ → SeatClaim → ℕ
opens s (Stands l) = at l.segment s (is_open l.state)
opens s (Slip k) = 0
opens s (Appends k) = 0
opens s (Reads r) = 0
opens s (Checkpoint v) = 0

-- how many pins it may have
abbrev pub room : ℕ → SeatClaim → ℕ
room s (Stands l) = at l.segment s (room_of l.state l.pins)
room s (Slip k) = 0
room s (Appends k) = 0
room s (Reads r) = 0
room s (Checkpoint v) = 0

-- its free slips
abbrev pub slips : ℕ → SeatClaim → ℕ
slips s (Stands l) = 0
slips s (Slip k) = at k s 1
slips s (Appends k) = 0
slips s (Reads r) = 0
slips s (Checkpoint v) = 0

-- its open slips
abbrev pub appends : ℕ → SeatClaim → ℕ
appends s (Stands l) = 0
appends s (Slip k) = 0
appends s (Appends k) = at k s 1
appends s (Reads r) = 0
appends s (Checkpoint v) = 0

-- its pins
abbrev pub pins : ℕ → SeatClaim → ℕ
pins s (Stands l) = 0
pins s (Slip k) = 0
pins s (Appends k) = 0
pins s (Reads r) = times s r.held
pins s (Checkpoint v) = 0

-- its pins with the incarnation i
abbrev pub pins_at : ℕ → ℕ → SeatClaim → ℕ
pins_at s i (Stands l) = 0
pins_at s i (Slip k) = 0
pins_at s i (Appends k) = 0
pins_at s i (Reads r) = times_at s i r.held
pins_at s i (Checkpoint v) = 0

-- readers' seats
abbrev pub readers : SeatClaim → ℕ
readers (Stands l) = 0
readers (Slip k) = 0
readers (Appends k) = 0
readers (Reads r) = 1
readers (Checkpoint v) = 0

-- the checkpoint's seats, and the version that they say is complete
abbrev pub checkpoints : SeatClaim → ℕ
checkpoints (Stands l) = 0
checkpoints (Slip k) = 0
checkpoints (Appends k) = 0
checkpoints (Reads r) = 0
checkpoints (Checkpoint v) = 1

abbrev pub version : SeatClaim → ℕ
version (Stands l) = 0
version (Slip k) = 0
version (Appends k) = 0
version (Reads r) = 0
version (Checkpoint v) = v

-- the claims at the start

abbrev pub fresh_life : ℕ → Life
fresh_life s = record { segment = s; state = Free; incarnation = 0; stamp = 0; seen = 0; version_loads = 0; pin_loads = 0; pins = 0 }

-- a new reader knows of the version 1, which no completed version is below
abbrev pub fresh_pins : Pins
fresh_pins = record { held = []; seen = 1; load = (0, 0); loads = 0 }

-- the standing and the slip of each of `count` segments from s on
abbrev pub fresh_segments : ℕ → ℕ → List SeatClaim
fresh_segments s zero = []
fresh_segments s (suc count) = Stands (fresh_life s) ∷ Slip s ∷ fresh_segments (suc s) count

abbrev pub opening_view : ℕ → ℕ → ℕ → List SeatClaim
opening_view segments seats start = Checkpoint start ∷ fresh_segments 0 segments ++ replicate seats (Reads fresh_pins)

-- what a view's first claim of each kind says

abbrev pub life_of : List SeatClaim → Life
life_of [] = fresh_life 0
life_of (Stands l ∷ cs) = l
life_of (Slip k ∷ cs) = life_of cs
life_of (Appends k ∷ cs) = life_of cs
life_of (Reads r ∷ cs) = life_of cs
life_of (Checkpoint v ∷ cs) = life_of cs

abbrev pub pins_of : List SeatClaim → Pins
pins_of [] = fresh_pins
pins_of (Stands l ∷ cs) = pins_of cs
pins_of (Slip k ∷ cs) = pins_of cs
pins_of (Appends k ∷ cs) = pins_of cs
pins_of (Reads r ∷ cs) = r
pins_of (Checkpoint v ∷ cs) = pins_of cs

abbrev pub version_of : List SeatClaim → ℕ
version_of [] = 0
version_of (Stands l ∷ cs) = version_of cs
version_of (Slip k ∷ cs) = version_of cs
version_of (Appends k ∷ cs) = version_of cs
version_of (Reads r ∷ cs) = version_of cs
version_of (Checkpoint v ∷ cs) = v

-- how a view is cut: the second claim goes
abbrev pub without_second : List SeatClaim → List SeatClaim
without_second [] = []
without_second (a ∷ []) = a ∷ []
without_second (a ∷ b ∷ cs) = a ∷ cs

abbrev pub second : List SeatClaim → List SeatClaim
second [] = []
second (a ∷ []) = []
second (a ∷ b ∷ cs) = b ∷ []
