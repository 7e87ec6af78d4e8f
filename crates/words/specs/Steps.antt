-- What each step on a word tells its caller: the number found, and what the seat claims after it.
use Rattle.std.specs.Prelude.{◌≡◌, ◌≢◌, ℕ, ◌+◌, ◌/◌, ◌%◌, ◌<◌, ◌≤◌, cond, eqb, List, [], ◌∷◌}
use Rattle.atomic_table.specs.Table.{Me, Step}
use Rattle.geometry.specs.declared.state.State.TheVariants.{Free, Open}
use Rattle.words.specs.declared.claim.Life.{Life}
use Rattle.words.specs.declared.claim.Pins.{Pins}
use Rattle.words.specs.declared.claim.SeatClaim.{SeatClaim}
use Rattle.words.specs.declared.claim.SeatClaim.TheVariants.{Stands, Slip, Appends, Reads, Checkpoint}
use Rattle.geometry.specs.Life.{Stage}
use Rattle.geometry.specs.Life as life
use Rattle.geometry.specs.Version.{next_version}
use Rattle.words.specs.Claims.{times, times_at, life_of, pins_of, version_of}

-- a seat's claims, and the slots that it holds, of which there are none
abbrev pub SeatState : Type 0
SeatState = Me (Unit {0}) (List SeatClaim)

-- A load reads a word and leaves what it found in the seat's view. These steps alone are loads: `version_loaded` and `counted`
-- of a standing, each of which raises a count of its own by 1, and `version_seen` and `pins_counted` of a reader's seat, which
-- raise `loads` by 1.

-- what a standing knows after each of its steps

abbrev pub life_seen : Life → ℕ → Life
life_seen l r = record l { seen = r; version_loads = l.version_loads + 1 }

abbrev pub life_loaded : Life → ℕ → Life
life_loaded l p = record l { pins = p; pin_loads = l.pin_loads + 1 }

-- a step that is no load found so many pins
abbrev pub life_counted : Life → ℕ → Life
life_counted l p = record l { pins = p }

-- where the segment is in its life
abbrev pub stage_of : Life → Stage
stage_of l = record { state = l.state; incarnation = l.incarnation; stamp = l.stamp }

-- a standing whose segment is at another stage, where the step found so many pins
abbrev pub life_at : Life → Stage → ℕ → Life
life_at l stage p = record l { state = stage.state; incarnation = stage.incarnation; stamp = stage.stamp; pins = p }

abbrev pub life_opened : Life → Life
life_opened l = life_at l (life.opened (stage_of l)) 0

abbrev pub life_sealed : Life → ℕ → Life
life_sealed l p = life_at l (life.sealed (stage_of l)) p

-- the stamp is the version that was loaded last
abbrev pub life_retired : Life → ℕ → Life
life_retired l p = life_at l (life.retired l.seen (stage_of l)) p

abbrev pub life_freed : Life → Life
life_freed l = life_at l (life.freed (stage_of l)) 0

-- what a reader's seat knows after each of its steps

abbrev pub pins_seen : Pins → ℕ → Pins
pins_seen p r = record p { seen = r; loads = p.loads + 1 }

abbrev pub pins_loaded : Pins → ℕ → ℕ → Pins
pins_loaded p s count = record p { load = (s, count); loads = p.loads + 1 }

abbrev pub pins_with : Pins → ℕ → ℕ → Pins
pins_with p s i = record p { held = (s, i) ∷ p.held }

-- the pins but the first one on the segment s
abbrev pub without : ℕ → List (ℕ × ℕ) → List (ℕ × ℕ)
without s [] = []
without s (p ∷ ps) = cond (eqb p.0 s) ps (p ∷ without s ps)

abbrev pub pins_without : Pins → ℕ → Pins
pins_without p s = record p { held = without s p.held }

-- the steps

abbrev pub version_loaded : Step (Unit {0}) → SeatState → ℕ → SeatState → Type 0
version_loaded st m r m' = (m'.1 ≡ m.1) × (m'.0 ≡ Stands (life_seen (life_of m.0) r) ∷ [])
    × ((life_of m.0).seen ≤ r) × ((life_of m.0).incarnation ≤ r) × (r < 4294967296)

abbrev pub counted : Step (Unit {0}) → SeatState → ℕ → SeatState → Type 0
counted st m r m' = (m'.1 ≡ m.1) × (m'.0 ≡ Stands (life_loaded (life_of m.0) (r % 256)) ∷ []) × (r % 256 ≤ 64)

-- the appender shows that the segment was open
abbrev pub sealed : Step (Unit {0}) → SeatState → ℕ → SeatState → Type 0
sealed st m r m' = (m'.1 ≡ m.1) × (m'.0 ≡ Stands (life_sealed (life_of m.0) (r % 256)) ∷ []) × (r % 256 ≤ 64)
    × ((life_of m.0).state ≡ Open)

abbrev pub retired : Step (Unit {0}) → SeatState → ℕ → SeatState → Type 0
retired st m r m' = (m'.1 ≡ m.1) × (m'.0 ≡ Stands (life_retired (life_of m.0) (r % 256)) ∷ []) × (r % 256 ≤ 64)

abbrev pub freed : Step (Unit {0}) → SeatState → ℕ → SeatState → Type 0
freed st m r m' = (m'.1 ≡ m.1) × (m'.0 ≡ Stands (life_freed (life_of m.0)) ∷ Slip (life_of m.0).segment ∷ [])

-- the slip shows that the segment was free
abbrev pub opened : Step (Unit {0}) → SeatState → ℕ → SeatState → Type 0
opened st m r m' = (m'.1 ≡ m.1)
    × (m'.0 ≡ Stands (life_opened (life_of m.0)) ∷ Appends (life_of m.0).segment ∷ [])
    × ((life_of m.0).state ≡ Free)

-- a standing and its segment's appender together: the segment is open
abbrev pub shown_open : Step (Unit {0}) → SeatState → ℕ → SeatState → Type 0
shown_open st m r m' = (m'.1 ≡ m.1) × (m'.0 ≡ m.0) × ((life_of m.0).state ≡ Open)

-- two appenders together: they are of two segments
abbrev pub shown_apart : Step (Unit {0}) → SeatState → ℕ → SeatState → Type 0
shown_apart st m r m' = (m'.1 ≡ m.1) × (m'.0 ≡ m.0) × ((a b : ℕ) → m.0 ≡ Appends a ∷ Appends b ∷ [] → a ≢ b)

abbrev pub pinned : Step (Unit {0}) → SeatState → ℕ → SeatState → Type 0
pinned st m r m' = (m'.1 ≡ m.1)
    × (m'.0 ≡ Stands (life_counted (life_of m.0) (r % 256))
    ∷ Reads (pins_with (pins_of m.0) (life_of m.0).segment (life_of m.0).incarnation) ∷ []) × (r % 256 ≤ 63)

abbrev pub unpinned : Step (Unit {0}) → SeatState → ℕ → SeatState → Type 0
unpinned st m r m' = (m'.1 ≡ m.1) × (m'.0 ≡ Reads (pins_without (pins_of m.0) st.word) ∷ [])

-- each pin of the seat's own is counted, and has the word's incarnation
abbrev pub pins_counted : Step (Unit {0}) → SeatState → ℕ → SeatState → Type 0
pins_counted st m r m' = (m'.1 ≡ m.1) × (m'.0 ≡ Reads (pins_loaded (pins_of m.0) st.word (r % 256)) ∷ [])
    × (r % 256 ≤ 64) × (times st.word (pins_of m.0).held ≤ r % 256)
    × ((i : ℕ) → 0 < times_at st.word i (pins_of m.0).held → r / 65536 ≡ i)

abbrev pub version_seen : Step (Unit {0}) → SeatState → ℕ → SeatState → Type 0
version_seen st m r m' = (m'.1 ≡ m.1) × (m'.0 ≡ Reads (pins_seen (pins_of m.0) r) ∷ [])
    × ((pins_of m.0).seen ≤ r) × (r < 4294967296)

abbrev pub advanced : Step (Unit {0}) → SeatState → ℕ → SeatState → Type 0
advanced st m r m' = (m'.1 ≡ m.1) × (m'.0 ≡ Checkpoint (next_version (version_of m.0)) ∷ []) × (r ≡ version_of m.0)

-- a standing and a reader's seat together: each pin of the seat on this segment has its incarnation, and the segment
-- is not free
abbrev pub agreed : Step (Unit {0}) → SeatState → ℕ → SeatState → Type 0
agreed st m r m' = (m'.1 ≡ m.1) × (m'.0 ≡ m.0)
    × ((i : ℕ) → 0 < times_at (life_of m.0).segment i (pins_of m.0).held → i ≡ (life_of m.0).incarnation)
    × (0 < times (life_of m.0).segment (pins_of m.0).held → (life_of m.0).state ≢ Free)
