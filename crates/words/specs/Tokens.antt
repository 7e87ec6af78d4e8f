-- What callers see of the tokens.
use Rattle.std.specs.Prelude.{◌≡◌, ℕ, zero, suc, ◌<◌, ◌≤◌, ◌⊎◌, List, [], ◌∷◌}
use Rattle.atomic_table.specs.Seated.{TableId}
use Rattle.geometry.specs.declared.state.State.{State}
use Rattle.geometry.specs.declared.state.State.TheVariants.{Free, Open, Sealed}
use Rattle.words.specs.declared.claim.Life.{Life}
use Rattle.words.specs.declared.claim.Pins.{Pins}
use Rattle.geometry.specs.Life.{LifeStep}
use Rattle.geometry.specs.Version.{next_version}
use Rattle.words.specs.Claims.{fresh_life, fresh_pins}
use Rattle.words.specs.Steps.{stage_of, life_seen, life_loaded, life_sealed, life_retired, life_freed, life_opened}

-- the words of one volume
pub record Shelf : Type 0 where
  pub table : TableId
  pub segments : ℕ

-- a standing: whose words they are, and what it knows of its segment
pub record Post : Type 0 where
  pub table : TableId
  pub life : Life

-- a free segment's slip
pub record FreeSegment : Type 0 where
  pub table : TableId
  pub segment : ℕ

-- an open segment's slip
pub record OpenSegment : Type 0 where
  pub table : TableId
  pub segment : ℕ

-- a reader's seat
pub record Holder : Type 0 where
  pub table : TableId
  pub pins : Pins

-- the checkpoint's seat, which alone moves the completed version
pub record Keeper : Type 0 where
  pub table : TableId
  pub version : ℕ

-- the states in which a segment may be pinned
abbrev pub IsPinnable : State → Type 0
IsPinnable s = (s ≡ Open) ⊎ (s ≡ Sealed)

-- one step of the segment's life, while the version that the standing loaded last is complete
abbrev pub HasStepped : Post → Post → Type 0
HasStepped old new = LifeStep new.life.seen (stage_of old.life) (stage_of new.life)

-- the next version is complete
abbrev pub HasAdvanced : Keeper → Keeper → Type 0
HasAdvanced old new = (new.table ≡ old.table) × (new.version ≡ next_version old.version)

-- What each move does to a standing. `found` is how many pins the move's own step found.

abbrev pub IsOpened : Post → OpenSegment → Post → Type 0
IsOpened old slip new = (old.life.state ≡ Free) × (slip.table ≡ old.table) × (slip.segment ≡ old.life.segment)
    × (new.table ≡ old.table) × (new.life ≡ life_opened old.life) × HasStepped old new

abbrev pub IsSealed : Post → Post → Type 0
IsSealed old new = (found : ℕ) × (found ≤ 64) × (old.life.state ≡ Open) × (new.table ≡ old.table)
    × (new.life ≡ life_sealed old.life found) × HasStepped old new

-- the stamp is the completed version, which the move's one load showed
abbrev pub IsRetired : Post → Post → Type 0
IsRetired old new = (completed found : ℕ) × (found ≤ 64) × (old.life.seen ≤ completed)
    × (new.table ≡ old.table) × (new.life ≡ life_retired (life_seen old.life completed) found)
    × HasStepped old new

-- the move's own two loads showed no pin and a version later than the stamp
abbrev pub IsFreed : Post → FreeSegment → Post → Type 0
IsFreed old slip new = (completed : ℕ) × (old.life.stamp < completed) × (slip.table ≡ old.table)
    × (slip.segment ≡ old.life.segment)
    × (new.table ≡ old.table) × (new.life ≡ life_freed (life_seen (life_loaded old.life 0) completed)) × HasStepped old new

-- the move's own two loads showed a pin, or a version not later than the stamp
abbrev pub IsKept : Post → Post → Type 0
IsKept old new = (completed found : ℕ) × (found ≤ 64) × ((0 < found) ⊎ (completed ≤ old.life.stamp))
    × (new.table ≡ old.table) × (new.life ≡ life_seen (life_loaded old.life found) completed)

-- what `new` makes

abbrev pub fresh_post : TableId → ℕ → Post
fresh_post table s = record { table = table; life = fresh_life s }

abbrev pub fresh_slip : TableId → ℕ → FreeSegment
fresh_slip table s = record { table = table; segment = s }

abbrev pub fresh_holder : TableId → Holder
fresh_holder table = record { table = table; pins = fresh_pins }

-- the standings, and the slips, of `count` segments from s on
abbrev pub fresh_posts : TableId → ℕ → ℕ → List Post
fresh_posts table s zero = []
fresh_posts table s (suc count) = fresh_post table s ∷ fresh_posts table (suc s) count

abbrev pub fresh_slips : TableId → ℕ → ℕ → List FreeSegment
fresh_slips table s zero = []
fresh_slips table s (suc count) = fresh_slip table s ∷ fresh_slips table (suc s) count
