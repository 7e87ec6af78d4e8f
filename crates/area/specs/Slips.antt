-- What becomes of the slips of free segments.
use Rattle.std.specs.Prelude.{◌≡◌, ◌⊎◌, ℕ, ◌+◌, ◌<◌, List, length, All, Option, None, Some}
use Rattle.atomic_table.specs.Seated.{TableId}
use Rattle.geometry.specs.Weights.{weigh}
use Rattle.words.specs.Tokens.{FreeSegment, OpenSegment}
use Rattle.pool.specs.declared.law.Account.{Account}
use Rattle.pool.specs.Law.{took_ordinary, took_reserve}
use Rattle.area.specs.declared.append.Who.{Who}
use Rattle.area.specs.declared.append.Who.TheVariants.{Ordinary, Cleaning, Checkpoint}

-- slips of these words, each of one of so many segments
abbrev pub AreSlipsOf : TableId → ℕ → List FreeSegment → Type 0
AreSlipsOf table count slips = All (λ s. (s.table ≡ table) × (s.segment < count)) slips

-- what the segments weigh whose slips a pass has put, and those whose slips are kept
abbrev pub put_and_kept : (ℕ → ℕ) → Account → List FreeSegment → ℕ
put_and_kept h pass kept = weigh h pass.ordinary.put + weigh h pass.reserve.put + weigh (λ (s : FreeSegment). h s.segment) kept

-- The slips of these segments, and those that were kept, were put or are kept, each once. The pass has taken nothing.
pub record HavePut (segments : List ℕ) (old new : Account) (before after : List FreeSegment) : Type 0 where
  pub slips : (h : ℕ → ℕ) → put_and_kept h new after ≡ put_and_kept h old before + weigh h segments
  pub parts : (new.ordinary.parts ≡ old.ordinary.parts) × (new.reserve.parts ≡ old.reserve.parts)
  pub taken : (new.ordinary.taken ≡ old.ordinary.taken) × (new.reserve.taken ≡ old.reserve.taken)

-- So many segments were freed, and their slips were put or are kept.
pub record HaveFreed (segments count : ℕ) (old new : Account) (before after : List FreeSegment) : Type 0 where
  pub freed : List ℕ
  pub count_is : length freed ≡ count
  pub within : All (λ n. n < segments) freed
  pub put : HavePut freed old new before after

-- The pass took the slip of this segment, and nothing else: only who may draw on the reserve took it there.
abbrev pub HasDrawn : Who → ℕ → Account → Account → Type 0
HasDrawn Ordinary segment old new = new ≡ took_ordinary old segment
HasDrawn (Cleaning address) segment old new = (new ≡ took_ordinary old segment) ⊎ (new ≡ took_reserve old segment)
HasDrawn Checkpoint segment old new = (new ≡ took_ordinary old segment) ⊎ (new ≡ took_reserve old segment)

-- A log has this open segment: the one that it had, and then its pass took nothing; or, where it had none, the one whose
-- slip its pass took.
abbrev pub HasOpened : Who → Option OpenSegment → ℕ → Account → Account → Type 0
HasOpened who (Some slip) segment old new = (slip.segment ≡ segment) × (new ≡ old)
HasOpened who None segment old new = HasDrawn who segment old new
