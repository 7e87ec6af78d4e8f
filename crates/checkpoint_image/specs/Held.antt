-- What lies in rows of locks, by what each of them shows.
use Rattle.std.specs.Prelude.{◌≡◌, ◌<◌, ◌%◌, ℕ, List, [], map, slice_get, slice_index_or, Option, Some, IfSome, All, sum_by}
use Rattle.std.specs.List.{flat_map}
use Rattle.geometry.specs.declared.owner.Summary.{Summary}
use Rattle.geometry.specs.Shape.{segment_blocks}
use Rattle.image.specs.declared.image.NodeEntry.{NodeEntry}
use Rattle.image.specs.declared.image.LogHead.{LogHead}
use Rattle.image.specs.Image.{SegmentInfo}
use Rattle.image.specs.Walk.{up_to}
use Rattle.sit.specs.Registered.{Registered}
use Rattle.sit.specs.Segment.{Segment}
use Rattle.nat.specs.Shard.{ShardNodes, HasOwnNodes}
use Rattle.image_law.specs.Parts.{SegmentState, info, summaries_in as each_summary, found}
use Rattle.checkpoint_image.specs.Cells.{Cells, Filed, segment_part, shard_part, place_in}

module _ {S : Type 0} (shown : S → Registered) where
  abbrev pub segment_in : S → Segment
  segment_in s = (shown s).segment

  -- its part of the image
  abbrev pub part_in : S → SegmentState
  part_in s = segment_part (segment_in s)

  abbrev pub segments_in : List S → List Segment
  segments_in held = map segment_in held

  abbrev pub infos_in : List S → List SegmentInfo
  infos_in held = map (λ s. info (part_in s)) held

  abbrev pub summaries_in : List S → List Summary
  summaries_in held = flat_map (λ s. each_summary (part_in s)) held

  abbrev pub total_in : List S → ℕ
  total_in held = sum_by (λ s. (info (part_in s)).count) held

  -- each has so many blocks
  abbrev pub HaveBlocks : ℕ → List S → Type 0
  HaveBlocks blocks held = All (λ s. segment_blocks (segment_in s).shape ≡ blocks) held

module _ {H : Type 0} (shown : H → ShardNodes) where
  abbrev pub shards_in : List H → List ShardNodes
  shards_in held = map shown held

  abbrev pub AreOwnShards : List H → Type 0
  AreOwnShards held = (k : ℕ) (h : H) → slice_get held k ≡ Some h → ((shown h).shard ≡ k) × HasOwnNodes (shown h)

  -- the entry of a number, in the shard that it is of
  abbrev pub entry_in : List H → ℕ → NodeEntry
  entry_in held number = found number (slice_index_or (map (λ h. shard_part (shown h)) held) (number % 16) [])

  abbrev pub entries_in : List H → ℕ → List NodeEntry
  entries_in held nodes = map (entry_in held) (up_to nodes)

module _ {L : Type 0} (shown : L → Option ℕ) where
  abbrev pub places_in : List Segment → List L → List (Option LogHead)
  places_in segments held = map (λ l. place_in segments (shown l)) held

  -- the open segment of each is one of so many
  abbrev pub AreWithin : ℕ → List L → Type 0
  AreWithin count held = All (λ l. IfSome (shown l) (λ n. n < count)) held

-- all that is held
abbrev pub cells_in : {S H L F : Type 0} → (S → Registered) → (H → ShardNodes) → (L → Option ℕ) → (F → Filed) → List S → List H → List L → List F → Cells
cells_in segment shard log file segments shards logs files = record {
  segments = map (segment_in segment) segments;
  shards = map shard shards;
  logs = map log logs;
  files = map file files;
}
