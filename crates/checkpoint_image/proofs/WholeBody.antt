-- Rows of one length, one behind the other, are all of a table; and a head with the three tables is a whole body. So a body that
-- spells the rows that were noted of all parts is the body of the image of these parts.
use Rattle.std.proofs.Common.{◌≡◌, refl, sym, ◌∙◌, ap, subst, ℕ, zero, suc, ◌+◌, ◌*◌, ◌/◌, ◌%◌, ◌^◌, ◌<◌, ◌≤◌, List, [], ◌∷◌, ◌++◌, map, length, take, drop, get_or, append-nil, add-one, arith}
use Rattle.std.specs.Prelude.{slice_get, Some, All}
use Rattle.std.specs.List.{flat_map}
use Rattle.std.proofs.Math.Nat.{zero-mul, suc-mul}
use Rattle.std.proofs.lemmas.Grind.{flat_map-append}
use Rattle.std.proofs.lemmas.List.{drop-drop, take_all, length-map}
use Rattle.std.proofs.lemmas.List.Elements.{All-append}
use Rattle.geometry.specs.declared.geometry.Geometry.{Geometry}
use Rattle.geometry.specs.declared.shape.Shape.{Shape}
use Rattle.geometry.specs.declared.shape.Shape.TheVariants.{Tiny, Kernel}
use Rattle.geometry.specs.declared.owner.Summary.{Summary}
use Rattle.geometry.specs.Shape.{segment_blocks}
use Rattle.device.specs.Disk.{part}
use Rattle.image.specs.Image.{SegmentInfo}
use Rattle.image.specs.Pack.{body_bytes, entry_bytes, segment_bytes, summary_bytes}
use Rattle.image_law.specs.Parts.{Token, info, summaries_in as each_summary, found}
use Rattle.pack_tables.specs.Grammar.{IsSummaryRow}
use Rattle.packs_journal.proofs.Pieces.{take-plus}
use Rattle.rights_books.specs.declared.row_claim.Row.{Row}
use Rattle.rights_books.specs.RowAccounts.{RowView}
use Rattle.sit.specs.Registered.{Registered}
use Rattle.sit.specs.Segment.{Segment}
use Rattle.sit.specs.Noted.{segment_row}
use Rattle.nat.specs.Shard.{ShardNodes}
use Rattle.nat.specs.Noted.{shard_row}
use Rattle.checkpoint_image.specs.Cells.{segment_part, shard_part, IsSegmentAt}
use Rattle.checkpoint_image.specs.Noting.{AreSegmentsAt}
use Rattle.checkpoint_image.specs.Held.{part_in, infos_in, summaries_in, entries_in, entry_in}
use Rattle.checkpoint_image.specs.Kept.{IsKeptBody, IsSegmentIn, IsSmallRow, AreNotedSegments, AreNotedShards, entry_of, info_of, owners_of, row_at, row_in, info_bytes, owners_bytes, infos_at, owners_at}
use Rattle.checkpoint_image.proofs.KeptRows.{entry_noted, got_below}
use Rattle.checkpoint_image.proofs.Taking.{entries_more, flat_twice, map_twice, some_shown}

-- so many bytes from one place on, and so many more
parts_joined : (at n m : ℕ) (body : List ℕ) → part at (n + m) body ≡ part at n body ++ part (at + n) m body
parts_joined at n m body = take-plus n m (drop at body) ∙ ap (λ (l : List ℕ). part at n body ++ take {A = ℕ} m l) (drop-drop n at body)

-- the rows of a table are its bytes
pub rows_cut : {A : Type 0} (f : A → List ℕ) (size : ℕ) (body : List ℕ) (xs : List A) (base : ℕ) → ((k : ℕ) (x : A) → slice_get xs k ≡ Some x → row_in base size k body ≡ f x)
    → part base (length xs * size) body ≡ flat_map f xs
rows_cut f size body [] base rows = ap (λ (n : ℕ). part base n body) (zero-mul size)
rows_cut f size body (x ∷ xs) base rows =
    ap (λ (n : ℕ). part base n body) (suc-mul (length xs) size ∙ omega arith)
    ∙ parts_joined base size (length xs * size) body
    ∙ ap (λ (l : List ℕ). l ++ part (base + size) (length xs * size) body) (ap (λ (n : ℕ). part n size body) (omega (arith, zero-mul size)) ∙ rows 0 x refl)
    ∙ ap (λ (l : List ℕ). f x ++ l)
    (rows_cut f size body xs (base + size) (λ k y at. ap (λ (n : ℕ). part n size body) (omega (arith, suc-mul k size)) ∙ rows (suc k) y at))

-- lists of lists are spelled one after another
flat_flat : {A B C : Type 0} (each : A → List B) (f : B → List C) (xs : List A) → flat_map (λ x. flat_map f (each x)) xs ≡ flat_map f (flat_map each xs)
flat_flat each f [] = refl
flat_flat each f (x ∷ xs) = ap (λ l. flat_map f (each x) ++ l) (flat_flat each f xs) ∙ sym (flat_map-append f (each x) (flat_map each xs))

all_flat : {A B : Type 0} (P : B → Type 0) (each : A → List B) (xs : List A) → ((k : ℕ) (x : A) → slice_get xs k ≡ Some x → All P (each x)) → All P (flat_map each xs)
all_flat P each [] all = λ k d low. absurd (omega arith)
all_flat P each (x ∷ xs) all = All-append P (each x) (flat_map each xs) (all 0 x refl) (all_flat P each xs (λ k y at. all (suc k) y at))

all_map : {A B : Type 0} (P : B → Type 0) (f : A → B) (xs : List A) → ((k : ℕ) (x : A) → slice_get xs k ≡ Some x → P (f x)) → All P (map f xs)
all_map P f [] all k d low = absurd (omega arith)
all_map P f (x ∷ xs) all zero d low = all 0 x refl
all_map P f (x ∷ xs) all (suc k) d low = all_map P f xs (λ j y at. all (suc j) y at) k d (omega arith)

-- an item that lies within a list, and what is made of it
got_some : {A : Type 0} (xs : List A) (k : ℕ) → k < length xs → (x : A) × (slice_get xs k ≡ Some x)
got_some [] k low = absurd (omega arith)
got_some (x ∷ xs) zero low = (x, refl)
got_some (x ∷ xs) (suc k) low = got_some xs k (omega arith)

get_got : {A B : Type 0} (f : A → B) (xs : List A) (k : ℕ) (d : B) (x : A) → slice_get xs k ≡ Some x → get_or (map f xs) k d ≡ f x
get_got f [] k d x at = absurd cc
get_got f (y ∷ xs) zero d x at = let same : y ≡ x = cc in ap f same
get_got f (y ∷ xs) (suc k) d x at = get_got f xs k d x at

-- each segment is under its law, so it has as many blocks as the shape says
pub segments_at : {S : Type 0} (segment : S → Registered) (geometry : Geometry) (segments : List S)
    → ((k : ℕ) (s : Segment) → slice_get (map (λ x. (segment x).segment) segments) k ≡ Some s → IsSegmentAt geometry k s) → AreSegmentsAt geometry (map segment segments)
segments_at segment geometry segments law k r at =
    law k r.segment (ap (λ (l : List Segment). slice_get l k) (map_twice segment (λ (x : Registered). x.segment) segments) ∙ some_shown (λ (x : Registered). x.segment) (map segment segments) k r at)

pub sized_by : {S : Type 0} (segment : S → Registered) (geometry : Geometry) (segments : List S)
    → ((k : ℕ) (s : Segment) → slice_get (map (λ x. (segment x).segment) segments) k ≡ Some s → IsSegmentAt geometry k s)
    → (k : ℕ) (r : Registered) → slice_get (map segment segments) k ≡ Some r → length r.segment.summaries ≡ segment_blocks geometry.shape
sized_by segment geometry segments law k r at = let is = segments_at segment geometry segments law k r at in is.sized ∙ ap segment_blocks is.shape

-- the three tables are as long as a body behind its head
tables_long : (shape : Shape) (segments nodes : ℕ) → 60 + 8 * nodes + segments * (12 + segment_blocks shape / 8) + 8 * segments * segment_blocks shape
    ≡ 60 + nodes * 8 + segments * info_bytes shape + segments * owners_bytes shape
tables_long Tiny segments nodes = omega arith
tables_long Kernel segments nodes = omega arith

module _ {S H : Type 0} (segment : S → Registered) (shard : H → ShardNodes) (geometry : Geometry) (parts : List RowView) (body : List ℕ) (kept : IsKeptBody geometry parts body)
    (segments : List S) (shards : List H) (every : length segments ≡ geometry.segments) (sixteen : length shards ≡ 16)
    (noted_segments : AreNotedSegments parts (map segment segments)) (noted_shards : AreNotedShards geometry.segments parts (map shard shards))
    (sized : (k : ℕ) (r : Registered) → slice_get (map segment segments) k ≡ Some r → length r.segment.summaries ≡ segment_blocks geometry.shape) where
  -- a segment's row, as it is spelled
  here : (k : ℕ) (s : S) → slice_get segments k ≡ Some s → IsSegmentIn geometry body k (segment_row (segment s).segment)
  here k s at = subst (IsSegmentIn geometry body k) (noted_segments k (segment s) (some_shown segment segments k s at)) (kept.segments k (let low = got_below segments k s at in omega (arith, low, every)))

  pub infos_cut : part (infos_at geometry) (geometry.segments * info_bytes geometry.shape) body ≡ flat_map (segment_bytes geometry.shape) (infos_in segment segments)
  infos_cut =
      ap (λ (n : ℕ). part (infos_at geometry) (n * info_bytes geometry.shape) body) (sym every)
      ∙ rows_cut (λ s. segment_bytes geometry.shape (info (part_in segment s))) (info_bytes geometry.shape) body segments (infos_at geometry) (λ k s at. (here k s at).info)
      ∙ flat_twice (λ s. info (part_in segment s)) (segment_bytes geometry.shape) segments

  pub owners_cut : part (owners_at geometry) (geometry.segments * owners_bytes geometry.shape) body ≡ flat_map summary_bytes (summaries_in segment segments)
  owners_cut =
      ap (λ (n : ℕ). part (owners_at geometry) (n * owners_bytes geometry.shape) body) (sym every)
      ∙ rows_cut (λ s. flat_map summary_bytes (each_summary (part_in segment s))) (owners_bytes geometry.shape) body segments (owners_at geometry)
      (λ k s at. (here k s at).owners (sized k (segment s) (some_shown segment segments k s at)))
      ∙ flat_flat (λ s. each_summary (part_in segment s)) summary_bytes segments

  -- the row of the shard that a number is of
  entry_here : (k : ℕ) → k < geometry.nodes → row_in 56 8 k body ≡ entry_bytes (entry_in shard shards (k + 1))
  entry_here k below = kept.entries k below ∙ ap entry_bytes (noted ((k + 1) % 16) (omega arith))
    where
      noted : (j : ℕ) → j < 16 → entry_of (row_at parts (geometry.segments + j)) (k + 1) ≡ found (k + 1) (get_or (map (λ h. shard_part (shard h)) shards) j [])
      noted j low =
          let there = got_some (map shard shards) j (let long = length-map shards shard in omega (arith, low, long, sixteen)) in
          ap (λ (row : Row). entry_of row (k + 1)) (noted_shards j there.0 there.1) ∙ entry_noted there.0 (k + 1)
          ∙ ap (found (k + 1)) (sym (ap (λ (l : List (List Token)). get_or l j []) (map_twice shard shard_part shards) ∙ get_got shard_part (map shard shards) j [] there.0 there.1))

  entries_up : (n : ℕ) → n ≤ geometry.nodes → part 56 (n * 8) body ≡ flat_map entry_bytes (entries_in shard shards n)
  entries_up zero le = refl
  entries_up (suc n) le =
      ap (λ (m : ℕ). part 56 m body) (omega arith)
      ∙ parts_joined 56 (n * 8) 8 body
      ∙ ap (λ (l : List ℕ). l ++ part (56 + n * 8) 8 body) (entries_up n (omega arith))
      ∙ ap (λ (l : List ℕ). flat_map entry_bytes (entries_in shard shards n) ++ l) (entry_here n (omega arith) ∙ sym (append-nil (entry_bytes (entry_in shard shards (n + 1)))))
      ∙ sym (flat_map-append entry_bytes (entries_in shard shards n) (entry_in shard shards (n + 1) ∷ []))
      ∙ ap (flat_map entry_bytes) (sym (entries_more shard shards n) ∙ ap (entries_in shard shards) (add-one n))

  pub entries_cut : part 56 (geometry.nodes * 8) body ≡ flat_map entry_bytes (entries_in shard shards geometry.nodes)
  entries_cut = entries_up geometry.nodes (omega arith)

  -- the whole body, behind the head that it has
  pub body_is : (head : List ℕ) → take 56 body ≡ head
      → body ≡ ((head ++ flat_map entry_bytes (entries_in shard shards geometry.nodes)) ++ flat_map (segment_bytes geometry.shape) (infos_in segment segments)) ++ flat_map summary_bytes (summaries_in segment segments)
  body_is head front =
      let a = geometry.nodes * 8 in
      let b = geometry.segments * info_bytes geometry.shape in
      let c = geometry.segments * owners_bytes geometry.shape in
      let all : length body ≡ 56 + a + b + c = kept.long ∙ (let long = tables_long geometry.shape geometry.segments geometry.nodes in omega (arith, long)) in
      let table : 56 + a ≡ infos_at geometry = omega arith in
      let behind : 56 + a + b ≡ owners_at geometry = omega arith in
      sym (take_all (56 + a + b + c) body (omega (arith, all)))
      ∙ take-plus (56 + a + b) c body
      ∙ ap (λ (l : List ℕ). l ++ part (56 + a + b) c body)
      (take-plus (56 + a) b body ∙ ap (λ (l : List ℕ). l ++ part (56 + a) b body) (take-plus 56 a body))
      ∙ ap (λ (l : List ℕ). ((l ++ part 56 a body) ++ part (56 + a) b body) ++ part (56 + a + b) c body) front
      ∙ ap (λ (l : List ℕ). ((head ++ l) ++ part (56 + a) b body) ++ part (56 + a + b) c body) entries_cut
      ∙ ap (λ (l : List ℕ). ((head ++ flat_map entry_bytes (entries_in shard shards geometry.nodes)) ++ l) ++ part (56 + a + b) c body)
      (ap (λ (n : ℕ). part n b body) table ∙ infos_cut)
      ∙ ap (λ (l : List ℕ). ((head ++ flat_map entry_bytes (entries_in shard shards geometry.nodes)) ++ flat_map (segment_bytes geometry.shape) (infos_in segment segments)) ++ l)
      (ap (λ (n : ℕ). part n c body) behind ∙ owners_cut)

  pub infos_small : All (λ (i : SegmentInfo). (i.count < 2 ^ 32) × (i.mtime < 2 ^ 64)) (infos_in segment segments)
  infos_small = all_map (λ (i : SegmentInfo). (i.count < 2 ^ 32) × (i.mtime < 2 ^ 64)) (λ s. info (part_in segment s)) segments (λ k s at. let small = (here k s at).small in (small.count, small.mtime))

  pub owners_small : All IsSummaryRow (summaries_in segment segments)
  owners_small = all_flat IsSummaryRow (λ s. each_summary (part_in segment s)) segments (λ k s at. (here k s at).small.owners)
