-- What each lock holds keeps its own law, in the order of the cells: side by side that is the law of an image's cells,
-- and whoever shows the same area has it too.
use Rattle.std.proofs.Common.{◌≡◌, ℕ, zero, suc, List, [], ◌∷◌, map, length, sym, ap, ◌∙◌, subst, refl, arith}
use Rattle.std.specs.Prelude.{Result, IfOk, Some, None, IfSome, All, AllPairs, slice_get}
use Rattle.std.proofs.lemmas.List.{length-map}
use Rattle.atomic_table.specs.Seated.{TableId}
use Rattle.geometry.specs.declared.geometry.Geometry.{Geometry}
use Rattle.image.specs.Rules.{IsInRange}
use Rattle.sit.specs.Registered.{Registered}
use Rattle.nat.specs.Shard.{ShardNodes}
use Rattle.image_law.specs.Parts.{Parts, IsImageOf}
use Rattle.image_law.proofs.Linking.{file_held}
use Rattle.checkpoint_image.specs.declared.taken_image.TakenImage.{TakenImage}
use Rattle.checkpoint_image.specs.View.{taken_view}
use Rattle.checkpoint_image.specs.Cells.{CellsLaw, Filed, IsSegmentAt, IsOpenAt, OpenApart, parts_of, tree_in}
use Rattle.checkpoint_image.specs.PartsLaw.{ArePartsOf, IsFaithfulImage}
use Rattle.checkpoint_image.proofs.Joining.{if_ok}
use Rattle.checkpoint_image.proofs.Places.{at_some}
use Rattle.checkpoint_image.specs.Learning.{AreSegmentsOf, AreShardsOf}
use Rattle.checkpoint_image.specs.Kept.{AreSegmentParts, AreShardParts}
use Rattle.checkpoint_sync.specs.LocksHeld.{AreaView, IsHeldArea, AreHeldSegments, AreHeldShards, AreHeldFiles, HasTrees, held_cells, open_in}

-- what is shown at a place is shown by what stands there
pub shown_by : {A B : Type 0} (f : A → B) (xs : List A) (k : ℕ) (y : B) → slice_get (map f xs) k ≡ Some y → (x : A) × (slice_get xs k ≡ Some x) × (f x ≡ y)
shown_by f [] k y e = absurd (cc)
shown_by f (x ∷ xs) zero y e = (x, refl, (let same : f x ≡ y = cc in same))
shown_by f (x ∷ xs) (suc k) y e = shown_by f xs k y e

same_shards : (xs : List ShardNodes) → map (λ s. s) xs ≡ xs
same_shards [] = refl
same_shards (x ∷ xs) = ap (λ (ys : List ShardNodes). x ∷ ys) (same_shards xs)

same_segments : (xs : List Registered) → map (λ r. r) xs ≡ xs
same_segments [] = refl
same_segments (x ∷ xs) = ap (λ (ys : List Registered). x ∷ ys) (same_segments xs)

-- what an audit asks of the segments and the shards
pub segments_of : (geometry : Geometry) (book table other : TableId) (now segments : List Registered) → now ≡ segments → other ≡ book → AreHeldSegments geometry book table segments
    → AreSegmentsOf other (map (λ r. r) now)
segments_of geometry book table other now segments same is held = λ k r got.
    let at = held k r (sym (ap (λ (l : List Registered). slice_get l k) (same_segments now ∙ same)) ∙ got) in (at.at.number, at.book_is ∙ sym is)

pub shards_of : (book other : TableId) (nodes : ℕ) (shards : List ShardNodes) → other ≡ book → AreHeldShards book nodes shards → AreShardsOf other (map (λ s. s) shards)
shards_of book other nodes shards is held = λ k s got.
    let at = held k s (sym (ap (λ (l : List ShardNodes). slice_get l k) (same_shards shards)) ∙ got) in (at.number, at.book_is ∙ sym is)

-- and the parts that their rows are noted for
pub segment_parts_of : (rows other : TableId) (now segments : List Registered) → now ≡ segments → other ≡ rows → AreSegmentParts rows segments → AreSegmentParts other (map (λ r. r) now)
segment_parts_of rows other now segments same is parts = subst (λ (book : TableId). AreSegmentParts book (map (λ r. r) now)) (sym is) (subst (AreSegmentParts rows) (sym (same_segments now ∙ same)) parts)

pub shard_parts_of : (rows other : TableId) (geometry number : Geometry) (shards : List ShardNodes) → other ≡ rows → number ≡ geometry → AreShardParts rows geometry.segments shards
    → AreShardParts other number.segments (map (λ s. s) shards)
shard_parts_of rows other geometry number shards is same parts =
    subst (λ (book : TableId). AreShardParts book number.segments (map (λ s. s) shards)) (sym is)
    (subst (λ (g : Geometry). AreShardParts rows g.segments (map (λ s. s) shards)) (sym same) (subst (AreShardParts rows geometry.segments) (sym (same_shards shards)) parts))

module _ {F : Type 0} (filed : F → Filed) (geometry : Geometry) (book rows table : TableId) (area : AreaView) (files : List F)
    (held : IsHeldArea geometry book rows table area.segments area.shards area.logs) where
  pub cells_law : All (λ log. IfSome log (IsOpenAt (map (λ (r : Registered). r.segment) area.segments))) (map open_in area.logs) → AllPairs OpenApart (map open_in area.logs)
      → length files ≡ geometry.files → AreHeldFiles geometry (map filed files) → CellsLaw geometry (held_cells filed area files)
  cells_law there apart every are = record {
    all_segments = length-map area.segments (λ (r : Registered). r.segment) ∙ held.every_segment;
    segments = λ k s got.
        let at = shown_by (λ (r : Registered). r.segment) area.segments k s got in
        subst (IsSegmentAt geometry k) at.2 (held.segments_are k at.0 at.1).at;
    all_shards = ap (λ (l : List ShardNodes). length l) (same_shards area.shards) ∙ held.every_shard;
    shards = λ k s got.
        let is = held.shards_are k s (sym (ap (λ (l : List ShardNodes). slice_get l k) (same_shards area.shards)) ∙ got) in
        record { number = is.number; nodes = is.nodes_are; own = is.own };
    all_logs = length-map area.logs open_in ∙ held.every_log;
    logs = there;
    apart = apart;
    all_files = length-map files filed ∙ every;
    files = are;
  }

-- what the same area holds, of the same numbers
module _ {F : Type 0} (filed : F → Filed) (geometry' geometry : Geometry) (area' area : AreaView) (files : List F) (g : geometry' ≡ geometry) (a : area' ≡ area) where
  both : (P : Geometry → AreaView → Type 0) → P geometry' area' → P geometry area
  both P p = subst (P geometry) a (subst (λ x. P x area') g p)

  back : (P : Geometry → AreaView → Type 0) → P geometry area → P geometry' area'
  back P p = subst (P geometry') (sym a) (subst (λ x. P x area) (sym g) p)

  pub law_back : CellsLaw geometry (held_cells filed area files) → CellsLaw geometry' (held_cells filed area' files)
  law_back = back (λ x y. CellsLaw x (held_cells filed y files))

  pub parts_on : ArePartsOf geometry' (held_cells filed area' files) → ArePartsOf geometry (held_cells filed area files)
  parts_on = both (λ x y. ArePartsOf x (held_cells filed y files))

  module _ {E : Type 0} (result : Result TakenImage E) where
    pub image_on : IfOk result (λ image. IsImageOf geometry' (parts_of (held_cells filed area' files)) (taken_view image))
        → IfOk result (λ image. IsImageOf geometry (parts_of (held_cells filed area files)) (taken_view image))
    image_on = both (λ x y. IfOk result (λ image. IsImageOf x (parts_of (held_cells filed y files)) (taken_view image)))

    pub faithful_on : IfOk result (λ image. IsFaithfulImage geometry' (parts_of (held_cells filed area' files)) (taken_view image))
        → IfOk result (λ image. IsFaithfulImage geometry (parts_of (held_cells filed area files)) (taken_view image))
    faithful_on = both (λ x y. IfOk result (λ image. IsFaithfulImage x (parts_of (held_cells filed y files)) (taken_view image)))

-- of a faithful image the first rule says that it is in range
pub in_range : {E : Type 0} (geometry : Geometry) (parts : Parts) (result : Result TakenImage E) → IfOk result (λ image. IsFaithfulImage geometry parts (taken_view image))
    → IfOk result (λ image. IsInRange geometry (taken_view image))
in_range geometry parts result = if_ok result (λ image is. is.lawful 1 (omega arith) (omega arith))

-- an image of the parts has the trees of all files
pub has_trees : {F E : Type 0} (filed : F → Filed) (geometry : Geometry) (area : AreaView) (files : List F) (result : Result TakenImage E)
    → ArePartsOf geometry (held_cells filed area files) → IfOk result (λ image. IsImageOf geometry (parts_of (held_cells filed area files)) (taken_view image))
    → IfOk result (λ image. HasTrees (taken_view image) (map filed files))
has_trees filed geometry area files result parts = if_ok result (λ image is k f tree got has.
    file_held geometry (parts_of (held_cells filed area files)) (taken_view image) parts.law parts.balanced is k tree (at_some tree_in None (map filed files) k f got ∙ has))
