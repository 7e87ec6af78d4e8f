-- What is held is shown item by item, so counts, places and rows read off it are those of its parts; rows that are put
-- file after file are the rows of all nodes.
use Rattle.std.proofs.Common.{◌≡◌, refl, sym, ◌∙◌, ap, subst, ℕ, zero, suc, ◌+◌, ◌<◌, ◌≤◌, ◌%◌, List, [], ◌∷◌, ◌++◌, map, length, get_or, replicate, fold, add-one, arith}
use Rattle.std.specs.Prelude.{Option, Some, None, IfSome, slice_get, sum_by}
use Rattle.std.specs.List.{flat_map}
use Rattle.std.proofs.lemmas.List.{length-map, get_or-map, map-append}
use Rattle.geometry.specs.declared.geometry.Geometry.{Geometry}
use Rattle.geometry.specs.Shape.{segment_blocks}
use Rattle.geometry.proofs.Addresses.{segment_blocks-most}
use Rattle.image.specs.Image.{Image, no_node}
use Rattle.image.specs.Walk.{up_to}
use Rattle.sit.specs.Registered.{Registered}
use Rattle.nat.specs.Shard.{ShardNodes}
use Rattle.image_law.specs.Items.{Among}
use Rattle.image_law.specs.Parts.{Token, Stored, FileTree, stored_of, info, found, summaries_in, Balanced}
use Rattle.checkpoint_image.specs.Cells.{Cells, CellsLaw, Filed, IsOpenAt, IsWrittenIn, segment_part, shard_part, place_in, tree_in, parts_of}
use Rattle.checkpoint_image.specs.Taken.{AreSized, nodes_in, put_rows}
use Rattle.checkpoint_image.specs.PartsLaw.{IsFaithfulImage}
use Rattle.image_law.specs.Parts.{IsImageOf}
use Rattle.checkpoint_image.proofs.Places.{below_length}
use Rattle.checkpoint_image.proofs.Written.{filed_at}
use Rattle.checkpoint_image.proofs.Laws.{parts_law, taken_holds}
use Rattle.checkpoint_image.specs.Held.{segment_in, part_in, segments_in, infos_in, summaries_in as all_summaries, total_in, HaveBlocks, AreOwnShards, entry_in, entries_in, places_in, AreWithin, cells_in}

-- lists of what is shown
module _ {A B : Type 0} (f : A → B) where
  pub get_shown : (xs : List A) (k : ℕ) (d : A) → k < length xs → slice_get (map f xs) k ≡ Some (f (get_or xs k d))
  get_shown [] k d low = absurd (omega arith)
  get_shown (x ∷ xs) zero d low = refl
  get_shown (x ∷ xs) (suc k) d low = get_shown xs k d (omega arith)

  pub some_shown : (xs : List A) (k : ℕ) (x : A) → slice_get xs k ≡ Some x → slice_get (map f xs) k ≡ Some (f x)
  some_shown [] k x e = absurd (cc)
  some_shown (y ∷ xs) zero x e = let same : y ≡ x = cc in ap (λ (z : A). Some (f z)) same
  some_shown (y ∷ xs) (suc k) x e = some_shown xs k x e

module _ {A B C : Type 0} (f : A → B) (g : B → C) where
  pub map_twice : (xs : List A) → map (λ x. g (f x)) xs ≡ map g (map f xs)
  map_twice [] = refl
  map_twice (x ∷ xs) = ap (λ (zs : List C). g (f x) ∷ zs) (map_twice xs)

-- one number more
module _ {H : Type 0} (shown : H → ShardNodes) (held : List H) where
  pub entries_more : (k : ℕ) → entries_in shown held (k + 1) ≡ entries_in shown held k ++ entry_in shown held (k + 1) ∷ []
  entries_more k =
      ap (entries_in shown held) (add-one k) ∙ map-append (entry_in shown held) (up_to k) (suc k ∷ [])
      ∙ ap (λ n. entries_in shown held k ++ entry_in shown held n ∷ []) (sym (add-one k))

module _ {A B C : Type 0} (f : A → B) (g : B → List C) where
  pub flat_twice : (xs : List A) → flat_map (λ x. g (f x)) xs ≡ flat_map g (map f xs)
  flat_twice [] = refl
  flat_twice (x ∷ xs) = ap (λ (zs : List C). g (f x) ++ zs) (flat_twice xs)

module _ {A B : Type 0} (f : A → B) (g : B → ℕ) where
  fold_twice : (a : ℕ) (xs : List A) → fold (λ a x. a + g (f x)) a xs ≡ fold (λ a y. a + g y) a (map f xs)
  fold_twice a [] = refl
  fold_twice a (x ∷ xs) = fold_twice (a + g (f x)) xs

  pub sum_twice : (xs : List A) → sum_by (λ x. g (f x)) xs ≡ sum_by g (map f xs)
  sum_twice xs = fold_twice 0 xs

module _ {S H L F : Type 0} (segment : S → Registered) (shard : H → ShardNodes) (log : L → Option ℕ) (file : F → Filed) (geometry : Geometry)
    (segments : List S) (shards : List H) (logs : List L) (files : List F) (law : CellsLaw geometry (cells_in segment shard log file segments shards logs files)) where
  abbrev cells : Cells
  cells = cells_in segment shard log file segments shards logs files

  pub count_segments : length segments ≡ geometry.segments
  count_segments = sym (length-map segments (segment_in segment)) ∙ law.all_segments

  pub have_blocks : HaveBlocks segment (segment_blocks geometry.shape) segments
  have_blocks = λ k d low.
      ap segment_blocks (law.segments k (segment_in segment (get_or segments k d)) (get_shown (segment_in segment) segments k d low)).shape

  pub few_blocks : segment_blocks geometry.shape ≤ 512
  few_blocks = segment_blocks-most geometry.shape

  pub few_segments : length segments ≤ 4096
  few_segments = let l = count_segments in let m = geometry.limits.segments_fit in omega arith

  pub count_shards : length shards ≡ 16
  count_shards = sym (length-map shards shard) ∙ law.all_shards

  pub own_shards : AreOwnShards shard shards
  own_shards = λ k h at. (let is = law.shards k (shard h) (some_shown shard shards k h at) in (is.number, is.own))

  within_one : (o : Option ℕ) → IfSome o (IsOpenAt (map (segment_in segment) segments)) → IfSome o (λ n. n < length segments)
  within_one None is = tt
  within_one (Some n) is =
      let low = below_length (map (segment_in segment) segments) n is.segment is.there in
      let l = length-map segments (segment_in segment) in omega arith

  pub logs_within : AreWithin log (length segments) logs
  logs_within = λ k d low.
      let l = length-map logs log in
      let at = get_or-map log logs k d None low in
      within_one (log (get_or logs k d)) (subst (λ (o : Option ℕ). IfSome o (IsOpenAt (map (segment_in segment) segments))) at (law.logs k None (omega arith)))

  pub are_sized : AreSized geometry (parts_of cells)
  are_sized = λ k tree s at m.
      let x = filed_at (map file files) k tree at in
      let is = law.files k x.0 x.1 in
      let written : IsWrittenIn geometry.shape x.0.tokens s
      = subst (λ (o : Option FileTree). IfSome o (λ tree. (s : Stored) → Among s (stored_of tree) → IsWrittenIn geometry.shape x.0.tokens s)) x.2 is.written s m in
      written.spelled.0.entries

  module _ (even : Balanced (parts_of cells)) where
    pub taken_is : (image : Image) → 1 ≤ image.version → image.total ≡ total_in segment segments → image.logs ≡ places_in log (segments_in segment segments) logs
        → image.segments ≡ infos_in segment segments → image.summaries ≡ all_summaries segment segments → image.node_table ≡ entries_in shard shards geometry.nodes
        → image.nodes ≡ put_rows (replicate geometry.nodes no_node) (flat_map (λ f. nodes_in (file f).tree) files)
        → IsImageOf geometry (parts_of cells) image × IsFaithfulImage geometry (parts_of cells) image
    taken_is image version total places infos summaries table nodes =
        let part = map_twice (segment_in segment) segment_part segments in
        taken_holds geometry (parts_of cells) image (parts_law geometry cells law) even are_sized (record {
          version = version;
          total = total ∙ sum_twice (part_in segment) (λ s. (info s).count) segments ∙ ap (sum_by (λ s. (info s).count)) part;
          logs = places ∙ map_twice log (place_in (map (segment_in segment) segments)) logs;
          segments = infos ∙ map_twice (part_in segment) info segments ∙ ap (map info) part;
          summaries = summaries ∙ flat_twice (part_in segment) summaries_in segments ∙ ap (flat_map summaries_in) part;
          table = table ∙ ap (λ (ss : List (List Token)). map (λ nid. found nid (get_or ss (nid % 16) [])) (up_to geometry.nodes)) (map_twice shard shard_part shards);
          nodes = nodes ∙ ap (put_rows (replicate geometry.nodes no_node)) (flat_twice (λ f. (file f).tree) nodes_in files ∙ ap (flat_map nodes_in) (map_twice file tree_in files));
        })
