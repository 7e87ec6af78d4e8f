-- Each table is read row by row off what is held, so it is an image taken of those parts; that they keep their law
-- and balance makes it lawful and faithful. The kept body spells these rows, and the head in front of them is put.
use Rattle.std.proofs.Common.{◌≡◌, ℕ, ◌<◌, List, [], ◌∷◌, ◌++◌, sym, ◌∙◌, ap, subst, map, length, replicate, arith}
use Rattle.std.specs.List.{flat_map}
use Rattle.image.specs.Image.{no_node}
use Rattle.image.specs.Node.{numbers}
use Rattle.image.specs.Pack.{log_bytes}
use Rattle.nat.specs.Shard.{ShardNodes}
use Rattle.sit.specs.Registered.{Registered}
use Rattle.std.specs.Prelude.{Option, Vec, slice_get, Some}
use Rattle.std.specs.declared.alloc.Global.{Global}
use Rattle.std.proofs.lemmas.List.{length-map}
use Rattle.geometry.specs.declared.geometry.Geometry.{Geometry}
use Rattle.image.specs.declared.image.LogHead.{LogHead}
use Rattle.rights_books.specs.declared.row_account.KeptAccount.{KeptAccount}
use Rattle.checkpoint_image.specs.Cells.{Filed, place_in}
use Rattle.checkpoint_image.specs.Kept.{IsKeptBody}
use Rattle.checkpoint_image.specs.Held.{segments_in, infos_in, summaries_in, entries_in}
use Rattle.checkpoint_image.specs.Rows.{Rows}
use Rattle.checkpoint_image.specs.Taken.{put_rows, nodes_in}
use Rattle.checkpoint_image.proofs.Spelled.{spelled_by, small_by, counted_by}
use Rattle.checkpoint_image.proofs.Taking.{count_segments, have_blocks, own_shards, logs_within, taken_is}
use Rattle.checkpoint_image.proofs.WholeBody.{body_is, infos_small, owners_small, sized_by}
use Rattle.checkpoint_image.proofs.taken.take_image.Goals as goal

pub total_of-requires-clause-blocks : goal.total_of-requires-clause-blocks
total_of-requires-clause-blocks g c = λ k d low.
    have_blocks g.S.HoldsSegment.shown g.H.HoldsShard.shown g.L.HoldsLog.shown g.F.HoldsFile.shown c.args.kept.now.geometry c.args.segments.now c.args.shards.now c.args.logs.now c.args.files.now c.requires.cells k d low
    ∙ sym c.segment_blocks-blocks.ensures

pub places_of-requires : goal.places_of-requires
places_of-requires g c =
    logs_within g.S.HoldsSegment.shown g.H.HoldsShard.shown g.L.HoldsLog.shown g.F.HoldsFile.shown c.args.kept.now.geometry c.args.segments.now c.args.shards.now c.args.logs.now c.args.files.now c.requires.cells

pub free_of-free-requires-clause-every : goal.free_of-free-requires-clause-every
free_of-free-requires-clause-every g c =
    count_segments g.S.HoldsSegment.shown g.H.HoldsShard.shown g.L.HoldsLog.shown g.F.HoldsFile.shown c.args.kept.now.geometry c.args.segments.now c.args.shards.now c.args.logs.now c.args.files.now c.requires.cells

pub free_of-free-requires-clause-blocks : goal.free_of-free-requires-clause-blocks
free_of-free-requires-clause-blocks g c = λ k d low.
    have_blocks g.S.HoldsSegment.shown g.H.HoldsShard.shown g.L.HoldsLog.shown g.F.HoldsFile.shown c.args.kept.now.geometry c.args.segments.now c.args.shards.now c.args.logs.now c.args.files.now c.requires.cells k d low
    ∙ sym c.segment_blocks-blocks.ensures

pub put_head-requires-clause-six : goal.put_head-requires-clause-six
put_head-requires-clause-six g c =
    let logs = length-map c.args.logs.now g.L.HoldsLog.shown in
    ap length (c.deref-2.ensures.value ∙ c.in_ok-places_of.ensures) ∙ length-map c.args.logs.now (λ l. place_in (segments_in g.S.HoldsSegment.shown c.args.segments.now) (g.L.HoldsLog.shown l)) ∙ sym logs ∙ c.requires.cells.all_logs

-- the rows of what is held
abbrev rows_held : {S H F : Type 0} → (S → Registered) → (H → ShardNodes) → (F → Filed) → ℕ → List S → List H → List F → Rows
rows_held segment_of shard_of file_of count segments shards files = record {
  entries = entries_in shard_of shards count;
  segments = infos_in segment_of segments;
  summaries = summaries_in segment_of segments;
  nodes = put_rows (replicate count no_node) (flat_map (λ f. nodes_in (file_of f).tree) files);
}

pub invariant_of-result : goal.invariant_of-result
invariant_of-result g c =
    let told : c.of-rows.result.rows ≡ rows_held g.S.HoldsSegment.shown g.H.HoldsShard.shown g.F.HoldsFile.shown c.args.kept.now.geometry.nodes c.args.segments.now c.args.shards.now c.args.files.now = c.of-rows.ensures in
    let old = c.args.kept.now in
    let sized = sized_by g.S.HoldsSegment.shown old.geometry c.args.segments.now c.requires.cells.segments in
    let every = count_segments g.S.HoldsSegment.shown g.H.HoldsShard.shown g.L.HoldsLog.shown g.F.HoldsFile.shown c.args.kept.now.geometry c.args.segments.now c.args.shards.now c.args.logs.now c.args.files.now c.requires.cells in
    record {
      small = small_by _ _ _ _ _ told (record {
        version = c.in_ok-put_head.ensures.small.0;
        total = c.in_ok-put_head.ensures.small.1;
        infos = infos_small g.S.HoldsSegment.shown g.H.HoldsShard.shown old.geometry old.twins.items old.body.bytes.items (old.spelled c.requires.there) c.args.segments.now c.args.shards.now every (sym (length-map c.args.shards.now g.H.HoldsShard.shown) ∙ c.requires.cells.all_shards) c.requires.noted_segments c.requires.noted_shards sized;
        owners = owners_small g.S.HoldsSegment.shown g.H.HoldsShard.shown old.geometry old.twins.items old.body.bytes.items (old.spelled c.requires.there) c.args.segments.now c.args.shards.now every (sym (length-map c.args.shards.now g.H.HoldsShard.shown) ∙ c.requires.cells.all_shards) c.requires.noted_segments c.requires.noted_shards sized;
      });
      counted = counted_by 0 0 _ _ _ told old.geometry _ _ c.deref.ensures.value c.free_of-free.ensures;
    }

pub returns-clause-image : goal.returns-clause-image
returns-clause-image g c =
    let told : c.of-rows.result.rows ≡ rows_held g.S.HoldsSegment.shown g.H.HoldsShard.shown g.F.HoldsFile.shown c.args.kept.now.geometry.nodes c.args.segments.now c.args.shards.now c.args.files.now = c.of-rows.ensures in
    (taken_is g.S.HoldsSegment.shown g.H.HoldsShard.shown g.L.HoldsLog.shown g.F.HoldsFile.shown c.args.kept.now.geometry c.args.segments.now c.args.shards.now c.args.logs.now c.args.files.now c.requires.cells c.requires.balanced _
    c.requires.version c.total_of.ensures c.in_ok-places_of.ensures (ap (λ (r : Rows). r.segments) told) (ap (λ (r : Rows). r.summaries) told) (ap (λ (r : Rows). r.entries) told) (ap (λ (r : Rows). r.nodes) told)).0

pub returns-clause-faithful : goal.returns-clause-faithful
returns-clause-faithful g c =
    let told : c.of-rows.result.rows ≡ rows_held g.S.HoldsSegment.shown g.H.HoldsShard.shown g.F.HoldsFile.shown c.args.kept.now.geometry.nodes c.args.segments.now c.args.shards.now c.args.files.now = c.of-rows.ensures in
    (taken_is g.S.HoldsSegment.shown g.H.HoldsShard.shown g.L.HoldsLog.shown g.F.HoldsFile.shown c.args.kept.now.geometry c.args.segments.now c.args.shards.now c.args.logs.now c.args.files.now c.requires.cells c.requires.balanced _
    c.requires.version c.total_of.ensures c.in_ok-places_of.ensures (ap (λ (r : Rows). r.segments) told) (ap (λ (r : Rows). r.summaries) told) (ap (λ (r : Rows). r.entries) told) (ap (λ (r : Rows). r.nodes) told)).1

pub returns-clause-spelled : goal.returns-clause-spelled
returns-clause-spelled g c =
    let told : c.of-rows.result.rows ≡ rows_held g.S.HoldsSegment.shown g.H.HoldsShard.shown g.F.HoldsFile.shown c.args.kept.now.geometry.nodes c.args.segments.now c.args.shards.now c.args.files.now = c.of-rows.ensures in
    let old = c.args.kept.now in
    let new = c.put_head.new.self in
    let there : 0 < length new.body.bytes.items = omega (arith, c.in_ok-put_head.ensures.there, c.requires.there) in
    let kept : IsKeptBody old.geometry old.twins.items new.body.bytes.items
    = subst (λ (geometry : Geometry). IsKeptBody geometry old.twins.items new.body.bytes.items) c.in_ok-put_head.ensures.numbers.0
    (subst (λ (twins : Vec KeptAccount Global). IsKeptBody new.geometry twins.items new.body.bytes.items) c.in_ok-put_head.ensures.twins (new.spelled there)) in
    let sized = sized_by g.S.HoldsSegment.shown old.geometry c.args.segments.now c.requires.cells.segments in
    let every = count_segments g.S.HoldsSegment.shown g.H.HoldsShard.shown g.L.HoldsLog.shown g.F.HoldsFile.shown c.args.kept.now.geometry c.args.segments.now c.args.shards.now c.args.logs.now c.args.files.now c.requires.cells in
    spelled_by _ _ _ _ _ told old.geometry.shape new.body.bytes.items
    (body_is g.S.HoldsSegment.shown g.H.HoldsShard.shown old.geometry old.twins.items new.body.bytes.items kept c.args.segments.now c.args.shards.now every (sym (length-map c.args.shards.now g.H.HoldsShard.shown) ∙ c.requires.cells.all_shards) c.requires.noted_segments c.requires.noted_shards sized
    (numbers (c.args.version ∷ c.total_of.result ∷ []) ++ flat_map log_bytes c.in_ok-places_of.field-0.items)
    (c.in_ok-put_head.ensures.front ∙ ap (λ (logs : List (Option LogHead)). numbers (c.args.version ∷ c.total_of.result ∷ []) ++ flat_map log_bytes logs) c.deref-2.ensures.value))
