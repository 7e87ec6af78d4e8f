-- What is learned and noted stays as it was, so all of it is of the cells that are held.
use Rattle.std.proofs.Common.{◌≡◌, ◌∙◌, sym, ap, subst, ℕ, List, map, length, arith}
use Rattle.std.proofs.lemmas.List.{length-map}
use Rattle.geometry.specs.declared.geometry.Geometry.{Geometry}
use Rattle.image_law.specs.Parts.{Balanced, IsImageOf}
use Rattle.nat.specs.Shard.{ShardNodes}
use Rattle.sit.specs.Registered.{Registered}
use Rattle.checkpoint_image.specs.Cells.{Cells, CellsLaw, parts_of}
use Rattle.checkpoint_image.specs.Held.{cells_in}
use Rattle.checkpoint_image.specs.Kept.{AreSegmentParts, AreShardParts, AreNotedSegments, AreNotedShards}
use Rattle.checkpoint_image.specs.Noting.{AreSegmentsAt, AreShardsAt}
use Rattle.checkpoint_image.specs.PartsLaw.{IsFaithfulImage}
use Rattle.checkpoint_image.specs.declared.taken_image.TakenImage.{TakenImage}
use Rattle.checkpoint_image.specs.View.{taken_view}
use Rattle.checkpoint_image.proofs.Joining.{slices_same, are_parts, if_ok}
use Rattle.checkpoint_image.proofs.WholeBody.{segments_at}
use Rattle.checkpoint_image.proofs.take.take_audited.Goals as goal

-- as many as before
as_many : {A B : Type 0} (f : A → B) (old new : List A) (n : ℕ) → map f new ≡ map f old → length (map f old) ≡ n → length new ≡ n
as_many f old new n same long = sym (length-map new f) ∙ ap length same ∙ long

pub note_all-requires-clause-every_segment : goal.note_all-requires-clause-every_segment
note_all-requires-clause-every_segment g c =
    as_many g.S.HoldsSegment.shown c.args.segments.now.items c.learn_all.new.segments.items c.args.kept.now.geometry.segments c.learn_all.ensures.same_segments
    (length-map c.args.segments.now.items g.S.HoldsSegment.shown ∙ sym (length-map c.args.segments.now.items (λ s. (g.S.HoldsSegment.shown s).segment)) ∙ c.requires.cells.all_segments)

pub note_all-requires-clause-segments : goal.note_all-requires-clause-segments
note_all-requires-clause-segments g c =
    subst (λ (rs : List Registered). AreSegmentsAt c.args.kept.now.geometry rs) (sym c.learn_all.ensures.same_segments)
    (segments_at g.S.HoldsSegment.shown c.args.kept.now.geometry c.args.segments.now.items c.requires.cells.segments)

pub note_all-requires-clause-segment_parts : goal.note_all-requires-clause-segment_parts
note_all-requires-clause-segment_parts g c =
    subst (λ (rs : List Registered). AreSegmentParts c.args.kept.now.rows rs) (sym c.learn_all.ensures.same_segments) c.requires.segment_parts

pub note_all-requires-clause-every_shard : goal.note_all-requires-clause-every_shard
note_all-requires-clause-every_shard g c =
    as_many g.H.HoldsShard.shown c.args.shards.now.items c.learn_all.new.shards.items 16 c.learn_all.ensures.same_shards c.requires.cells.all_shards

pub note_all-requires-clause-shards : goal.note_all-requires-clause-shards
note_all-requires-clause-shards g c =
    subst (λ (ss : List ShardNodes). AreShardsAt c.args.kept.now.geometry ss) (sym c.learn_all.ensures.same_shards) c.requires.cells.shards

pub note_all-requires-clause-shard_parts : goal.note_all-requires-clause-shard_parts
note_all-requires-clause-shard_parts g c =
    subst (λ (ss : List ShardNodes). AreShardParts c.args.kept.now.rows c.args.kept.now.geometry.segments ss) (sym c.learn_all.ensures.same_shards) c.requires.shard_parts

pub take_image-requires-clause-cells : goal.take_image-requires-clause-cells
take_image-requires-clause-cells g c =
    let same = slices_same g.S.HoldsSegment.shown g.H.HoldsShard.shown g.L.HoldsLog.shown g.F.HoldsFile.shown g.F.AuditedFile.account g.met.F.AuditedFile.lodged _ _ _ _ _ _ _ _ _ _ _
    c.as_slice.ensures.value (c.note_all.ensures.same_segments ∙ c.learn_all.ensures.same_segments) c.as_slice-2.ensures.value (c.note_all.ensures.same_shards ∙ c.learn_all.ensures.same_shards) c.as_slice-3.ensures.value c.as_slice-4.ensures.value c.learn_all.ensures.same_files in
    subst (λ (geometry : Geometry). CellsLaw geometry (cells_in g.S.HoldsSegment.shown g.H.HoldsShard.shown g.L.HoldsLog.shown g.F.HoldsFile.shown c.as_slice.result.now c.as_slice-2.result.now c.as_slice-3.result.now c.as_slice-4.result.now)) (sym c.note_all.ensures.numbers.0) (subst (λ (cells : Cells). CellsLaw c.args.kept.now.geometry cells) (sym same) c.requires.cells)

pub take_image-requires-clause-balanced : goal.take_image-requires-clause-balanced
take_image-requires-clause-balanced g c =
    let same = slices_same g.S.HoldsSegment.shown g.H.HoldsShard.shown g.L.HoldsLog.shown g.F.HoldsFile.shown g.F.AuditedFile.account g.met.F.AuditedFile.lodged _ _ _ _ _ _ _ _ _ _ _
    c.as_slice.ensures.value (c.note_all.ensures.same_segments ∙ c.learn_all.ensures.same_segments) c.as_slice-2.ensures.value (c.note_all.ensures.same_shards ∙ c.learn_all.ensures.same_shards) c.as_slice-3.ensures.value c.as_slice-4.ensures.value c.learn_all.ensures.same_files in
    let parts = are_parts g.S.HoldsSegment.shown g.H.HoldsShard.shown g.L.HoldsLog.shown g.F.HoldsFile.shown g.F.AuditedFile.account g.met.F.AuditedFile.lodged c.args.kept.now.geometry c.args.segments.now.items c.args.shards.now.items c.args.logs.now.items c.args.files.now.items c.learn_all.new.audit.copies
    c.requires.cells c.learn_all.ensures.copies c.learn_all.ensures.balanced in
    subst (λ (cells : Cells). Balanced (parts_of cells)) (sym same) parts.balanced

pub take_image-requires-clause-noted_segments : goal.take_image-requires-clause-noted_segments
take_image-requires-clause-noted_segments g c =
    subst (λ (rs : List Registered). AreNotedSegments c.note_all.new.self.twins.items rs)
    (sym (ap (map g.S.HoldsSegment.shown) c.as_slice.ensures.value ∙ c.note_all.ensures.same_segments)) c.in_ok-note_all.ensures.noted_segments

pub take_image-requires-clause-noted_shards : goal.take_image-requires-clause-noted_shards
take_image-requires-clause-noted_shards g c =
    subst (λ (geometry : Geometry). AreNotedShards geometry.segments c.note_all.new.self.twins.items (map g.H.HoldsShard.shown c.as_slice-2.result.now)) (sym c.note_all.ensures.numbers.0)
    (subst (λ (ss : List ShardNodes). AreNotedShards c.args.kept.now.geometry.segments c.note_all.new.self.twins.items ss)
    (sym (ap (map g.H.HoldsShard.shown) c.as_slice-2.ensures.value ∙ c.note_all.ensures.same_shards)) c.in_ok-note_all.ensures.noted_shards)

pub returns-in_err-note_all-clause-parts : goal.returns-in_err-note_all-clause-parts
returns-in_err-note_all-clause-parts g c =
    are_parts g.S.HoldsSegment.shown g.H.HoldsShard.shown g.L.HoldsLog.shown g.F.HoldsFile.shown g.F.AuditedFile.account g.met.F.AuditedFile.lodged c.args.kept.now.geometry c.args.segments.now.items c.args.shards.now.items c.args.logs.now.items c.args.files.now.items c.learn_all.new.audit.copies
    c.requires.cells c.learn_all.ensures.copies c.learn_all.ensures.balanced

pub returns-clause-parts : goal.returns-clause-parts
returns-clause-parts g c =
    are_parts g.S.HoldsSegment.shown g.H.HoldsShard.shown g.L.HoldsLog.shown g.F.HoldsFile.shown g.F.AuditedFile.account g.met.F.AuditedFile.lodged c.args.kept.now.geometry c.args.segments.now.items c.args.shards.now.items c.args.logs.now.items c.args.files.now.items c.learn_all.new.audit.copies
    c.requires.cells c.learn_all.ensures.copies c.learn_all.ensures.balanced

pub returns-clause-image : goal.returns-clause-image
returns-clause-image g c =
    let same = slices_same g.S.HoldsSegment.shown g.H.HoldsShard.shown g.L.HoldsLog.shown g.F.HoldsFile.shown g.F.AuditedFile.account g.met.F.AuditedFile.lodged _ _ _ _ _ _ _ _ _ _ _
    c.as_slice.ensures.value (c.note_all.ensures.same_segments ∙ c.learn_all.ensures.same_segments) c.as_slice-2.ensures.value (c.note_all.ensures.same_shards ∙ c.learn_all.ensures.same_shards) c.as_slice-3.ensures.value c.as_slice-4.ensures.value c.learn_all.ensures.same_files in
    if_ok c.take_image.result (λ (image : TakenImage) is. subst (λ (cells : Cells). IsImageOf c.args.kept.now.geometry (parts_of cells) (taken_view image)) same
    (subst (λ (geometry : Geometry). IsImageOf geometry (parts_of (cells_in g.S.HoldsSegment.shown g.H.HoldsShard.shown g.L.HoldsLog.shown g.F.HoldsFile.shown c.as_slice.result.now c.as_slice-2.result.now c.as_slice-3.result.now c.as_slice-4.result.now)) (taken_view image)) c.note_all.ensures.numbers.0 is)) c.take_image.ensures.image

pub returns-clause-faithful : goal.returns-clause-faithful
returns-clause-faithful g c =
    let same = slices_same g.S.HoldsSegment.shown g.H.HoldsShard.shown g.L.HoldsLog.shown g.F.HoldsFile.shown g.F.AuditedFile.account g.met.F.AuditedFile.lodged _ _ _ _ _ _ _ _ _ _ _
    c.as_slice.ensures.value (c.note_all.ensures.same_segments ∙ c.learn_all.ensures.same_segments) c.as_slice-2.ensures.value (c.note_all.ensures.same_shards ∙ c.learn_all.ensures.same_shards) c.as_slice-3.ensures.value c.as_slice-4.ensures.value c.learn_all.ensures.same_files in
    if_ok c.take_image.result (λ (image : TakenImage) is. subst (λ (cells : Cells). IsFaithfulImage c.args.kept.now.geometry (parts_of cells) (taken_view image)) same
    (subst (λ (geometry : Geometry). IsFaithfulImage geometry (parts_of (cells_in g.S.HoldsSegment.shown g.H.HoldsShard.shown g.L.HoldsLog.shown g.F.HoldsFile.shown c.as_slice.result.now c.as_slice-2.result.now c.as_slice-3.result.now c.as_slice-4.result.now)) (taken_view image)) c.note_all.ensures.numbers.0 is)) c.take_image.ensures.faithful
