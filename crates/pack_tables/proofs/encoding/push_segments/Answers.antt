use Rattle.std.proofs.Common.{◌<◌, ◌^◌, sym, ◌∙◌, ap, subst, ◌++◌, ◌∷◌, [], map, take}
use Rattle.std.proofs.lemmas.List.{map_more, flat_map_more}
use Rattle.std.proofs.lemmas.List.Elements.{All-more}
use Rattle.image.specs.declared.image.SegmentInfo.{SegmentInfo}
use Rattle.std.specs.List.{flat_map}
use Rattle.image.specs.Pack.{segment_bytes}
use Rattle.image.specs.View.{info_view}
use Rattle.pack_tables.proofs.encoding.push_segments.Goals as goal

abbrev IsSmall : SegmentInfo → Type 0
IsSmall info = (info.count < 2 ^ 32) × (info.mtime < 2 ^ 64)

pub loop-info-preserved : goal.loop-info-preserved
loop-info-preserved c =
    let f = segment_bytes c.args.shape in
    let xs = c.args.segments.now in
    let k = c.loop-info.info-index in
    let item = c.info-item.result in
    record {
      added = c.in_ok-push_segment.ensures.added
          ∙ ap (λ o. o ++ f (info_view item)) c.loop-info.invariant.added
          ∙ flat_map_more f c.args.out.now.items (map info_view (take k xs)) (info_view item)
          ∙ ap (λ i. c.args.out.now.items ++ flat_map f (map info_view (take k xs) ++ info_view i ∷ [])) c.info-item.is
          ∙ ap (λ l. c.args.out.now.items ++ flat_map f l) (sym (map_more info_view xs k item c.loop-info-test.true));
      small = All-more IsSmall xs k item c.loop-info-test.true c.loop-info.invariant.small
          (subst IsSmall c.info-item.is c.in_ok-push_segment.ensures.small);
    }
