use Rattle.std.proofs.Common.{◌<◌, ◌^◌, subst, List, rules}
use Rattle.std.specs.Prelude.{All}
use Rattle.std.proofs.lemmas.List.Elements.{All-map}
use Rattle.image.specs.declared.image.SegmentInfo.{SegmentInfo as SegmentValue}
use Rattle.geometry.specs.declared.owner.Summary.{Summary}
use Rattle.image.specs.Image.{SegmentInfo}
use Rattle.image.specs.View.{image_view, info_view}
use Rattle.pack_tables.specs.Grammar.{IsSummaryRow}
use Rattle.pack_tables.proofs.Ranging.{has_spelling}
use Rattle.pack_tables.proofs.encoding.encode.Goals as goal

abbrev IsSmall : SegmentInfo → Type 0
IsSmall info = (info.count < 2 ^ 32) × (info.mtime < 2 ^ 64)

pub returns-clause-small : goal.returns-clause-small
returns-clause-small c =
    let segments : List SegmentValue → Type 0 = λ xs. All (λ (info : SegmentValue). (info.count < 2 ^ 32) × (info.mtime < 2 ^ 64)) xs in
    record {
      version = c.in_ok-spell_head.ensures.small.0;
      total = c.in_ok-spell_head.ensures.small.1;
      infos = All-map IsSmall info_view c.args.image.now.sit.items (subst segments c.deref-3.ensures.value c.in_ok-push_segments.ensures.small);
      owners = subst (λ (xs : List Summary). All IsSummaryRow xs) c.deref-4.ensures.value c.in_ok-push_rows-2.ensures.small;
    }

pub returns-clause-spelled : goal.returns-clause-spelled
returns-clause-spelled c =
    λ nodes range. (has_spelling c.args.geometry.now (image_view c.args.image.now) nodes (returns-clause-small c) range, search rules)
