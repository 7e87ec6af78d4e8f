-- The entry is spelled of the bits and the count that the segment has, and then its owners.
use Rattle.std.proofs.Common.{◌≡◌, ◌<◌, ◌^◌, ◌++◌, ◌∙◌, [], sym, ap, subst, List, ℕ}
use Rattle.std.specs.Prelude.{All}
use Rattle.std.specs.List.{flat_map}
use Rattle.std.proofs.lemmas.Result.{IfOk-equal, on_ok_weaker}
use Rattle.geometry.specs.Bits.{bits_of}
use Rattle.geometry.specs.Shape.{segment_blocks}
use Rattle.geometry.specs.declared.owner.Summary.{Summary}
use Rattle.image.specs.Image.{SegmentInfo}
use Rattle.image.specs.Pack.{segment_bytes, summary_bytes}
use Rattle.image_law.specs.Parts.{info, summaries_in}
use Rattle.pack_tables.specs.Grammar.{IsSummaryRow}
use Rattle.sit.specs.declared.segment.SegmentRow.{SegmentRow}
use Rattle.checkpoint_image.specs.Cells.{segment_part}
use Rattle.checkpoint_image.proofs.Rows.{entry_same, rows_same}
use Rattle.checkpoint_image.proofs.segment.spell_row.Given as given
use Rattle.checkpoint_image.proofs.segment.spell_row.Goals as goal

module _ (g : given.Over) (c : goal.After-spell_summaries g) where
  -- the entry that is spelled
  abbrev spelled : SegmentInfo
  spelled = record { count = c.row-entry.result.valid; mtime = c.row-entry.result.mtime; bits = bits_of c.valid_words.result.now (segment_blocks c.args.shape) }

  same : spelled ≡ info (segment_part c.args.segment.now.segment)
  same = entry_same c.args.segment.now.segment (bits_of c.valid_words.result.now (segment_blocks c.args.shape)) c.row-entry.result.valid c.row-entry.result.mtime
      (ap (bits_of c.valid_words.result.now) (sym c.requires.shape) ∙ c.valid_words.ensures)
      (ap (λ (r : SegmentRow). r.valid) c.row-entry.ensures) (ap (λ (r : SegmentRow). r.mtime) c.row-entry.ensures)

  -- and the owners
  owners : c.rows.result.now ≡ summaries_in (segment_part c.args.segment.now.segment)
  owners = c.rows.ensures.rows ∙ rows_same c.args.segment.now.segment.summaries

pub returns-clause-row : goal.returns-clause-row
returns-clause-row g c =
    IfOk-equal c.spell_summaries.result _ _ _ c.spell_summaries.ensures.added
    (ap (λ (front : List ℕ). front ++ flat_map summary_bytes c.rows.result.now)
    (c.in_ok-spell_info.ensures.added ∙ ap (λ (front : List ℕ). front ++ segment_bytes c.args.shape (spelled g c)) c.clear.ensures.items
    ∙ ap (λ (i : SegmentInfo). segment_bytes c.args.shape i) (same g c))
    ∙ ap (λ (l : List Summary). segment_bytes c.args.shape (info (segment_part c.args.segment.now.segment)) ++ flat_map summary_bytes l) (owners g c))

pub returns-clause-small : goal.returns-clause-small
returns-clause-small g c =
    let entry = subst (λ (i : SegmentInfo). (i.count < 2 ^ 32) × (i.mtime < 2 ^ 64)) (same g c) c.in_ok-spell_info.ensures.small in
    on_ok_weaker c.spell_summaries.result
    (λ fit. record { count = entry.0; mtime = entry.1; owners = subst (λ (l : List Summary). All IsSummaryRow l) (owners g c) fit })
    c.spell_summaries.ensures.small
