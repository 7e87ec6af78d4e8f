-- The row that is put is the segment's as it is now, and so is what is noted of it; all other parts stay as they were.
use Rattle.std.proofs.Common.{◌≡◌, ◌∙◌, refl, sym, ap, subst, ℕ, ◌+◌, ◌<◌, List, ◌++◌, length, set, arith}
use Rattle.std.proofs.lemmas.List.{length-set}
use Rattle.std.specs.List.{flat_map}
use Rattle.geometry.specs.declared.shape.Shape.{Shape}
use Rattle.geometry.specs.Shape.{segment_blocks}
use Rattle.image.specs.Pack.{segment_bytes, summary_bytes}
use Rattle.image_law.specs.Parts.{info, summaries_in}
use Rattle.rights_books.specs.RowAccounts.{RowView}
use Rattle.rights_books.specs.PartRow.{name_of}
use Rattle.sit.specs.Registered.{Registered}
use Rattle.sit.specs.Segment.{Segment}
use Rattle.sit.specs.Noted.{segment_row}
use Rattle.checkpoint_image.specs.Cells.{segment_part}
use Rattle.checkpoint_image.specs.Kept.{IsSegmentIn, IsSmallRow, row_at}
use Rattle.checkpoint_image.proofs.KeptRows.{row_long, info_front, owners_behind, segment_kept, row_here, row_other, order_set}
use Rattle.checkpoint_image.proofs.kept_body.KeptBody.note_segment.Goals as goal

-- what a pack has of a segment
abbrev row_of : Shape → Registered → List ℕ
row_of shape r = segment_bytes shape (info (segment_part r.segment)) ++ flat_map summary_bytes (summaries_in (segment_part r.segment))

-- the row that was spelled of what the guard showed is that of the segment
spelled_as : (shape : Shape) (shown told : Registered) (row spelled : List ℕ) → row ≡ spelled → spelled ≡ row_of shape told → told ≡ shown → row ≡ row_of shape shown
spelled_as shape shown told row spelled value is same = value ∙ is ∙ ap (row_of shape) same

pub put_segment-requires-clause-row : goal.put_segment-requires-clause-row
put_segment-requires-clause-row g c =
    let shown = g.S.HoldsSegment.shown c.args.segment.now in
    let shape = c.args.self.now.geometry.shape in
    row_long shape shown.segment c.as_slice.result.now
    (spelled_as shape shown c.segment-2.result.now c.as_slice.result.now c.spell_row.new.row.items c.as_slice.ensures.value c.in_ok-spell_row.ensures.row c.segment-2.ensures)
    (c.requires.segment.sized ∙ ap segment_blocks c.requires.segment.shape)

pub invariant_of-self-2 : goal.invariant_of-self-2
invariant_of-self-2 g c =
    let self = c.args.self.now in
    let number = c.args.number in
    let shown = g.S.HoldsSegment.shown c.args.segment.now in
    let shape = self.geometry.shape in
    let kept = c.note.new.kept in
    let twins = self.twins.items in
    let within : number < length twins = omega (arith, c.requires.number, self.every_twin) in
    let row = spelled_as shape shown c.segment-2.result.now c.as_slice.result.now c.spell_row.new.row.items c.as_slice.ensures.value c.in_ok-spell_row.ensures.row c.segment-2.ensures in
    let small : IsSmallRow (segment_row shown.segment) = subst (λ (r : Registered). IsSmallRow (segment_row r.segment)) c.segment-2.ensures c.in_ok-spell_row.ensures.small in
    let noted : row_at (set twins number kept) number ≡ segment_row shown.segment = row_here twins number kept within ∙ ap (λ (v : RowView). v.row) c.note.ensures.kept in
    record {
      every_twin = length-set twins number kept ∙ self.every_twin;
      in_order = order_set self.rows twins number kept self.in_order
          (ap name_of c.note.ensures.kept ∙ ap name_of c.index_mut.ensures.value ∙ self.in_order number c.index_mut.result.now within);
      spelled = λ _.
          segment_kept self.geometry twins (set twins number kept) self.body.bytes.items c.put_segment.new.body.bytes.items (self.spelled c.requires.there) number
          (λ k apart. row_other twins number k kept apart) c.put_segment.ensures.long c.requires.number
          (subst (IsSegmentIn self.geometry c.put_segment.new.body.bytes.items number) (sym noted)
          (record {
            info = c.put_segment.ensures.info ∙ info_front shape shown.segment c.as_slice.result.now row;
            owners = λ _. c.put_segment.ensures.owners ∙ owners_behind shape shown.segment c.as_slice.result.now row;
            small = small;
          }))
          c.put_segment.ensures.other_infos c.put_segment.ensures.other_owners c.put_segment.ensures.before;
      unspelled = λ none. absurd (omega (arith, none, c.put_segment.ensures.long, c.requires.there));
      fresh = λ none. absurd (omega (arith, none, c.put_segment.ensures.long, c.requires.there));
    }

pub returns-clause-noted : goal.returns-clause-noted
returns-clause-noted g c =
    row_here c.args.self.now.twins.items c.args.number c.note.new.kept (omega (arith, c.requires.number, c.args.self.now.every_twin)) ∙ ap (λ (v : RowView). v.row) c.note.ensures.kept

pub returns-clause-others : goal.returns-clause-others
returns-clause-others g c = λ k apart. row_other c.args.self.now.twins.items c.args.number k c.note.new.kept apart
