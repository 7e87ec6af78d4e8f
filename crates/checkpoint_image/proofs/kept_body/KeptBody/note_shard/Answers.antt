-- The entries that are put are the shard's as it is now, and so is what is noted of it; all other parts stay as they were.
use Rattle.std.proofs.Common.{◌≡◌, ◌∙◌, refl, sym, ap, subst, ℕ, ◌+◌, ◌<◌, List, length, set, arith}
use Rattle.std.proofs.lemmas.List.{length-set}
use Rattle.image.specs.Pack.{entry_bytes}
use Rattle.image_law.specs.Parts.{found}
use Rattle.rights_books.specs.declared.row_claim.Row.{Row}
use Rattle.rights_books.specs.RowAccounts.{RowView}
use Rattle.rights_books.specs.PartRow.{name_of}
use Rattle.nat.specs.Shard.{ShardNodes}
use Rattle.nat.specs.Noted.{shard_row}
use Rattle.checkpoint_image.specs.Cells.{shard_part}
use Rattle.checkpoint_image.specs.Kept.{row_at, entry_of}
use Rattle.checkpoint_image.proofs.KeptRows.{entries_kept, entry_noted, row_here, row_other, order_set}
use Rattle.checkpoint_image.proofs.kept_body.KeptBody.note_shard.Goals as goal

pub invariant_of-self-2 : goal.invariant_of-self-2
invariant_of-self-2 g c =
    let self = c.args.self.now in
    let part = self.geometry.segments + c.args.number in
    let shown = g.H.HoldsShard.shown c.args.shard.now in
    let kept = c.note.new.kept in
    let twins = self.twins.items in
    let within : part < length twins = omega (arith, c.requires.number, self.every_twin) in
    let noted : row_at (set twins part kept) part ≡ shard_row shown.taken = row_here twins part kept within ∙ ap (λ (v : RowView). v.row) c.note.ensures.kept in
    record {
      every_twin = length-set twins part kept ∙ self.every_twin;
      in_order = order_set self.rows twins part kept self.in_order
          (ap name_of c.note.ensures.kept ∙ ap name_of c.index_mut.ensures.value ∙ self.in_order part c.index_mut.result.now within);
      spelled = λ _.
          entries_kept self.geometry twins (set twins part kept) self.body.bytes.items c.put_entries.new.body.bytes.items (self.spelled c.requires.there) part
          (λ k apart. row_other twins part k kept apart) c.put_entries.ensures.long c.args.number c.requires.number refl
          (λ k below own. c.put_entries.ensures.own k below own
          ∙ ap (λ (s : ShardNodes). entry_bytes (found (k + 1) (shard_part s))) c.shard-2.ensures
          ∙ ap entry_bytes (sym (entry_noted shown (k + 1))) ∙ ap (λ (row : Row). entry_bytes (entry_of row (k + 1))) (sym noted))
          c.put_entries.ensures.others c.put_entries.ensures.behind;
      unspelled = λ none. absurd (omega (arith, none, c.put_entries.ensures.long, c.requires.there));
      fresh = λ none. absurd (omega (arith, none, c.put_entries.ensures.long, c.requires.there));
    }

pub returns-clause-noted : goal.returns-clause-noted
returns-clause-noted g c =
    row_here c.args.self.now.twins.items (c.args.self.now.geometry.segments + c.args.number) c.note.new.kept (omega (arith, c.requires.number, c.args.self.now.every_twin)) ∙ ap (λ (v : RowView). v.row) c.note.ensures.kept

pub returns-clause-others : goal.returns-clause-others
returns-clause-others g c = λ k apart. row_other c.args.self.now.twins.items (c.args.self.now.geometry.segments + c.args.number) k c.note.new.kept apart
