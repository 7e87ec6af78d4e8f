-- The row of the name is the new one's, and its file has the bytes: so each name shows what it showed, but this one.
use Rattle.std.proofs.Common.{◌≡◌, ◌<◌, ◌^◌, ℕ, List, All, IfSome, IfNone, length, map, subst, sym, rules}
use Rattle.std.proofs.lemmas.List.{length-map}
use Rattle.named_folder.specs.Folder.{Row, IsRow}
use Rattle.named_files.specs.Files.{IsNumberFor}
use Rattle.named_folder.specs.Names.{HasNoRow, IsRowOf, IsRowPlace, Renews}
use Rattle.named_folder.specs.Rows.{row_of}
use Rattle.named_folder.proofs.Cases.{into}
use Rattle.named_files.proofs.Rows.{number_for}
use Rattle.named_files.proofs.work.put.enter_file.Goals as goal

pub write_row-requires-clause-rows : goal.write_row-requires-clause-rows
write_row-requires-clause-rows g c =
    into (λ es. All IsRow (map row_of es)) c.as_slice-held.result.now c.args.entries.now.items (search rules) c.requires.rows

pub returns-clause-entered : goal.returns-clause-entered
returns-clause-entered g c =
    let name = c.args.put.name.now in
    let bytes = c.args.put.bytes.now in
    let before = c.args.passes.now.items in
    let entries = c.args.entries.now.items in
    let rows = map row_of entries in
    let number = c.in_ok-number.number in
    let new = c.put_row.new.entries.items in
    let renewed = map row_of new in
    let row = c.row_at-row.result in
    let own : IsNumberFor name number rows before
    = number_for name number rows before row
    (into (λ es. IfSome row (λ place. IsRowPlace name (map row_of es) place)) entries c.as_slice.result.now (search rules) c.row_at-row.ensures.some)
    (into (λ es. IfNone row (HasNoRow name (map row_of es))) entries c.as_slice.result.now (search rules) c.row_at-row.ensures.none)
    (into (λ es. IfSome row (λ place. (other : List ℕ) → IsRowPlace other (map row_of es) place → (found : Row) × IsRowOf other (map row_of es) found × (found.number ≡ number)))
    entries c.as_slice-held.result.now (search rules) c.in_ok-number.ensures.kept)
    c.in_ok-number.ensures.made c.requires.there in
    let renews : Renews (record { name = name; number = number; bytes = length bytes }) rows renewed
    = into (λ n. Renews (record { name = name; number = number; bytes = n }) rows renewed) (length bytes) _ (search rules) c.in_ok-put_row.ensures.renewed in
    let few : length new < 2 ^ 64 = search rules in
    record {
      is_name = c.is_name.ensures.yes (search rules);
      own = own;
      renews = renews;
      not_folder = c.in_ok-number.ensures.past;
      written = c.in_ok-number.ensures.written;
      are_rows = c.in_ok-put_row.ensures.rows c.in_ok-number.ensures.past c.requires.rows;
      few = subst (λ n. n < 2 ^ 64) (sym (length-map new row_of)) few;
    }
