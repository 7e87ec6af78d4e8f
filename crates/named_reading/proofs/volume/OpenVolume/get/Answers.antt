use Rattle.std.proofs.Common.{◌≡◌, ℕ, List, map, take, get_or, true, subst, refl, rules}
use Rattle.geometry.specs.Shape.{block_bytes}
use Rattle.image.specs.View.{image_view}
use Rattle.image_reading.specs.Content.{all_bytes}
use Rattle.image_reading.specs.Held.{file_in, files_in}
use Rattle.named_folder.specs.Names.{IsRowPlace}
use Rattle.named_folder.specs.Rows.{row_of}
use Rattle.named_folder.proofs.Cases.{some_of}
use Rattle.named_folder.proofs.Entries.{found_row}
use Rattle.named_reading.specs.Named.{HasFolder}
use Rattle.named_reading.proofs.volume.OpenVolume.get.Goals as goal

pub returns-clause-got : goal.returns-clause-got
returns-clause-got g c = λ bytes shown.
    let geometry = c.args.self.now.geometry in
    let image = image_view c.args.self.now.image in
    let size = block_bytes geometry.shape in
    let name = c.args.name.now in
    let entries = c.in-Some.entries.items in
    let row = c.in-Some-row_at.row in
    let entry = c.index-as_slice-row.result in
    let file = file_in geometry image bytes entry.number in
    let same : c.as_slice.result.now ≡ entries = search rules in
    let row_here : IsRowPlace name (map row_of entries) row = subst (λ es. IsRowPlace name (map row_of es) row) same c.in-Some-row_at.ensures.some in
    let entry_is : entry ≡ get_or entries row entry = search rules in
    let there : c.has.result ≡ true = search rules in (
      take entry.bytes (all_bytes size file),
      record {
        rows = map row_of entries;
        in_folder = some_of (λ found. (bytes : List ℕ) → g.S.ImageSource.shows c.rows.new.source bytes → HasFolder size (files_in geometry image bytes) (map row_of found.items))
            c.in_ok-entries.field-0 c.in-Some.entries c.in-Some.is c.in_ok-entries.ensures.some bytes (c.in_ok-hand_out.ensures.kept bytes shown);
        row = row_of entry;
        named = found_row name entries row entry entry_is row_here;
        file = file;
        there = c.has.ensures there bytes;
        content = refl;
      },
      c.in_ok-hand_out.ensures.handed bytes shown,
    )
