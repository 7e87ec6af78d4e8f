-- The first row of the name tells the number of the file, and how many of its bytes are read.
use Rattle.std.proofs.Common.{◌≡◌, ◌∙◌, Some, get_or, map, take, ap, subst, sym, rules}
use Rattle.geometry.specs.Shape.{block_bytes}
use Rattle.named_folder.specs.Names.{IsRowPlace}
use Rattle.named_folder.specs.Rows.{row_of}
use Rattle.named_folder.proofs.Cases.{some_of}
use Rattle.named_folder.proofs.Entries.{found_row}
use Rattle.named_files.specs.Files.{HasFolder}
use Rattle.named_files.proofs.Places.{file_at_place}
use Rattle.named_files.proofs.work.append.read_named.Goals as goal

pub returns-clause-read : goal.returns-clause-read
returns-clause-read g c =
    let size = block_bytes g.V.Numbers.GeometryName.geometry.shape in
    let name = c.args.name.now in
    let passes = c.args.passes.now in
    let entries = c.in-Some.entries.items in
    let row = c.in-Some-row_at.row in
    let entry = c.index-held-row.result in
    let pass = c.index-passes-place.result in
    let folder : HasFolder size passes (map row_of entries)
    = some_of (λ found. HasFolder size passes (map row_of found.items)) c.in_ok-entries.field-0 c.in-Some.entries c.in-Some.is c.in_ok-entries.ensures.some in
    let same : c.as_slice-held.result.now ≡ entries = search rules in
    let here : IsRowPlace name (map row_of entries) row = subst (λ es. IsRowPlace name (map row_of es) row) same c.in-Some-row_at.ensures.some in
    let is_held : entry ≡ get_or c.as_slice-held.result.now row entry = search rules in
    let is : entry ≡ get_or entries row entry = subst (λ es. entry ≡ get_or es row entry) same is_held in
    let is_pass : pass ≡ get_or passes c.in-Some-place_of.place pass = search rules in
    record {
      rows = map row_of entries;
      folder = folder;
      row = row_of entry;
      named = found_row name entries row entry is here;
      file = pass.file;
      there = file_at_place entry.number passes c.in-Some-place_of.place pass c.in-Some-place_of.ensures.some ∙ ap (λ p. Some p.file) (sym is_pass);
      content = subst (λ all. c.truncate.new.self.items ≡ take entry.bytes all) c.in_ok-bytes.ensures.bytes c.truncate.ensures.items;
    }
