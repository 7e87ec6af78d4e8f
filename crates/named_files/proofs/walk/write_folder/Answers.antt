-- The folder is the pass of number 1, and what is written into it are the bytes of its rows, with zeros behind: so it is a folder of these rows.
use Rattle.std.proofs.Common.{◌≡◌, ◌∙◌, ◌++◌, ◌<◌, ◌^◌, length, replicate, ap, subst, sym, rules}
use Rattle.std.proofs.lemmas.List.{length-map}
use Rattle.geometry.specs.Shape.{block_bytes}
use Rattle.byte_files.specs.Bytes.{HasBytes}
use Rattle.named_files.specs.Files.{IsPlace}
use Rattle.named_folder.specs.Rows.{row_of}
use Rattle.named_folder.proofs.Cases.{on_ok}
use Rattle.named_files.proofs.Places.{number_at_place}
use Rattle.named_files.proofs.Updates.{set_file, set_other}
use Rattle.named_files.proofs.walk.write_folder.Goals as goal

pub returns-in_ok-bytes-in-Some-clause-folder : goal.returns-in_ok-bytes-in-Some-clause-folder
returns-in_ok-bytes-in-Some-clause-folder g c =
    let size = block_bytes g.V.Numbers.GeometryName.geometry.shape in
    let passes = c.args.passes.now in
    let entries = c.args.entries.now in
    let place = c.in-Some.place in
    let pass = c.index-passes-place.result in
    let new = c.write_all.new.pass in
    let here : IsPlace 1 passes place = c.in-Some.ensures.some in
    let number : new.number ≡ 1 = c.write_all.ensures.number ∙ number_at_place 1 passes place pass here in
    let few : length entries < 2 ^ 64 = search rules in
    on_ok c.write_all.result (HasBytes size c.as_slice.result.now new.file) _
    (λ has. record {
      folder = new.file;
      here = set_file 1 passes place new here number;
      spelled = record {
        are_rows = c.requires.rows;
        few = subst (λ n. n < 2 ^ 64) (sym (length-map entries row_of)) few;
        behind = replicate has.zeros 0;
        spelled = has.spelled ∙ ap (λ ys. ys ++ replicate has.zeros 0) (c.as_slice.ensures.value ∙ c.in_ok-bytes-in-Some.ensures.bytes);
      };
    })
    c.write_all.ensures.bytes

pub returns-in_ok-bytes-in-Some-clause-others : goal.returns-in_ok-bytes-in-Some-clause-others
returns-in_ok-bytes-in-Some-clause-others g c =
    let passes = c.args.passes.now in
    let place = c.in-Some.place in
    let pass = c.index-passes-place.result in
    let here : IsPlace 1 passes place = c.in-Some.ensures.some in
    λ n other. set_other 1 passes place c.write_all.new.pass here (c.write_all.ensures.number ∙ number_at_place 1 passes place pass here) n other
