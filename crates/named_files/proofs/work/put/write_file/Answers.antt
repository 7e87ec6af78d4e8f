use Rattle.std.proofs.Common.{◌≡◌, ◌∙◌, get_or, subst, ap, rules}
use Rattle.geometry.specs.Shape.{block_bytes}
use Rattle.byte_files.specs.Bytes.{HasBytes}
use Rattle.named_files.specs.Files.{IsPlace}
use Rattle.named_files.proofs.Places.{number_at_place}
use Rattle.named_files.proofs.Updates.{written_at}
use Rattle.named_folder.proofs.Cases.{on_ok}
use Rattle.named_folder.proofs.Updates.{written_back}
use Rattle.named_files.proofs.work.put.write_file.Goals as goal

pub returns-in-Some-clause-written : goal.returns-in-Some-clause-written
returns-in-Some-clause-written g c =
    let size = block_bytes g.V.Numbers.GeometryName.geometry.shape in
    let passes = c.args.passes.now.items in
    let place = c.in-Some.place in
    let pass = c.index-as_mut_slice-place.result in
    let new = c.write_all.new.pass in
    let same : c.as_slice.result.now ≡ passes = search rules in
    let here : IsPlace c.args.number passes place = subst (λ ps. IsPlace c.args.number ps place) same c.in-Some.ensures.some in
    let same_mut : c.as_mut_slice.result.now ≡ passes = search rules in
    let number : new.number ≡ c.args.number = c.write_all.ensures.number ∙ ap (λ ps. (get_or ps place pass).number) same_mut ∙ number_at_place c.args.number passes place pass here in
    on_ok c.write_all.result (HasBytes size c.args.bytes.now new.file) _
    (λ has. written_at size c.args.bytes.now c.args.number passes _ place new (written_back passes c.as_mut_slice.result.now _ _ place new same_mut (search rules)) here number has)
    c.write_all.ensures.bytes
