use Rattle.std.proofs.Common.{◌≡◌, ◌∙◌, ◌++◌, [], ◌∷◌, None, false, ap, sym, rules}
use Rattle.std.specs.Option.{is_some}
use Rattle.geometry.specs.Shape.{block_bytes}
use Rattle.named_files.specs.Files.{file_at}
use Rattle.named_folder.proofs.Cases.{none_unless}
use Rattle.named_files.proofs.Updates.{written_new}
use Rattle.named_files.proofs.work.put.write_new.Goals as goal

pub returns-clause-written : goal.returns-clause-written
returns-clause-written g c =
    let size = block_bytes g.V.Numbers.GeometryName.geometry.shape in
    let passes = c.args.passes.now.items in
    let number = c.number-number.result in
    let new = c.write_all.new.pass in
    let gone : is_some c.place_of.result ≡ false = search rules in
    let same : c.as_slice.result.now ≡ passes = search rules in
    let none : file_at number passes ≡ None = ap (file_at number) (sym same) ∙ none_unless (file_at number c.as_slice.result.now ≡ None) c.place_of.result gone c.place_of.ensures.none in
    let items : c.push.new.self.items ≡ passes ++ new ∷ [] = search rules in
    let number_is : new.number ≡ number = search rules in
    written_new size c.args.bytes.now number passes c.push.new.self.items new items none number_is c.in_ok-write_all.ensures.bytes
