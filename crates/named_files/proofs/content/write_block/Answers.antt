use Rattle.std.proofs.Common.{◌≡◌, ap, sym, subst}
use Rattle.geometry.specs.File.{written}
use Rattle.geometry.specs.Shape.{block_bytes}
use Rattle.named_files.specs.Content.{IsBlockSet}
use Rattle.named_folder.proofs.Cases.{on_ok}
use Rattle.named_files.proofs.Contents.{block_written}
use Rattle.named_files.proofs.content.write_block.Goals as goal

pub returns-clause-set : goal.returns-clause-set
returns-clause-set g c =
    let size = block_bytes g.V.Numbers.GeometryName.geometry.shape in
    let pass = c.args.pass.now in
    let index = c.args.index in
    let block = c.args.block.now in
    on_ok c.write.result (c.write.new.pass ≡ record pass { file = written pass.file index block }) (IsBlockSet size index block pass.file c.write.new.pass.file)
    (λ is. subst (IsBlockSet size index block pass.file) (sym (ap (λ p. p.file) is)) (block_written size pass.file index block c.requires.reaches))
    c.write.ensures.file
