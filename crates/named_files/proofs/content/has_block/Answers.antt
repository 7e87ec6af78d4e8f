use Rattle.std.proofs.Common.{◌≡◌, ◌∙◌, sym, rules, arith}
use Rattle.std.proofs.lemmas.Grind.{common_steps}
use Rattle.geometry.specs.File.{bytes_at}
use Rattle.geometry.specs.Shape.{block_bytes}
use Rattle.named_files.proofs.content.has_block.Goals as goal

pub returns-clause-bytes : goal.returns-clause-bytes
returns-clause-bytes g c =
    let size = block_bytes g.V.Numbers.GeometryName.geometry.shape in
    let held : c.as_slice.result.now ≡ bytes_at size c.args.pass.now.file c.args.index = grind (arith, common_steps) in
    λ same. let is : c.as_slice.result.now ≡ c.args.block.now = search rules in sym held ∙ is
