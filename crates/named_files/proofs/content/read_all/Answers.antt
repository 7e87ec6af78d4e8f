use Rattle.std.proofs.Common.{◌≡◌, ◌∙◌, ◌++◌, ap, sym, add-one, rules, arith}
use Rattle.std.proofs.lemmas.Grind.{common_steps}
use Rattle.geometry.specs.File.{bytes_at}
use Rattle.geometry.specs.Shape.{block_bytes}
use Rattle.image_reading.specs.Content.{front_bytes}
use Rattle.named_files.proofs.content.read_all.Goals as goal

pub loop-index-preserved : goal.loop-index-preserved
loop-index-preserved g c =
    let size = block_bytes g.V.Numbers.GeometryName.geometry.shape in
    let file = c.args.pass.now.file in
    let index = c.loop-index.index in
    let items : c.extend_from_slice.new.self.items ≡ c.loop-index.bytes.items ++ bytes_at size file index = grind (arith, common_steps) in (
      items ∙ ap (λ ys. ys ++ bytes_at size file index) c.loop-index.invariant.0 ∙ sym (ap (front_bytes size file) (add-one index)),
      grind (arith, common_steps),
    )

pub returns-clause-bytes : goal.returns-clause-bytes
returns-clause-bytes g c =
    let size = block_bytes g.V.Numbers.GeometryName.geometry.shape in
    let file = c.args.pass.now.file in
    let done : c.loop-index.index ≡ file.length = search rules in
    c.loop-index.invariant.0 ∙ ap (front_bytes size file) done
