-- A part lies in a block of the file, so what is read of it stands there in the file's bytes.
use Rattle.std.proofs.Common.{◌≡◌, ◌∙◌, ◌+◌, ◌-◌, ◌*◌, ◌<◌, ◌≤◌, List, ℕ, length, take, drop, ap, sym, rules, arith}
use Rattle.geometry.specs.File.{File}
use Rattle.geometry.specs.Shape.{block_bytes}
use Rattle.flash_volume.specs.Answers.{block_of}
use Rattle.byte_files.proofs.Readings.{below_length, part_read}
use Rattle.byte_files.proofs.open.Open.read_held.Goals as goal

pub parts-preserved : goal.parts-preserved
parts-preserved g c =
    let size : ℕ = block_bytes g.V.Numbers.GeometryName.geometry.shape in
    let file : File = c.args.pass.now.file in
    let done : ℕ = c.parts.done in
    let out : List ℕ = c.parts.out in
    let piece : List ℕ = c.read_part.new.out in
    let part = c.part_at-part.result in
    let more : done < length out = c.parts-test.true in
    let least : part.size ≤ length out - done = c.part_at-part.ensures.least in
    let long : length piece ≡ part.size = search rules in
    let is : piece ≡ take part.size (drop part.from (block_of size file part.index)) = search rules in
    let block : length c.args.block.now ≡ size = c.requires.block in
    let here : part.index * size + part.from ≡ c.args.at + done = ap (λ n. part.index * n + part.from) (sym block) ∙ c.part_at-part.ensures.place in
    let within : part.from + part.size ≤ size = let fits = c.part_at-part.ensures.within in omega (arith, fits, block) in
    let same : length out ≡ length c.args.out.now = search rules in
    let held : c.args.at + length c.args.out.now ≤ file.length * size = c.requires.held (omega (arith, more, same)) in
    let low : part.index < file.length = below_length part.index file.length size (c.args.at + done) (omega (arith, here)) (omega (arith, held, more, same)) in (
      search rules,
      search rules,
      part_read size file out piece c.args.at done part.size part.index part.from (done + part.size - done) c.blocks_law.ensures.whole c.blocks_law.ensures.within
          low here within long (omega (arith, more)) c.parts.invariant.2 is,
    )
