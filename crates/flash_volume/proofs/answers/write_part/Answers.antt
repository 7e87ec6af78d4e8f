-- A whole block that is laid over another is all that is left of both.
use Rattle.std.proofs.Common.{◌≡◌, ℕ, length, sym, subst, OnOk, arith}
use Rattle.file_cells.specs.Pass.{Pass}
use Rattle.flash_volume.proofs.Laid.{laid_whole}
use Rattle.geometry.specs.File.{written}
use Rattle.geometry.specs.Shape.{block_bytes}
use Rattle.flash_volume.proofs.answers.write_part.Goals as goal

pub returns-then-bytes-block-clause-file : goal.returns-then-bytes-block-clause-file
returns-then-bytes-block-clause-file g c =
    let size : ℕ = block_bytes g.V.Numbers.GeometryName.geometry.shape in
    let old : Pass = c.args.pass.now in
    let all : length c.args.bytes.now ≡ size = let same = c.if-bytes-block.true in let block = c.requires.block in omega (arith, same, block) in
    subst (λ b. OnOk c.write.result (c.write.new.pass ≡ record old { file = written old.file c.args.index b }))
    (sym (laid_whole size old.file c.args.index c.args.from c.args.bytes.now c.blocks_law.ensures.whole c.requires.within all)) c.write.ensures.file
