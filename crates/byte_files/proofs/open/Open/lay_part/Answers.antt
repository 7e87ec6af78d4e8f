use Rattle.std.proofs.Common.{◌∙◌, ◌+◌, ◌*◌, ℕ, ap, sym, subst}
use Rattle.geometry.specs.File.{File, written}
use Rattle.geometry.specs.Shape.{block_bytes}
use Rattle.file_cells.specs.Pass.{Pass}
use Rattle.flash_volume.specs.Answers.{laid_over}
use Rattle.byte_files.specs.Calls.{IsWrittenAt}
use Rattle.byte_files.proofs.Blocks.{block_of_is}
use Rattle.byte_files.proofs.Results.{on_ok}
use Rattle.byte_files.proofs.Writes.{part_written}
use Rattle.byte_files.proofs.open.Open.lay_part.Goals as goal

pub returns-clause-written : goal.returns-clause-written
returns-clause-written g c =
    let size : ℕ = block_bytes g.V.Numbers.GeometryName.geometry.shape in
    let old : File = c.args.pass.now.file in
    let law = c.blocks_law.ensures in
    on_ok c.write_part.result _ _
    (λ is. subst (λ (f : File). IsWrittenAt size (c.args.index * size + c.args.from) c.args.bytes.now old f)
    (sym (ap (λ (p : Pass). p.file) is ∙ ap (λ b. written old c.args.index (laid_over b c.args.from c.args.bytes.now)) (block_of_is size old law.within c.args.index)))
    (part_written size old c.args.index c.args.from c.args.bytes.now law.whole law.within c.requires.within c.requires.some))
    c.write_part.ensures.file
