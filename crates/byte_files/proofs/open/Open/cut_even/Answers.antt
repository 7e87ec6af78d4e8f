use Rattle.std.proofs.Common.{ap, sym, subst}
use Rattle.geometry.specs.File.{File}
use Rattle.geometry.specs.Shape.{block_bytes}
use Rattle.file_cells.specs.Pass.{Pass}
use Rattle.byte_files.specs.Calls.{IsTruncated}
use Rattle.byte_files.proofs.Blocks.{block_some}
use Rattle.byte_files.proofs.Results.{on_ok}
use Rattle.byte_files.proofs.Truncations.{truncated_even}
use Rattle.byte_files.proofs.open.Open.cut_even.Goals as goal

pub returns-clause-truncated : goal.returns-clause-truncated
returns-clause-truncated g c =
    let shape = g.V.Numbers.GeometryName.geometry.shape in
    let old : File = c.args.pass.now.file in
    on_ok c.cut.result _ _
    (λ is. subst (λ (f : File). IsTruncated (block_bytes shape) c.args.count old f) (sym (ap (λ (p : Pass). p.file) is))
    (truncated_even (block_bytes shape) old c.blocks_law.ensures.whole c.blocks_law.ensures.within (block_some shape) c.args.count c.args.blocks c.requires.within c.requires.even))
    c.cut.ensures.file
