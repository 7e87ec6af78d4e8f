-- The rest of the block is wiped by a write of its own, and then the file is cut behind it.
use Rattle.std.proofs.Common.{◌≡◌, ◌∙◌, ◌+◌, ◌-◌, ◌<◌, ◌≤◌, ℕ, List, length, replicate, ap, sym, subst, inr, arith}
use Rattle.std.proofs.lemmas.List.{length-replicate}
use Rattle.geometry.specs.File.{File, bytes_at, written, cut_to}
use Rattle.geometry.specs.Shape.{block_bytes}
use Rattle.file_cells.specs.Pass.{Pass}
use Rattle.flash_volume.specs.Answers.{laid_over}
use Rattle.byte_files.specs.Calls.{IsTruncated, IsWrittenAt}
use Rattle.byte_files.proofs.Blocks.{block_some}
use Rattle.byte_files.proofs.Results.{on_ok, on_err}
use Rattle.byte_files.proofs.Truncations.{truncated_wiped}
use Rattle.byte_files.proofs.Writes.{part_written}
use Rattle.byte_files.proofs.open.Open.shorten.Goals as goal

pub returns-clause-truncated : goal.returns-clause-truncated
returns-clause-truncated g c =
    let shape = g.V.Numbers.GeometryName.geometry.shape in
    let size : ℕ = block_bytes shape in
    let old : File = c.args.pass.now.file in
    let wiped : c.wipe.new.pass.file ≡ written old c.args.index (laid_over (bytes_at size old c.args.index) c.args.from (replicate (size - c.args.from) 0))
    = ap (λ (p : Pass). p.file) c.in_ok-wipe.ensures.file in
    on_ok c.cut.result _ _
    (λ is. subst (λ (f : File). IsTruncated size c.args.count old f) (sym (ap (λ (p : Pass). p.file) is ∙ ap (λ f. cut_to f (c.args.index + 1)) wiped))
    (truncated_wiped size old c.blocks_law.ensures.whole c.blocks_law.ensures.within (block_some shape) c.args.count c.args.index c.args.from c.requires.below c.requires.some c.requires.within c.requires.place))
    c.cut.ensures.file

pub returns-clause-wiped : goal.returns-clause-wiped
returns-clause-wiped g c =
    let size : ℕ = block_bytes g.V.Numbers.GeometryName.geometry.shape in
    let old : File = c.args.pass.now.file in
    let from : ℕ = c.args.from in
    let zeros : List ℕ = replicate (size - from) 0 in
    let long : length zeros ≡ size - from = length-replicate (size - from) 0 in
    let some : 0 < from = c.requires.some in
    let inner : from < size = c.requires.within in
    let at_index = part_written size old c.args.index from zeros c.blocks_law.ensures.whole c.blocks_law.ensures.within (omega (arith, long, inner)) (omega (arith, long, inner)) in
    on_err c.cut.result _ _
    (λ same. inr (
      size - from,
      omega (arith, some, inner),
      subst (λ (p : Pass). IsWrittenAt size c.args.count zeros old p.file) (sym (same ∙ c.in_ok-wipe.ensures.file))
          (subst (λ n. IsWrittenAt size n zeros old (written old c.args.index (laid_over (bytes_at size old c.args.index) from zeros))) c.requires.place at_index),
    ))
    c.cut.ensures.err
