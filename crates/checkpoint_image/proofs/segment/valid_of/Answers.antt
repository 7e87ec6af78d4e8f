use Rattle.std.proofs.Common.{sym, ◌∙◌, arith}
use Rattle.checkpoint_image.proofs.Rows.{named_count, count_most}
use Rattle.checkpoint_image.proofs.segment.valid_of.Goals as goal

pub returns-clause-count : goal.returns-clause-count
returns-clause-count g c = c.count.ensures ∙ sym (named_count c.args.segment.now.segment.summaries)

pub returns-clause-most : goal.returns-clause-most
returns-clause-most g c =
    let most = count_most c.args.segment.now.segment.summaries in
    let count = c.count.ensures in
    let sized = c.law.ensures.sized in
    let blocks = c.requires in
    omega arith
