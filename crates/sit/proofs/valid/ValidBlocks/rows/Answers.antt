use Rattle.std.proofs.Common.{◌∙◌, ap, map}
use Rattle.geometry.specs.Summary.{owner_in}
use Rattle.sit.specs.Summaries.{summary_in}
use Rattle.sit.proofs.valid.ValidBlocks.rows.Goals as goal

pub returns-clause-rows : goal.returns-clause-rows
returns-clause-rows c = c.as_slice.ensures.value ∙ c.self.invariant.rows_are ∙ ap (map summary_in) c.self.view_is

pub returns-clause-owners : goal.returns-clause-owners
returns-clause-owners c = ap (map owner_in) c.as_slice.ensures.value ∙ c.self.view_is
