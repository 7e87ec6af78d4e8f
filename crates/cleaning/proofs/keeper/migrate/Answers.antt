use Rattle.std.proofs.Common.{◌≡◌, ap, sym, subst}
use Rattle.std.specs.Prelude.{IfOk}
use Rattle.nodes.proofs.TreeResults.{if_ok}
use Rattle.nodes.specs.File.{weight_of}
use Rattle.cleaning.specs.Moves.{HasMoved, IsGone}
use Rattle.cleaning.specs.declared.fate.Fate.TheVariants.{Moved}
use Rattle.cleaning.proofs.keeper.migrate.Goals as goal

pub returns-in-Data-clause-moved : goal.returns-in-Data-clause-moved
returns-in-Data-clause-moved g c =
    subst (λ o. IfOk c.migrate_block.result (λ fate. fate ≡ Moved → HasMoved c.args.address o c.args.file.now c.migrate_block.new.file)) (sym c.in-Data.is) c.migrate_block.ensures.moved

pub returns-in-Data-clause-gone : goal.returns-in-Data-clause-gone
returns-in-Data-clause-gone g c =
    if_ok c.migrate_block.result c.migrate_block.ensures.gone (λ fate gone is.
    (let all = gone is in
    (subst (λ o. IsGone c.args.address o c.args.file.now) (sym c.in-Data.is) all.0, λ w. ap (λ f. weight_of f w) all.1, all.2)))
