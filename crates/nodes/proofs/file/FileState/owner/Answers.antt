use Rattle.std.proofs.Common.{ap, sym, subst, ◌∙◌, Option, IsSome, MatchOption}
use Rattle.geometry.specs.declared.owner.Owner.{Owner}
use Rattle.geometry.specs.Owner.{IsOwner}
use Rattle.geometry.specs.Path.{path}
use Rattle.nodes.specs.Owners.{owner_at}
use Rattle.nodes.proofs.Owners.{owner_there}
use Rattle.nodes.proofs.Numbered.{owner_valid}
use Rattle.nodes.proofs.file.FileState.owner.Goals as goal

pub returns-clause-there : goal.returns-clause-there
returns-clause-there g c = λ is inside none.
    let f = c.args.self.now in
    let end = c.at_end.ensures ∙ ap (owner_at f) (c.path.ensures ∙ ap (path f.shape) c.from.ensures) in
    subst (λ (o : Option Owner). IsSome o) (sym end) (owner_there f c.args.index inside none)

pub returns-clause-numbered : goal.returns-clause-numbered
returns-clause-numbered g c = λ has.
    let f = c.args.self.now in
    let end = c.at_end.ensures ∙ ap (owner_at f) (c.path.ensures ∙ ap (path f.shape) c.from.ensures) in
    subst (λ (o : Option Owner). MatchOption o (Unit {0}) IsOwner) (sym end) (owner_valid f has c.args.index)
