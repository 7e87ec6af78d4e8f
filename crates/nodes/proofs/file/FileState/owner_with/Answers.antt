use Rattle.std.proofs.Common.{◌<◌, inl, inr, arith, ap, sym, subst, ◌∙◌, Option, IsSome, MatchOption}
use Rattle.std.proofs.lemmas.Bool.{cases_lt}
use Rattle.geometry.specs.declared.owner.Owner.{Owner}
use Rattle.geometry.specs.Owner.{IsOwner}
use Rattle.geometry.specs.Path.{path}
use Rattle.nodes.specs.Laws.{no_leaf}
use Rattle.nodes.specs.File.{missing_to}
use Rattle.nodes.specs.Lacking.{last_entry}
use Rattle.nodes.specs.Owners.{owner_at}
use Rattle.nodes.proofs.Lacking.{spare_named, last_small}
use Rattle.nodes.proofs.Numbered.{IsSlot, owner_valid}
use Rattle.nodes.proofs.Owners.{owner_there}
use Rattle.nodes.proofs.file.FileState.owner_with.Goals as goal

pub returns-in-Some-clause-numbered : goal.returns-in-Some-clause-numbered
returns-in-Some-clause-numbered g c = λ has none.
    (let f = c.args.self.now in
    let end = c.at_end.ensures ∙ ap (owner_at f) (c.path-path.ensures ∙ ap (path f.shape) c.from.ensures) in
    subst (λ (o : Option Owner). MatchOption o (Unit {0}) IsOwner) (sym end ∙ c.in-Some.is) (owner_valid f has c.args.index))

pub returns-in-None-clause-numbered : goal.returns-in-None-clause-numbered
returns-in-None-clause-numbered g c = λ has none.
    (let f = c.args.self.now in
    let i = c.args.index in
    let end = c.at_end.ensures ∙ ap (owner_at f) (c.path-path.ensures ∙ ap (path f.shape) c.from.ensures) in
    let gone : 0 < missing_to f i = elim (cases_lt 0 (missing_to f i)) [
      | inl lt ↦ lt
      | inr ge ↦ absurd (no_leaf (subst (λ (o : Option Owner). IsSome o) (sym end ∙ c.in-None.is) (owner_there f i c.requires.inside (omega arith))))
    ] in
    let named = spare_named f i c.args.spares.now gone c.requires.ready none in
    let number = c.end_number.ensures in
    let last = c.last_entry.ensures ∙ ap last_entry (c.path-path.ensures ∙ ap (path f.shape) c.from.ensures) in
    (omega arith, subst IsSlot (sym last) (last_small f i)))
