use Rattle.std.proofs.Common.{◌≡◌, ◌+◌, ◌<◌, List, Option, Some, None, ◌∙◌, ap, sym, subst, map, set, length, get_or, arith}
use Rattle.geometry.specs.declared.owner.Owner.{Owner}
use Rattle.geometry.specs.declared.owner.Summary.{Summary}
use Rattle.geometry.specs.Summary.{owner_in}
use Rattle.sit.specs.Summaries.{count_of}
use Rattle.sit.specs.Valid.{AreValid}
use Rattle.sit.proofs.ValidLemmas.{set_count, set_fits, valid_set, shown_set}
use Rattle.sit.proofs.valid.ValidBlocks.set.Goals as goal

pub overflow_add-self : goal.overflow_add-self
overflow_add-self c =
    let v = c.self.inside in
    let within = subst (λ (ss : List (Option Owner)). c.args.offset < length ss) (sym c.self.view_is) c.requires.within in
    let clear = subst (λ (ss : List (Option Owner)). get_or ss c.args.offset None ≡ None) (sym c.self.view_is) c.requires.clear in
    let fits = set_fits v.bits v.summaries.items v.count c.self.invariant c.args.offset c.args.owner within clear c.requires.owner in omega arith

pub invariant_of-self : goal.invariant_of-self
invariant_of-self c =
    let v = c.self.inside in
    let within = subst (λ (ss : List (Option Owner)). c.args.offset < length ss) (sym c.self.view_is) c.requires.within in
    let clear = subst (λ (ss : List (Option Owner)). get_or ss c.args.offset None ≡ None) (sym c.self.view_is) c.requires.clear in
    subst (λ (s : Summary). AreValid c.set.new.self (set v.summaries.items c.args.offset s) (v.count + 1)) (sym c.of.ensures)
    (valid_set v.bits v.summaries.items v.count c.self.invariant c.args.offset c.args.owner within clear c.requires.owner c.set.new.self c.set.ensures)

pub returns-clause-set : goal.returns-clause-set
returns-clause-set c =
    let ss = c.self.inside.summaries.items in
    ap (λ (s : Summary). map owner_in (set ss c.args.offset s)) c.of.ensures
    ∙ shown_set ss c.args.offset c.args.owner c.requires.owner ∙ ap (λ xs. set xs c.args.offset (Some c.args.owner)) c.self.view_is

pub returns-clause-count : goal.returns-clause-count
returns-clause-count c =
    let v = c.self.inside in
    let within = subst (λ (ss : List (Option Owner)). c.args.offset < length ss) (sym c.self.view_is) c.requires.within in
    let clear = subst (λ (ss : List (Option Owner)). get_or ss c.args.offset None ≡ None) (sym c.self.view_is) c.requires.clear in
    ap (λ (s : Summary). count_of (map owner_in (set v.summaries.items c.args.offset s))) c.of.ensures
    ∙ set_count v.bits v.summaries.items v.count c.self.invariant c.args.offset c.args.owner within clear c.requires.owner
    ∙ ap (λ n. n + 1) c.self.invariant.count_is ∙ ap (λ ss. count_of ss + 1) c.self.view_is
