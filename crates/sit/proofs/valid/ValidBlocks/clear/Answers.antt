use Rattle.std.proofs.Common.{◌≡◌, ◌<◌, List, Option, None, true, ◌∙◌, ap, sym, subst, set, length, get_or, arith}
use Rattle.geometry.specs.declared.owner.Owner.{Owner}
use Rattle.sit.specs.Summaries.{is_set}
use Rattle.sit.proofs.ValidLemmas.{clear_count, valid_clear, shown_cleared}
use Rattle.sit.proofs.valid.ValidBlocks.clear.Goals as goal

pub overflow_sub-self : goal.overflow_sub-self
overflow_sub-self c =
    let v = c.self.inside in
    let within = subst (λ (ss : List (Option Owner)). c.args.offset < length ss) (sym c.self.view_is) c.requires.within in
    let valid = subst (λ (ss : List (Option Owner)). is_set (get_or ss c.args.offset None) ≡ true) (sym c.self.view_is) c.requires.valid in
    let count = clear_count v.bits v.summaries.items v.count c.self.invariant c.args.offset within valid in omega arith

pub invariant_of-self : goal.invariant_of-self
invariant_of-self c =
    let v = c.self.inside in
    let within = subst (λ (ss : List (Option Owner)). c.args.offset < length ss) (sym c.self.view_is) c.requires.within in
    let valid = subst (λ (ss : List (Option Owner)). is_set (get_or ss c.args.offset None) ≡ true) (sym c.self.view_is) c.requires.valid in
    valid_clear v.bits v.summaries.items v.count c.self.invariant c.args.offset within valid c.clear.new.self c.clear.ensures

pub returns : goal.returns
returns c = shown_cleared c.self.inside.summaries.items c.args.offset ∙ ap (λ ss. set ss c.args.offset None) c.self.view_is
