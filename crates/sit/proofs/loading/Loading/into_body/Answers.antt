use Rattle.std.proofs.Common.{ap, sym, subst, ◌∙◌, refl}
use Rattle.sit.specs.Loading.{Loaded, IsLoading, IsAccountOf}
use Rattle.sit.specs.Segment.{IsFitting}
use Rattle.sit.proofs.Loads.{loaded_law}
use Rattle.sit.proofs.loading.Loading.into_body.Goals as goal

pub invariant_of-body : goal.invariant_of-body
invariant_of-body g c =
    let s = c.self.inside in
    let left = ap (λ (v : Loaded). v.left) c.self.view_is ∙ c.requires.all in
    loaded_law s.shape s.number c.args.mtime c.args.next c.args.state s.blocks s.valid s.thread c.keep.new.self s.account
    (subst (λ k. IsLoading s.shape s.number k s.blocks s.valid s.thread s.account) left c.self.invariant)
    (subst (λ (v : Loaded). IsFitting c.args.state c.args.next v.summaries) (sym c.self.view_is) c.requires.fitting) c.keep.ensures

pub returns-clause-account : goal.returns-clause-account
returns-clause-account g c =
    let law = c.self.invariant in
    subst (λ (v : Loaded). IsAccountOf v c.self.inside.account) c.self.view_is
    (record { book_is = refl; number_is = law.account_number; marks = law.marks })
