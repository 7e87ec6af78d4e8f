use Rattle.std.proofs.Common.{false, length, sym, ap, subst, ◌∙◌}
use Rattle.sit.specs.Bits.{neither_of, has_true}
use Rattle.sit.specs.Thread.{Thread, HasBegun}
use Rattle.sit.proofs.Threads.{not_begun, begun_sized}
use Rattle.sit.proofs.thread.HoleFilling.begin.Goals as goal

pub invariant_of-self : goal.invariant_of-self
invariant_of-self c =
    begun_sized c.args.valid.now (record { kept = c.self.inside.kept; holes = c.self.inside.holes; log = c.self.inside.log }) c.set_neither.new.self
    (c.requires.as_many ∙ sym (ap (λ (t : Thread). length t.kept) c.self.view_is)) (c.set_neither.ensures ∙ ap (λ x. neither_of x c.self.inside.kept) c.bits.ensures)

pub invariant_of-self-2 : goal.invariant_of-self-2
invariant_of-self-2 c =
    begun_sized c.args.valid.now (record { kept = c.self.inside.kept; holes = c.self.inside.holes; log = c.self.inside.log }) c.set_neither.new.self
    (c.requires.as_many ∙ sym (ap (λ (t : Thread). length t.kept) c.self.view_is)) (c.set_neither.ensures ∙ ap (λ x. neither_of x c.self.inside.kept) c.bits.ensures)

pub returns-then-not-any : goal.returns-then-not-any
returns-then-not-any c =
    let t : Thread = record { kept = c.self.inside.kept; holes = c.self.inside.holes; log = c.self.inside.log } in
    subst (λ (old : Thread). HasBegun false c.args.log c.args.valid.now old (record t { holes = c.set_neither.new.self })) c.self.view_is
    (not_begun c.args.log c.args.valid.now t c.set_neither.new.self (c.requires.as_many ∙ sym (ap (λ (x : Thread). length x.kept) c.self.view_is)) c.self.invariant
    (ap (λ (x : Thread). has_true x.holes) c.self.view_is ∙ c.requires.unthreaded)
    (c.set_neither.ensures ∙ ap (λ x. neither_of x c.self.inside.kept) c.bits.ensures) (sym c.any.ensures ∙ c.if-not-any.true))
