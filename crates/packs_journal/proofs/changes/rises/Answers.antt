use Rattle.std.proofs.Common.{refl, sym, ◌∙◌, ap, ◌+◌, inl, inr, ℕ, arith, add-one}
use Rattle.packs_journal.specs.Journal.{place_of as place_in, rises as rises_in, next_place}
use Rattle.packs_journal.proofs.Rising.{rises_more, rises_not}
use Rattle.packs_journal.proofs.changes.rises.Goals as goal
use Rattle.packs_journal.proofs.changes.rises.Goals.{then-place-next-via-then-place-next, then-place-next-via-else-place-next+then-place-words}

pub loop-n-init : goal.loop-n-init
unfolding rises_in next_place
loop-n-init c = record { rise = refl; next = refl }

pub returns-then-place-next : goal.returns-then-place-next
returns-then-place-next c =
    let inv = c.loop-n.invariant in
    let is = c.place_of-place.ensures in
    sym (rises_not c.args.words c.args.changes.now c.loop-n.n c.args.count c.loop-n-test.true
    (elim c.then-place-next.branch [
      | then-place-next-via-then-place-next w ↦ inl (omega (arith, w.if-place-next.true, is, inv.next))
      | then-place-next-via-else-place-next+then-place-words w ↦ inr (omega (arith, w.if-place-words.true, is))
    ]))

pub loop-n-preserved : goal.loop-n-preserved
unfolding next_place
loop-n-preserved c =
    let inv = c.loop-n.invariant in
    let is = c.place_of-place.ensures in
    let n = c.loop-n.n in
    let changes = c.args.changes.now in
    let more = rises_more c.args.words n (next_place changes n) changes changes (place_in changes n) refl refl (record { rise = inv.rise; end = omega arith })
    (omega (arith, c.if-place-next.false, is, inv.next)) (omega (arith, c.if-place-words.false, is)) in
    record {
      rise = ap (λ (m : ℕ). rises_in c.args.words changes m) (add-one n) ∙ more.rise;
      next = ap (λ (m : ℕ). m + 1) is ∙ add-one (place_in changes n) ∙ sym (ap (next_place changes) (add-one n));
    }
