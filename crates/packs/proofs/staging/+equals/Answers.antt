use Rattle.std.proofs.Common.{◌≡◌, ◌+◌, ◌∙◌, sym, ap, subst, List, ℕ, length, arith}
use Rattle.device.specs.Disk.{part}
use Rattle.packs.proofs.Places.{part_joined}
use Rattle.packs.proofs.staging.+equals.Goals as goal

pub overflow_add-at : goal.overflow_add-at
overflow_add-at g t c = omega (arith, c.requires.fits, c.split_at.ensures.back_len)

pub returns-clause-same : goal.returns-clause-same
returns-clause-same g t c = λ same.
    let seen = g.M.Meta.seen c.args.meta.now in
    let bytes = c.args.bytes.now in
    let first = c.split_at.result.0.now in
    let rest = c.split_at.result.1.now in
    let four = c.split_at.ensures.front_len in
    let begins : part c.args.at 4096 seen ≡ first = subst (λ (n : ℕ). part c.args.at n seen ≡ first) four (c.in_ok-begins.ensures.same c.if-not-begins.false) in
    let ends : part (c.args.at + 4096) (length rest) seen ≡ rest
    = subst (λ (l : List ℕ). part (c.args.at + 4096) (length rest) l ≡ rest) c.equals_few-2.ensures.quiet.same (c.in_ok-ends.ensures.same same) in
    let count : 4096 + length rest ≡ length bytes = omega (arith, c.split_at.ensures.back_len) in
    sym (ap (λ (n : ℕ). part c.args.at n seen) count) ∙ part_joined c.args.at 4096 (length rest) seen first rest begins ends ∙ sym c.split_at.ensures.by_index.0
