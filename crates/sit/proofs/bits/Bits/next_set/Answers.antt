-- No word before the present one has a set bit from there on: so the first one found in it is the least of all, and
-- after the last word there is none.
use Rattle.std.proofs.Common.{◌+◌, ◌*◌, Some, None, length, subst, arith}
use Rattle.std.proofs.lemmas.List.{get_or_read_under}
use Rattle.sit.specs.Bits.{IsFirstTrue}
use Rattle.sit.proofs.BitLemmas.{found_within, found_first, none_more, none_left}
use Rattle.sit.proofs.bits.Bits.next_set.Goals as goal

pub overflow_add-result : goal.overflow_add-result
overflow_add-result c =
    let words = c.self.inside.words.items in
    let i = c.loop-index.index in
    let test = c.loop-index-test.true in
    let end = c.len-index-end.ensures in
    let word = get_or_read_under words i (length words) c.index.result.now 0 c.index.ensures (omega arith) (λ k. length words) in
    let within = found_within words c.args.from i c.index.result.now c.saturating_sub-first.result word c.saturating_sub-first.ensures c.loop-index.invariant c.self.inside.len c.in-Some.place c.self.invariant c.in-Some.ensures in
    let few = c.self.invariant.few in omega arith

pub returns-in-Some : goal.returns-in-Some
returns-in-Some c =
    let words = c.self.inside.words.items in
    let i = c.loop-index.index in
    let test = c.loop-index-test.true in
    let end = c.len-index-end.ensures in
    let word = get_or_read_under words i (length words) c.index.result.now 0 c.index.ensures (omega arith) (λ k. length words) in
    subst (λ bits. IsFirstTrue bits c.args.from (Some (64 * i + c.in-Some.place))) c.self.view_is
    (found_first words c.args.from i c.index.result.now c.saturating_sub-first.result word c.saturating_sub-first.ensures c.loop-index.invariant c.self.inside.len c.in-Some.place c.self.invariant c.in-Some.ensures)

pub loop-index-preserved : goal.loop-index-preserved
loop-index-preserved c =
    let words = c.self.inside.words.items in
    let i = c.loop-index.index in
    let test = c.loop-index-test.true in
    let end = c.len-index-end.ensures in
    let word = get_or_read_under words i (length words) c.index.result.now 0 c.index.ensures (omega arith) (λ k. length words) in
    none_more words c.args.from i c.index.result.now c.saturating_sub-first.result word c.saturating_sub-first.ensures c.loop-index.invariant c.in_default.ensures

pub returns : goal.returns
returns c =
    let words = c.self.inside.words.items in
    let test = c.loop-index-test.false in
    let end = c.len-index-end.ensures in
    subst (λ bits. IsFirstTrue bits c.args.from None) c.self.view_is
    (none_left words c.self.inside.len c.args.from c.self.invariant (λ o past low. c.loop-index.invariant o past (omega arith)))
