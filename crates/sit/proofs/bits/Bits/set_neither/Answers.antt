-- A word of the result has a bit exactly where both other words have none, and none past the end: word by word this is
-- the list of places that are clear in both.
use Rattle.std.proofs.Common.{List, Bool, length, refl, sym, ap, subst, ◌∙◌, arith}
use Rattle.std.proofs.lemmas.List.{get_or_read_under}
use Rattle.geometry.specs.Bits.{bits_of}
use Rattle.sit.specs.Bits.{neither_of, IsBits}
use Rattle.sit.proofs.BitLemmas.{clear_in, clear_past_end, one_written, written-IsBits, bits_of-written, clear_word, neither_written, length-neither_of, length-bits_of, same_len}
use Rattle.sit.proofs.bits.Bits.set_neither.Goals as goal

pub invariant_of-self : goal.invariant_of-self
invariant_of-self c =
    let words = c.self.inside.words.items in
    let test = c.loop-index-test.false in
    let end = c.len-index-end.ensures in
    let same = c.loop-index.invariant.1 in
    subst (λ n. IsBits c.loop-index.self-inside.words.items n) (sym same)
    (written-IsBits _ (length words) c.loop-index.index c.self.inside.len words c.loop-index.self-inside.words.items c.self.invariant c.loop-index.invariant.0 refl (omega arith)
    (λ o le. clear_past_end c.one.inside.words.items c.other.inside.words.items c.loop-index.self-inside.len o (omega arith)))

pub index-requires : goal.index-requires
index-requires c =
    let test = c.loop-index-test.true in
    let end = c.len-index-end.ensures in
    let same = same_len c.self.inside.words.items c.one.inside.words.items c.self.inside.len c.one.inside.len c.args.self.now c.args.one.now c.self.view_is c.one.view_is c.requires.one in
    let tight = c.self.invariant.tight in
    let enough = c.one.invariant.enough in omega arith

pub index-requires-in-loop-index : goal.index-requires-in-loop-index
index-requires-in-loop-index c =
    let test = c.loop-index-test.true in
    let end = c.len-index-end.ensures in
    let same = same_len c.self.inside.words.items c.other.inside.words.items c.self.inside.len c.other.inside.len c.args.self.now c.args.other.now c.self.view_is c.other.view_is c.requires.other in
    let tight = c.self.invariant.tight in
    let enough = c.other.invariant.enough in omega arith

pub loop-index-preserved : goal.loop-index-preserved
loop-index-preserved c =
    let words = c.self.inside.words.items in
    let one = c.one.inside.words.items in
    let other = c.other.inside.words.items in
    let i = c.loop-index.index in
    let test = c.loop-index-test.true in
    let end = c.len-index-end.ensures in
    let same = same_len words one c.self.inside.len c.one.inside.len c.args.self.now c.args.one.now c.self.view_is c.one.view_is c.requires.one in
    let same' = same_len words other c.self.inside.len c.other.inside.len c.args.self.now c.args.other.now c.self.view_is c.other.view_is c.requires.other in
    let tight = c.self.invariant.tight in
    let enough = c.one.invariant.enough in
    let enough' = c.other.invariant.enough in
    let many = c.loop-index.invariant.0.as_many in
    let read = get_or_read_under one i (length one) c.index.result.now 0 c.index.ensures (omega arith) (λ k. length one) in
    let read' = get_or_read_under other i (length other) c.index-in-loop-index.result.now 0 c.index-in-loop-index.ensures (omega arith) (λ k. length other) in (
      one_written (clear_in one other c.loop-index.self-inside.len) (length words) i _ c.loop-index.self-inside.words.items (omega arith) c.loop-index.invariant.0
          (clear_word one other c.loop-index.self-inside.len i c.index.result.now c.index-in-loop-index.result.now c.clear_bits.result read read' c.clear_bits.ensures),
      c.loop-index.invariant.1,
    )

pub returns : goal.returns
returns c =
    let words = c.self.inside.words.items in
    let one = c.one.inside.words.items in
    let other = c.other.inside.words.items in
    let test = c.loop-index-test.false in
    let end = c.len-index-end.ensures in
    let n = c.loop-index.invariant.1 in
    let same = same_len words one c.self.inside.len c.one.inside.len c.args.self.now c.args.one.now c.self.view_is c.one.view_is c.requires.one in
    let same' = same_len words other c.self.inside.len c.other.inside.len c.args.self.now c.args.other.now c.self.view_is c.other.view_is c.requires.other in
    ap (bits_of c.loop-index.self-inside.words.items) n
    ∙ bits_of-written (clear_in one other c.loop-index.self-inside.len) (length words) c.loop-index.index c.self.inside.len words c.loop-index.self-inside.words.items c.self.invariant c.loop-index.invariant.0 refl (omega arith)
    (neither_of c.args.one.now c.args.other.now)
    (length-neither_of c.args.one.now c.args.other.now ∙ sym (ap (λ (bs : List Bool). length bs) c.one.view_is) ∙ length-bits_of one c.one.inside.len ∙ same)
    (λ o low. neither_written one other c.loop-index.self-inside.len c.one.inside.len c.other.inside.len c.args.one.now c.args.other.now c.one.view_is c.other.view_is (same ∙ sym n) (same' ∙ sym n) o (omega arith))
