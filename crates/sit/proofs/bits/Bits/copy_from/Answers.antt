-- Both lists have as many words, so after the words copied so far come those that stay; when all are copied the bits
-- are the other's.
use Rattle.std.proofs.Common.{length, refl, sym, ap, subst, ◌∙◌, arith}
use Rattle.std.proofs.lemmas.List.{get_or_read_under}
use Rattle.geometry.specs.Bits.{is_bit, bits_of}
use Rattle.sit.specs.Bits.{IsBits}
use Rattle.sit.proofs.BitLemmas.{one_written, written-IsBits, bits_of-written, bit_of_word, bit_listed, length-bits_of, same_len}
use Rattle.sit.proofs.bits.Bits.copy_from.Goals as goal

pub invariant_of-self : goal.invariant_of-self
invariant_of-self c =
    let words = c.self.inside.words.items in
    let test = c.loop-index-test.false in
    let end = c.len-index-end.ensures in
    let same = same_len words c.other.inside.words.items c.self.inside.len c.other.inside.len c.args.self.now c.args.other.now c.self.view_is c.other.view_is c.requires in
    subst (λ n. IsBits c.loop-index.self-inside.words.items n) (sym c.loop-index.invariant.1)
    (written-IsBits (is_bit c.other.inside.words.items) (length words) c.loop-index.index c.self.inside.len words c.loop-index.self-inside.words.items c.self.invariant c.loop-index.invariant.0 refl (omega arith)
    (λ o le. c.other.invariant.past o (omega arith)))

pub index-requires : goal.index-requires
index-requires c =
    let test = c.loop-index-test.true in
    let end = c.len-index-end.ensures in
    let same = same_len c.self.inside.words.items c.other.inside.words.items c.self.inside.len c.other.inside.len c.args.self.now c.args.other.now c.self.view_is c.other.view_is c.requires in
    let tight = c.self.invariant.tight in
    let enough = c.other.invariant.enough in omega arith

pub loop-index-preserved : goal.loop-index-preserved
loop-index-preserved c =
    let words = c.self.inside.words.items in
    let other = c.other.inside.words.items in
    let i = c.loop-index.index in
    let test = c.loop-index-test.true in
    let end = c.len-index-end.ensures in
    let same = same_len words other c.self.inside.len c.other.inside.len c.args.self.now c.args.other.now c.self.view_is c.other.view_is c.requires in
    let tight = c.self.invariant.tight in
    let enough = c.other.invariant.enough in
    let many = c.loop-index.invariant.0.as_many in
    let read = get_or_read_under other i (length other) c.index.result.now 0 c.index.ensures (omega arith) (λ k. length other) in (
      one_written (is_bit other) (length words) i c.index.result.now c.loop-index.self-inside.words.items (omega arith) c.loop-index.invariant.0
          (λ p within. bit_of_word other i c.index.result.now p read within),
      c.loop-index.invariant.1,
    )

pub returns : goal.returns
returns c =
    let words = c.self.inside.words.items in
    let other = c.other.inside.words.items in
    let test = c.loop-index-test.false in
    let end = c.len-index-end.ensures in
    let same = same_len words other c.self.inside.len c.other.inside.len c.args.self.now c.args.other.now c.self.view_is c.other.view_is c.requires in
    ap (bits_of c.loop-index.self-inside.words.items) c.loop-index.invariant.1
    ∙ bits_of-written (is_bit other) (length words) c.loop-index.index c.self.inside.len words c.loop-index.self-inside.words.items c.self.invariant c.loop-index.invariant.0 refl (omega arith)
    (bits_of other c.self.inside.len) (length-bits_of other c.self.inside.len) (λ o low. sym (bit_listed other c.self.inside.len o low))
    ∙ ap (bits_of other) (sym same) ∙ c.other.view_is
