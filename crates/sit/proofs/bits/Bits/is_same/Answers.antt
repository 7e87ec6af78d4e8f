use Rattle.std.proofs.Common.{length, eqb-true, sym, ap, subst, ◌∙◌, arith}
use Rattle.geometry.specs.Bits.{is_bit, bits_of}
use Rattle.sit.specs.Bits.{IsBits}
use Rattle.sit.proofs.BitLemmas.{same_len, bits_same, same_bits}
use Rattle.sit.proofs.bits.Bits.is_same.Goals as goal

pub are_same-requires : goal.are_same-requires
are_same-requires c =
    let same = c.if-self-other.true in
    let one = c.self.invariant in
    let other = c.other.invariant in
    let enough = one.enough in
    let tight = one.tight in
    let other_enough = other.enough in
    let other_tight = other.tight in
    let first = c.as_slice.ensures.len in
    let second = c.as_slice-then-self-other.ensures.len in
    omega arith

pub returns-then-self-other : goal.returns-then-self-other
returns-then-self-other c =
    let one = c.self.inside.words.items in
    let other = c.other.inside.words.items in
    let len = c.self.inside.len in
    let as_long = c.if-self-other.true in
    let here = c.as_slice.ensures.value in
    let there = c.as_slice-then-self-other.ensures.value in
    let list = ap (bits_of other) as_long ∙ c.other.view_is in
    let other_is = subst (λ n. IsBits other n) (sym as_long) c.other.invariant in (
      λ yes. sym c.self.view_is
          ∙ (bits_same one other len (λ o. ap (λ words. is_bit words o) (sym here) ∙ (c.are_same.ensures.0 yes o ∙ ap (λ words. is_bit words o) there)) ∙ list),
      λ same. c.are_same.ensures.1 (λ o. ap (λ words. is_bit words o) here
          ∙ (same_bits one other len c.self.invariant other_is (c.self.view_is ∙ (same ∙ sym list)) o ∙ ap (λ words. is_bit words o) (sym there))),
    )

pub returns-else-self-other : goal.returns-else-self-other
returns-else-self-other c = (
  λ yes. absurd (c.if-self-other.false (eqb-true c.self.inside.len c.other.inside.len yes)),
  λ same. absurd (c.if-self-other.false (sym (same_len c.self.inside.words.items c.other.inside.words.items c.self.inside.len c.other.inside.len c.args.self.now c.args.other.now
      c.self.view_is c.other.view_is (ap (λ bits. length bits) (sym same))))),
)
