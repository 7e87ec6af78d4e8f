use Rattle.std.proofs.Common.{List, Bool, false, length, replicate, refl, sym, ap, ◌∙◌, arith}
use Rattle.std.proofs.lemmas.List.{length-replicate}
use Rattle.geometry.specs.Bits.{bits_of}
use Rattle.sit.proofs.BitLemmas.{bits_of-written, length-bits_of, get_or-false}
use Rattle.sit.proofs.bits.Bits.clear_all.Goals as goal

pub returns : goal.returns
returns c =
    let words = c.self.inside.words.items in
    let test = c.loop-index-test.false in
    let end = c.len-index-end.ensures in
    let n = length c.args.self.now in
    let long = sym (ap (λ (bs : List Bool). length bs) c.self.view_is) ∙ length-bits_of words c.self.inside.len in
    ap (bits_of c.loop-index.self-inside.words.items) c.loop-index.invariant.1
    ∙ bits_of-written (λ o. false) (length words) c.loop-index.index c.self.inside.len words c.loop-index.self-inside.words.items c.self.invariant c.loop-index.invariant.0 refl (omega arith)
    (replicate n false) (length-replicate {A = Bool} n false ∙ long) (λ o low. sym (get_or-false n o false (omega arith)))
