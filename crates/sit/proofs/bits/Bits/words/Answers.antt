use Rattle.std.proofs.Common.{◌∙◌, sym, ap, List, Bool, length}
use Rattle.geometry.specs.Bits.{bits_of}
use Rattle.sit.proofs.BitLemmas.{length-bits_of}
use Rattle.sit.proofs.bits.Bits.words.Goals as goal

pub returns : goal.returns
returns c =
    let words = c.self.inside.words.items in
    ap (λ (l : List _). bits_of l (length c.args.self.now)) c.as_slice.ensures.value
    ∙ ap (λ n. bits_of words n) (sym (ap (λ (bs : List Bool). length bs) c.self.view_is) ∙ length-bits_of words c.self.inside.len)
    ∙ c.self.view_is
