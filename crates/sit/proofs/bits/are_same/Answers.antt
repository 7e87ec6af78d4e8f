use Rattle.std.proofs.Common.{ap, arith}
use Rattle.std.proofs.lemmas.Slice.Eq.{slice_eq-Decides}
use Rattle.std.proofs.lemmas.Bool.Decides.{Decides-eqb}
use Rattle.geometry.specs.Bits.{is_bit}
use Rattle.sit.proofs.BitLemmas.{words_same}
use Rattle.sit.proofs.bits.are_same.Goals as goal

pub returns : goal.returns
returns c =
    let one = c.args.one.now in
    let other = c.args.other.now in
    let tells = slice_eq-Decides Decides-eqb one other c.eq.result c.eq.ensures in (
      λ yes o. ap (λ words. is_bit words o) (tells.0 yes),
      λ same. tells.1 (words_same one other c.requires (λ i. (let fits = c.type_inv.one i in omega arith)) (λ i. (let fits = c.type_inv.other i in omega arith)) same),
    )
