use Rattle.std.proofs.Common.{◌≡◌, ◌∙◌, take, drop, arith}
use Rattle.std.proofs.lemmas.Grind.{common_steps}
use Rattle.named_folder.proofs.folder.u32_at.Goals as goal

pub returns : goal.returns
returns c =
    let same : c.copy_from_slice.new.self ≡ take 4 (drop c.args.at c.args.bytes.now) = grind (arith, common_steps) in
    c.u32_of.ensures ∙ same
