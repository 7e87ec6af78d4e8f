use Rattle.std.proofs.Common.{◌≡◌, ◌∙◌, take, drop, arith}
use Rattle.std.proofs.lemmas.Grind.{common_steps}
use Rattle.named_folder.proofs.folder.u64_at.Goals as goal

pub returns : goal.returns
returns c =
    let same : c.copy_from_slice.new.self ≡ take 8 (drop c.args.at c.args.bytes.now) = grind (arith, common_steps) in
    c.u64_of.ensures ∙ same
