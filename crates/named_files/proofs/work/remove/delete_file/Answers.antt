use Rattle.std.proofs.Common.{◌≡◌, ◌∙◌, remove, ap, subst, rules}
use Rattle.named_files.specs.Files.{file_at, IsPlace}
use Rattle.named_files.proofs.Updates.{remove_other}
use Rattle.named_files.proofs.work.remove.delete_file.Goals as goal

pub returns-in-None-clause-others : goal.returns-in-None-clause-others
returns-in-None-clause-others g c =
    let passes = c.args.passes.now.items in
    let place = c.in-Some.place in
    let same : c.as_slice.result.now ≡ passes = search rules in
    let here : IsPlace c.args.number passes place = subst (λ ps. IsPlace c.args.number ps place) same c.in-Some.ensures.some in
    let items : c.remove-pass.new.self.items ≡ remove passes place = search rules in
    λ n other. ap (file_at n) items ∙ remove_other c.args.number passes place here n other
