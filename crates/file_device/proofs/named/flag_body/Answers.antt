use Rattle.std.proofs.Common.{◌-◌, ◌<◌, ◌≤◌, ⊎_elim, arith, length, subst, sym}
use Rattle.image.specs.View.{image_view}
use Rattle.file_device.specs.Named.{IsSet}
use Rattle.file_device.proofs.Flags.{named_by_both}
use Rattle.file_device.proofs.named.flag_body.Goals as goal

pub returns-in-Ok-clause-named : goal.returns-in-Ok-clause-named
returns-in-Ok-clause-named c = λ tables spelled address some within named.
    let own = image_view c.in-Ok.tables in
    let valid = c.flag_valid.ensures in
    let nodes = c.flag_nodes.ensures in
    let there : address ≤ length c.flag_valid.new.flags = let long = valid.length in let many = c.requires.flags in omega arith in
    ⊎_elim
    (λ marked. nodes.stay (address - 1) (valid.valid address some within marked))
    (λ entry. subst (IsSet c.flag_nodes.new.flags) entry.1
    (nodes.nodes entry.0 (subst (λ a. 0 < a) (sym entry.1) some) (subst (λ a. a ≤ length c.flag_valid.new.flags) (sym entry.1) there)))
    (named_by_both c.args.geometry.now c.args.body.now tables own spelled c.in-Ok.ensures.tables address named)
