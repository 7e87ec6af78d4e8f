use Rattle.std.proofs.Common.{◌∙◌, subst, OnOk}
use Rattle.image.specs.Image.{Image}
use Rattle.pack_tables.specs.Grammar.{SpellsTables}
use Rattle.file_device.specs.Named.{FlagAll}
use Rattle.packs.specs.Area.{reading_of}
use Rattle.pack_tables.proofs.Parts.{long_as_a_body}
use Rattle.file_device.proofs.named.flag_slot.Goals as goal

pub returns-in-None-clause-named : goal.returns-in-None-clause-named
returns-in-None-clause-named c =
    let short = rw c.in-None.is at c.in_ok-body.ensures in
    λ tables spelled address some within named. absurd (short (long_as_a_body c.args.geometry.now ((reading_of c.args.geometry.now).body c.args.slot c.args.area.now) tables spelled))

pub returns-in-Some-clause-named : goal.returns-in-Some-clause-named
returns-in-Some-clause-named c =
    let body = rw c.in-Some.is at c.in_ok-body.ensures in
    subst (λ bytes. OnOk c.flag_body.result ((tables : Image) → SpellsTables c.args.geometry.now bytes tables → FlagAll c.args.geometry.now tables c.flag_body.new.flags))
    (c.as_slice.ensures.value ∙ body) c.flag_body.ensures.named
