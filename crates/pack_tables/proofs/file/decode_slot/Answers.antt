use Rattle.std.proofs.Common.{refl, inr}
use Rattle.packs.specs.Area.{reading_of}
use Rattle.pack_tables.proofs.Parts.{long_as_a_body}
use Rattle.pack_tables.proofs.file.decode_slot.Goals as goal

pub returns-in-None-clause-refused : goal.returns-in-None-clause-refused
returns-in-None-clause-refused c =
    let short = rw c.in-None.is at c.in_ok-body.ensures in
    inr (refl, λ image spelled. short (long_as_a_body c.args.geometry.now ((reading_of c.args.geometry.now).body c.args.slot c.args.file.now) image spelled))
