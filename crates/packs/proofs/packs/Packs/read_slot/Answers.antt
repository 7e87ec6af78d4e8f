use Rattle.std.proofs.Common.{length, sym, ◌∙◌, arith}
use Rattle.std.specs.Prelude.{Some}
use Rattle.image.specs.Slots.{slot_of}
use Rattle.packs.specs.Parts.{body_bytes}
use Rattle.packs.proofs.Gathering.{assembled_is, assembled_short}
use Rattle.packs.proofs.Sizes.{is_more, is_slots, front_fits}
use Rattle.packs.proofs.Knowing.{slots_known}
use Rattle.packs.proofs.packs.Packs.read_slot.Goals as goal

pub returns-in_ok-read_parts-in-Some-clause-body : goal.returns-in_ok-read_parts-in-Some-clause-body
returns-in_ok-read_parts-in-Some-clause-body g c = λ _.
    let p = c.args.self.now in
    let seen = g.M.Meta.seen p.meta in
    let mapped = slots_known p.geometry (slot_of p.version) p.known seen c.requires.slots (c.requires.settled.known seen (g.met.M.Meta.seen_is_left p.meta)) in
    c.in_ok-read_parts-in-Some.ensures.read ∙ sym (assembled_is p.geometry (slot_of p.version) seen (Some c.in-Some.map) (mapped ∙ c.in-Some.is))

pub returns-in-None-clause-none : goal.returns-in-None-clause-none
returns-in-None-clause-none g c = λ _.
    let p = c.args.self.now in
    let seen = g.M.Meta.seen p.meta in
    let mapped = slots_known p.geometry (slot_of p.version) p.known seen c.requires.slots (c.requires.settled.known seen (g.met.M.Meta.seen_is_left p.meta)) in
    let area = is_slots p.geometry seen c.requires.slots c.requires.settled.area in
    assembled_short p.geometry (slot_of p.version) seen (front_fits (body_bytes p.geometry) (slot_of p.version) (length seen) (omega arith) area.header (omega (arith, area.long))) (is_more p.geometry) (mapped ∙ c.in-None.is)
