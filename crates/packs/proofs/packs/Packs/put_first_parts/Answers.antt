-- Without a pack that counts the parts are put into slot 1.
use Rattle.std.proofs.Common.{◌≡◌, sym, ap, subst, ℕ, ◌-◌}
use Rattle.image.specs.Slots.{slot_of}
use Rattle.geometry.specs.declared.geometry.Geometry.{Geometry}
use Rattle.packs.specs.declared.packs.Packs.{Packs}
use Rattle.packs.specs.Area.{slots_reading}
use Rattle.packs.specs.Parts.{map_in, assembled}
use Rattle.packs.specs.Device.{IsKnown}
use Rattle.packs.proofs.Sizes.{is_slots}
use Rattle.packs.proofs.Knowing.{known_slots}
use Rattle.packs.proofs.packs.Packs.put_first_parts.Goals as goal

pub put_parts-requires-clause-area : goal.put_parts-requires-clause-area
put_parts-requires-clause-area g c = is_slots c.args.self.now.geometry (g.M.Meta.seen c.args.self.now.meta) c.requires.slots c.requires.area

-- the geometry stays
module _ {D : Type 0} (p q : Packs D) (rest : q ≡ record p { meta = q.meta }) where
  stays : p.geometry ≡ q.geometry
  stays = sym (ap (λ (x : Packs D). x.geometry) rest)

pub returns-in_err-known-clause-footers : goal.returns-in_err-known-clause-footers
returns-in_err-known-clause-footers g c = λ slot below.
    let p = c.args.self.now in
    let q = c.put_parts.new.self in
    subst (λ (x : Geometry). (slots_reading x).footer slot (g.M.Meta.seen q.meta) ≡ (slots_reading p.geometry).footer slot (g.M.Meta.seen p.meta)) (stays p q c.put_parts.ensures.rest) (c.put_parts.ensures.ends.footer slot below)

pub returns-in_err-known-clause-same : goal.returns-in_err-known-clause-same
returns-in_err-known-clause-same g c = c.put_parts.ensures.ends.area

pub returns-clause-footers : goal.returns-clause-footers
returns-clause-footers g c = λ slot below.
    let p = c.args.self.now in
    let q = c.put_parts.new.self in
    subst (λ (x : Geometry). (slots_reading x).footer slot (g.M.Meta.seen q.meta) ≡ (slots_reading p.geometry).footer slot (g.M.Meta.seen p.meta)) (stays p q c.put_parts.ensures.rest) (c.put_parts.ensures.ends.footer slot below)

pub returns-clause-same : goal.returns-clause-same
returns-clause-same g c = c.put_parts.ensures.ends.area

pub returns-clause-staged : goal.returns-clause-staged
returns-clause-staged g c =
    let p = c.args.self.now in
    let q = c.put_parts.new.self in
    let now = g.M.Meta.seen q.meta in
    subst (λ (x : Geometry). assembled x 1 now ≡ c.args.body.now) (stays p q c.put_parts.ensures.rest)
    (subst (λ (s : ℕ). assembled p.geometry (1 - s) now ≡ c.args.body.now) (ap slot_of c.requires.fresh.0) c.in_ok-known.ensures.body)

pub returns-clause-known : goal.returns-clause-known
returns-clause-known g c =
    let p = c.args.self.now in
    let q = c.put_parts.new.self in
    let now = g.M.Meta.seen q.meta in
    let known = c.in_ok-known.known in
    subst (λ (x : Geometry). IsKnown x 1 known now) (stays p q c.put_parts.ensures.rest)
    (known_slots p.geometry 1 known now c.requires.slots (subst (λ (s : ℕ). map_in p.geometry (1 - s) now ≡ known.map) (ap slot_of c.requires.fresh.0) c.in_ok-known.ensures.map))
