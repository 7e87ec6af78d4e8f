-- A part without bytes, or one that stays where it lies, is there already; any other is written where the old pack has
-- no such part, so that one is kept at every moment.
use mathlib.Core.Bool.{not, beq}
use Rattle.std.proofs.lemmas.Bool.{eqb-true}
use Rattle.std.proofs.Common.{◌≡◌, ◌≢◌, refl, inl, inr, ◌≤◌, ◌-◌, ◌+◌, ◌∙◌, sym, ap, subst, suc, ℕ, Bool, true, false, length, arith}
use Rattle.device.specs.Disk.{Torn, Holds}
use Rattle.device.proofs.Moments.{torn_moments}
use Rattle.image.specs.Slots.{slot_of}
use Rattle.packs.specs.Parts.{known_sides, place, side, body_bytes, lies, slot_at}
use Rattle.packs.specs.Device.{KeepsMapped}
use Rattle.packs.proofs.Keeping.{lies_within, put_same, put_more, wrote_ends}
use Rattle.packs.proofs.Places.{place_next}
use Rattle.packs.proofs.Putting.{part_step}
use Rattle.packs.proofs.packs.Packs.put_part.Goals as goal

differ : (a b : Bool) → not (beq a b) ≡ true → a ≡ b → ⊥
differ true true is same = absurd cc
differ true false is same = absurd cc
differ false true is same = absurd cc
differ false false is same = absurd cc

agree : (a b : Bool) → not (beq a b) ≡ false → a ≡ b
agree true true is = refl
agree true false is = absurd cc
agree false true is = absurd cc
agree false false is = refl

no_bytes : (p p' n : ℕ) → p ≤ p' → n ≡ p' - p → n ≡ 0 → p ≡ p'
no_bytes p p' n le is none = omega (arith, le, is, none)

pub returns-then-is_empty-clause-put : goal.returns-then-is_empty-clause-put
returns-then-is_empty-clause-put g c = λ start put.
    let p = c.args.self.now in
    let none : length c.part_of-bytes.result.now ≡ 0 = eqb-true _ 0 (sym c.is_empty.ensures ∙ c.if-is_empty.true) in
    put_same p.geometry (slot_of p.version) (known_sides p.known.map) c.args.sides.now c.args.body.now start (omega arith) c.args.k (g.M.Meta.seen p.meta)
    (inl (no_bytes _ _ _ (place_next p.geometry c.args.k) c.part_of-bytes.ensures.long none)) put

pub returns-then-other-known_side-clause-put : goal.returns-then-other-known_side-clause-put
returns-then-other-known_side-clause-put g c = λ start put.
    let p = c.args.self.now in
    let apart : c.side-other.result ≢ c.known_side.result = differ _ _ c.if-other-known_side.true in
    put_same p.geometry (slot_of p.version) (known_sides p.known.map) c.args.sides.now c.args.body.now start (omega arith) c.args.k (g.M.Meta.seen p.meta)
    (inr (λ is. apart (c.side-other.ensures.side ∙ is ∙ sym c.known_side.ensures.side))) put

pub returns-in_err-write-clause-any_moment : goal.returns-in_err-write-clause-any_moment
returns-in_err-write-clause-any_moment g c = λ start old had slot.
    let p = c.args.self.now in
    let P = KeepsMapped p.geometry (slot_of p.version) p.known.map start old in
    let same : c.side-other.result ≡ c.known_side.result = agree _ _ c.if-other-known_side.false in
    torn_moments g.M.Meta.moment g.M.Meta.left_since g.M.Meta.may_leave g.met.M.Meta.only_now _ _ _ _ P P had c.write.ensures.crash c.write.ensures.time (λ d is. is)
    (part_step p.geometry p.version p.known.map start old slot c.part_at-at.result (length c.part_of-bytes.result.now) c.args.k c.side-other.result c.requires.within (same ∙ c.known_side.ensures.side) c.part_at-at.ensures.place c.part_of-bytes.ensures.long)

pub returns-clause-any_moment : goal.returns-clause-any_moment
returns-clause-any_moment g c = λ start old had slot.
    let p = c.args.self.now in
    let P = KeepsMapped p.geometry (slot_of p.version) p.known.map start old in
    let same : c.side-other.result ≡ c.known_side.result = agree _ _ c.if-other-known_side.false in
    torn_moments g.M.Meta.moment g.M.Meta.left_since g.M.Meta.may_leave g.met.M.Meta.only_now _ _ _ _ P P had c.write.ensures.crash c.write.ensures.time (λ d is. is)
    (part_step p.geometry p.version p.known.map start old slot c.part_at-at.result (length c.part_of-bytes.result.now) c.args.k c.side-other.result c.requires.within (same ∙ c.known_side.ensures.side) c.part_at-at.ensures.place c.part_of-bytes.ensures.long)

pub returns-in_err-write-clause-ends : goal.returns-in_err-write-clause-ends
returns-in_err-write-clause-ends g c =
    let p = c.args.self.now in
    wrote_ends p.geometry (lies (1 - slot_of p.version) c.side-other.result) c.args.k c.part_at-at.result (length c.part_of-bytes.result.now) (g.M.Meta.seen p.meta) (g.M.Meta.seen c.write.new.self)
    (lies_within (1 - slot_of p.version) c.side-other.result (omega arith)) c.requires.within c.part_at-at.ensures.place c.part_of-bytes.ensures.long c.write.ensures.others

pub returns-clause-ends : goal.returns-clause-ends
returns-clause-ends g c =
    let p = c.args.self.now in
    wrote_ends p.geometry (lies (1 - slot_of p.version) c.side-other.result) c.args.k c.part_at-at.result (length c.part_of-bytes.result.now) (g.M.Meta.seen p.meta) (g.M.Meta.seen c.write.new.self)
    (lies_within (1 - slot_of p.version) c.side-other.result (omega arith)) c.requires.within c.part_at-at.ensures.place c.part_of-bytes.ensures.long c.write.ensures.others

pub returns-clause-put : goal.returns-clause-put
returns-clause-put g c = λ start put.
    let p = c.args.self.now in
    let seen = g.M.Meta.seen in
    let n = place p.geometry (suc c.args.k) - place p.geometry c.args.k in
    let b = lies (1 - slot_of p.version) (side c.args.sides.now c.args.k) in
    let at = c.part_at-at.ensures.place ∙ ap (λ (s : Bool). slot_at (body_bytes p.geometry) (lies (1 - slot_of p.version) s) + place p.geometry c.args.k) c.side-other.ensures.side in
    let torn : Torn (slot_at (body_bytes p.geometry) b + place p.geometry c.args.k) n (seen p.meta) (seen c.write.new.self)
    = subst (λ (a : ℕ). Torn a n (seen p.meta) (seen c.write.new.self)) at (subst (λ (m : ℕ). Torn c.part_at-at.result m (seen p.meta) (seen c.write.new.self)) c.part_of-bytes.ensures.long c.write.ensures.others) in
    let holds = subst (λ (a : ℕ). Holds (seen p.meta) a c.part_of-bytes.result.now (seen c.write.new.self)) at c.in_ok-write.ensures.written in
    put_more p.geometry (slot_of p.version) (known_sides p.known.map) c.args.sides.now c.args.body.now start (omega arith) c.args.k (seen p.meta) (seen c.write.new.self) c.part_of-bytes.result.now
    c.requires.within c.requires.area.long c.part_of-bytes.ensures.bytes c.part_of-bytes.ensures.long torn holds put
