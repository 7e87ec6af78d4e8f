-- Neither the map nor a part of the next pack reaches what counts: so at each moment of the loop the old pack is kept,
-- with what is put so far beside it.
use Rattle.std.proofs.Common.{refl, ◌-◌, ◌∙◌, sym, ap, subst, suc, List, ℕ, length, arith, add-one}
use Rattle.device.specs.Disk.{Torn, Holds}
use Rattle.device.proofs.Moments.{torn_moments}
use Rattle.image.specs.Slots.{slot_of}
use Rattle.packs.specs.declared.packs.Packs.{Packs}
use Rattle.packs.specs.Parts.{known_sides, map_at as place_of_map}
use Rattle.packs.specs.Device.{KeepsMapped}
use Rattle.packs.specs.Staging.{IsPut}
use Rattle.packs.proofs.Keeping.{put_first, map_ends}
use Rattle.packs.proofs.Maps.{spelled_long}
use Rattle.packs.proofs.Putting.{map_step, keep_more}
use Rattle.packs.proofs.packs.Packs.put.Goals as goal

pub returns-in_err-write-clause-ends : goal.returns-in_err-write-clause-ends
returns-in_err-write-clause-ends g c =
    let p = c.args.self.now in
    let seen = g.M.Meta.seen in
    let long = ap length c.spell_map.ensures ∙ spelled_long c.args.sides.now in
    let torn = subst (λ (a : ℕ). Torn a 16 (seen p.meta) (seen c.write.new.self)) c.map_at-at.ensures (subst (λ (n : ℕ). Torn c.map_at-at.result n (seen p.meta) (seen c.write.new.self)) long c.write.ensures.others) in
    map_ends p.geometry (1 - slot_of p.version) (seen p.meta) (seen c.write.new.self) (omega arith) torn

pub returns-in_err-write-clause-any_moment : goal.returns-in_err-write-clause-any_moment
returns-in_err-write-clause-any_moment g c = λ start old had slot.
    let p = c.args.self.now in
    let P = KeepsMapped p.geometry (slot_of p.version) p.known.map start old in
    torn_moments g.M.Meta.moment g.M.Meta.left_since g.M.Meta.may_leave g.met.M.Meta.only_now _ _ _ _ P P had c.write.ensures.crash c.write.ensures.time (λ d is. is)
    (map_step p.geometry p.version p.known.map start old slot c.map_at-at.result (length c.spell_map.result) c.map_at-at.ensures (ap length c.spell_map.ensures ∙ spelled_long c.args.sides.now))

pub loop-k-init : goal.loop-k-init
loop-k-init g c =
    let p = c.args.self.now in
    let seen = g.M.Meta.seen in
    let many = spelled_long c.args.sides.now in
    let long = ap length c.spell_map.ensures ∙ many in
    let torn = subst (λ (a : ℕ). Torn a 16 (seen p.meta) (seen c.write.new.self)) c.map_at-at.ensures (subst (λ (n : ℕ). Torn c.map_at-at.result n (seen p.meta) (seen c.write.new.self)) long c.write.ensures.others) in
    let holds = subst (λ (l : List ℕ). Holds (seen p.meta) (place_of_map (1 - slot_of p.version)) l (seen c.write.new.self)) c.spell_map.ensures
    (subst (λ (a : ℕ). Holds (seen p.meta) a c.spell_map.result (seen c.write.new.self)) c.map_at-at.ensures c.in_ok-write.ensures.written) in
    record {
      put = put_first p.geometry (slot_of p.version) (known_sides p.known.map) c.args.sides.now c.args.body.now (seen p.meta) (omega arith) (seen c.write.new.self) c.requires.plan c.requires.area.long many torn holds;
      moment = λ start old had slot.
          let P = KeepsMapped p.geometry (slot_of p.version) p.known.map start old in
          torn_moments g.M.Meta.moment g.M.Meta.left_since g.M.Meta.may_leave g.met.M.Meta.only_now _ _ _ _ P P had c.write.ensures.crash c.write.ensures.time (λ d is. is)
          (map_step p.geometry p.version p.known.map start old slot c.map_at-at.result (length c.spell_map.result) c.map_at-at.ensures long);
      rest = refl;
      failed = omega (arith, c.write.ensures.cause.later);
    }

pub returns-in_err-put_part-clause-any_moment : goal.returns-in_err-put_part-clause-any_moment
returns-in_err-put_part-clause-any_moment g c =
    keep_more g.M.Meta.moment g.M.Meta.left_since g.M.Meta.may_leave g.met.M.Meta.counts_now c.args.self.now c.loop-k.self c.put_part.new.self.meta c.loop-k.invariant.rest c.loop-k.invariant.moment c.put_part.ensures.any_moment

pub loop-k-preserved : goal.loop-k-preserved
loop-k-preserved g c =
    let p = c.args.self.now in
    let seen = g.M.Meta.seen in
    let inv = c.loop-k.invariant in
    let IsPutBy : Packs g.row.M.Denot → ℕ → List ℕ → Type 0 = λ q n area. IsPut q.geometry (slot_of q.version) (known_sides q.known.map) c.args.sides.now c.args.body.now n (seen p.meta) area in
    let more = subst (λ (q : Packs g.row.M.Denot). IsPutBy q c.loop-k.k (seen c.loop-k.self.meta) → IsPutBy q (suc c.loop-k.k) (seen c.put_part.new.self.meta)) inv.rest (c.in_ok-put_part.ensures.put (seen p.meta)) in
    record {
      put = subst (λ (n : ℕ). IsPutBy p n (seen c.put_part.new.self.meta)) (sym (add-one c.loop-k.k)) (more inv.put);
      moment = keep_more g.M.Meta.moment g.M.Meta.left_since g.M.Meta.may_leave g.met.M.Meta.counts_now p c.loop-k.self c.put_part.new.self.meta inv.rest inv.moment c.put_part.ensures.any_moment;
      rest = c.put_part.ensures.rest ∙ ap (λ (q : Packs g.row.M.Denot). record q { meta = c.put_part.new.self.meta }) inv.rest;
      failed = omega (arith, inv.failed, c.put_part.ensures.cause.later);
    }
