-- A footer below the picked version needs nothing, as the area is settled then; any other is cleared in the slot that
-- wasn't picked: torn it may hold any number, and synced it is 0 and below.
use Rattle.std.proofs.Common.{◌≡◌, inl, inr, ℕ, ◌-◌, ◌≤◌, List, refl, sym, ◌∙◌, ap, subst, arith}
use Rattle.device.specs.Disk.{Torn}
use Rattle.device.proofs.Moments.{torn_moments}
use Rattle.packs.specs.Pack.{IsSettled, MayClear}
use Rattle.geometry.specs.declared.geometry.Geometry.{Geometry}
use Rattle.packs.specs.Parts.{body_bytes}
use Rattle.packs.specs.Area.{footer_by, reading_of}
use Rattle.packs.specs.Device.{IsSameArea, KeepsArea, IsFound}
use Rattle.packs.specs.declared.choice.Found.{Found}
use Rattle.packs.proofs.Fronts.{kept_alone, written_moments}
use Rattle.packs.proofs.Picking.{picked_settled}
use Rattle.packs.proofs.Keeping.{torn_area}
use Rattle.packs.proofs.Footers.{torn_footer, footer_behind}
use Rattle.packs.proofs.Steps.{footer_zero}
use Rattle.packs.proofs.open.lower_other.Goals as goal

-- what a torn write of the other footer leaves, where that footer is not below the picked version
torn_other : (g : Geometry) (found : Found) (area : List ℕ) (at : ℕ) → IsFound (reading_of g) area found → found.version ≤ found.other → at ≡ footer_by g.packing (body_bytes g) (1 - found.slot)
    → (d e : List ℕ) → d ≡ area → Torn at 4 d e → KeepsArea area (MayClear (reading_of g) found.slot area) e
torn_other g found area at f high at_is d e is torn =
    let here : Torn at 4 area e = subst (λ (l : List ℕ). Torn at 4 l e) is torn in
    record {
      packs = inr (
        omega (arith, f.version, f.other, high),
        torn_footer g.packing g found.slot area e f.slot.within (subst (λ (a : ℕ). Torn a 4 area e) at_is here),
      );
      same = torn_area at 4 area e (omega (arith, footer_behind g.packing (body_bytes g) (1 - found.slot), at_is)) here;
    }

-- before the write the area is as it was
still : (g : Geometry) (found : Found) (area d : List ℕ) → d ≡ area → KeepsArea area (MayClear (reading_of g) found.slot area) d
still g found area d is = kept_alone (MayClear (reading_of g) found.slot area) area d is (inl is)

pub returns-in_err-write-clause-any_moment : goal.returns-in_err-write-clause-any_moment
returns-in_err-write-clause-any_moment g c =
    let area = g.M.Meta.seen c.args.meta.now in
    torn_moments g.M.Meta.moment g.M.Meta.left_since g.M.Meta.may_leave g.met.M.Meta.only_now _ _ _ _ (λ d. d ≡ area) (KeepsArea area (MayClear (reading_of c.args.geometry.now) c.args.found.slot area))
    c.requires.durable c.write.ensures.crash c.write.ensures.time (still c.args.geometry.now c.args.found area) (torn_other c.args.geometry.now c.args.found area c.footer_at.result c.requires.found (omega (arith, c.if-found.false)) c.footer_at.ensures)

pub returns-in_err-write-clause-same : goal.returns-in_err-write-clause-same
returns-in_err-write-clause-same g c =
    torn_area _ _ _ _ (omega (arith, footer_behind c.args.geometry.now.packing (body_bytes c.args.geometry.now) (1 - c.args.found.slot), c.footer_at.ensures)) c.write.ensures.others

pub returns-in_err-sync-clause-any_moment : goal.returns-in_err-sync-clause-any_moment
returns-in_err-sync-clause-any_moment g c =
    let area = g.M.Meta.seen c.args.meta.now in
    written_moments g.M.Meta.moment g.M.Meta.left_since g.M.Meta.seen g.M.Meta.may_leave g.met.M.Meta.only_now _ _ _ _ _ (λ d. d ≡ area) (KeepsArea area (MayClear (reading_of c.args.geometry.now) c.args.found.slot area))
    c.requires.durable c.write.ensures.crash c.write.ensures.time (still c.args.geometry.now c.args.found area) (torn_other c.args.geometry.now c.args.found area c.footer_at.result c.requires.found (omega (arith, c.if-found.false)) c.footer_at.ensures) c.sync.ensures.quiet

pub returns-clause-any_moment : goal.returns-clause-any_moment
returns-clause-any_moment g c =
    let area = g.M.Meta.seen c.args.meta.now in
    written_moments g.M.Meta.moment g.M.Meta.left_since g.M.Meta.seen g.M.Meta.may_leave g.met.M.Meta.only_now _ _ _ _ _ (λ d. d ≡ area) (KeepsArea area (MayClear (reading_of c.args.geometry.now) c.args.found.slot area))
    c.requires.durable c.write.ensures.crash c.write.ensures.time (still c.args.geometry.now c.args.found area) (torn_other c.args.geometry.now c.args.found area c.footer_at.result c.requires.found (omega (arith, c.if-found.false)) c.footer_at.ensures) c.sync.ensures.quiet

pub returns-in_err-sync-clause-same : goal.returns-in_err-sync-clause-same
returns-in_err-sync-clause-same g c =
    subst (λ (l : List ℕ). IsSameArea (g.M.Meta.seen c.args.meta.now) l) (sym c.sync.ensures.quiet.same) (torn_area _ _ _ _ (omega (arith, footer_behind c.args.geometry.now.packing (body_bytes c.args.geometry.now) (1 - c.args.found.slot), c.footer_at.ensures)) c.write.ensures.others)

pub returns-clause-same : goal.returns-clause-same
returns-clause-same g c =
    subst (λ (l : List ℕ). IsSameArea (g.M.Meta.seen c.args.meta.now) l) (sym c.sync.ensures.quiet.same) (torn_area _ _ _ _ (omega (arith, footer_behind c.args.geometry.now.packing (body_bytes c.args.geometry.now) (1 - c.args.found.slot), c.footer_at.ensures)) c.write.ensures.others)

pub returns-clause-lowered : goal.returns-clause-lowered
returns-clause-lowered g c =
    let area = g.M.Meta.seen c.args.meta.now in
    let f = c.requires.found in
    let at = c.footer_at.ensures in
    let torn = torn_footer c.args.geometry.now.packing c.args.geometry.now c.args.found.slot area (g.M.Meta.seen c.write.new.self) f.slot.within (subst (λ (a : ℕ). Torn a 4 area (g.M.Meta.seen c.write.new.self)) at c.write.ensures.others) in
    let zero = footer_zero c.args.geometry.now c.args.found.slot _ _ _ f.slot.within at c.requires.area c.in_ok-write.ensures.written in
    let settled = picked_settled (reading_of c.args.geometry.now) area c.args.found.slot (g.M.Meta.seen c.write.new.self) f.slot torn (let positive = f.slot.sound.positive in omega (arith, zero, positive)) in
    subst (IsSettled (reading_of c.args.geometry.now) ((reading_of c.args.geometry.now).body c.args.found.slot area)) (sym c.sync.ensures.quiet.same) settled

pub returns-then-found-clause-lowered : goal.returns-then-found-clause-lowered
returns-then-found-clause-lowered g c =
    let area = g.M.Meta.seen c.args.meta.now in
    let f = c.requires.found in
    picked_settled (reading_of c.args.geometry.now) area c.args.found.slot area f.slot (record { body = refl; footer = refl; other = refl }) (omega (arith, f.version, f.other, c.if-found.true))
