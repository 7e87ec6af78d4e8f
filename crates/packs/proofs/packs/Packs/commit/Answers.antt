-- The footer of the slot that doesn't count is all that is written: before the write and torn the area lies between the
-- two packs, and once it is whole and synced the new one is settled.
use Rattle.std.proofs.Common.{◌≡◌, ◌+◌, ◌-◌, Bool, true, List, Some, ℕ, length, sym, ◌∙◌, ap, subst, arith}
use Rattle.device.specs.Disk.{Torn}
use Rattle.device.proofs.Moments.{torn_moments}
use Rattle.image.specs.Slots.{version_of, slot_of}
use Rattle.packs.specs.Pack.{IsSettled, IsStaged, Between}
use Rattle.geometry.specs.declared.geometry.Geometry.{Geometry}
use Rattle.packs.specs.Parts.{body_bytes}
use Rattle.packs.specs.Area.{footer_by, reading_of}
use Rattle.packs.specs.Device.{IsSameArea, KeepsArea, AreStaged, IsKnown, body_of, staged_in}
use Rattle.packs.specs.declared.packs.Known.{Known}
use Rattle.packs.specs.declared.packs.Packs.{Packs}
use Rattle.packs.proofs.Crash.{settled_between}
use Rattle.packs.proofs.Footer.{footer_reads, footer_long}
use Rattle.packs.proofs.Fronts.{kept_torn, kept_weaker, kept_alone, written_moments}
use Rattle.packs.proofs.Footers.{footer_behind, footer_known}
use Rattle.packs.proofs.Keeping.{torn_area}
use Rattle.packs.proofs.Steps.{footer_between, footer_settled, area_stays}
use Rattle.packs.proofs.packs.Packs.commit.Goals as goal

-- the footer is written, whole or torn: the area lies between the packs, as it does before
module _ {D : Type 0} (seen : D → List ℕ) (may_leave : D → List ℕ → Type 0) (packs : Packs D) (version : ℕ) (next : Known)
    (staged : AreStaged (reading_of packs.geometry) seen may_leave packs (body_of (reading_of packs.geometry) seen packs) (staged_in (reading_of packs.geometry) seen packs) next)
    (is_version : version ≡ version_of (staged_in (reading_of packs.geometry) seen packs)) (is_next : version ≡ packs.version + 1) where
  abbrev old : List ℕ
  old = body_of (reading_of packs.geometry) seen packs

  abbrev new : List ℕ
  new = staged_in (reading_of packs.geometry) seen packs

  follows : version_of new ≡ version_of old + 1
  follows = omega (arith, staged.version, is_version, is_next)

  staged_between : (d : List ℕ) → KeepsArea (seen packs.meta) (IsStaged (reading_of packs.geometry) old new) d → KeepsArea (seen packs.meta) (Between (reading_of packs.geometry) old new) d
  staged_between d =
      kept_weaker (IsStaged (reading_of packs.geometry) old new) (Between (reading_of packs.geometry) old new) (seen packs.meta) d
      (λ s. settled_between (reading_of packs.geometry) old new d follows s.settled)

  torn_between : (at n : ℕ) → at ≡ footer_by packs.geometry.packing (body_bytes packs.geometry) (1 - slot_of packs.version) → n ≡ 4 → (d e : List ℕ)
      → KeepsArea (seen packs.meta) (IsStaged (reading_of packs.geometry) old new) d → Torn at n d e → KeepsArea (seen packs.meta) (Between (reading_of packs.geometry) old new) e
  torn_between at n at_is n_is d e =
      kept_torn (IsStaged (reading_of packs.geometry) old new) (Between (reading_of packs.geometry) old new) (seen packs.meta) d e at n
      (omega (arith, footer_behind packs.geometry.packing (body_bytes packs.geometry) (1 - slot_of packs.version), at_is)) (footer_between packs.geometry packs.version at n old new d e at_is n_is staged.version follows)

pub returns-in_err-write-clause-any_moment : goal.returns-in_err-write-clause-any_moment
returns-in_err-write-clause-any_moment g c =
    torn_moments g.M.Meta.moment g.M.Meta.left_since g.M.Meta.may_leave g.met.M.Meta.only_now _ _ _ _ _ _ c.requires.staged.left c.write.ensures.crash c.write.ensures.time
    (staged_between g.M.Meta.seen g.M.Meta.may_leave c.args.self.now c.args.version c.args.known c.requires.staged c.requires.version c.requires.next)
    (torn_between g.M.Meta.seen g.M.Meta.may_leave c.args.self.now c.args.version c.args.known c.requires.staged c.requires.version c.requires.next c.footer_at-at.result (length c.write_u32.new.buf) c.footer_at-at.ensures (footer_long _ _ c.write_u32.ensures))

pub returns-in_err-write-clause-same : goal.returns-in_err-write-clause-same
returns-in_err-write-clause-same g c =
    torn_area _ _ _ _ (omega (arith, footer_behind c.args.self.now.geometry.packing (body_bytes c.args.self.now.geometry) (1 - slot_of c.args.self.now.version), c.footer_at-at.ensures)) c.write.ensures.others

pub returns-in_err-sync-clause-any_moment : goal.returns-in_err-sync-clause-any_moment
returns-in_err-sync-clause-any_moment g c =
    written_moments g.M.Meta.moment g.M.Meta.left_since g.M.Meta.seen g.M.Meta.may_leave g.met.M.Meta.only_now _ _ _ _ _ _ _ c.requires.staged.left c.write.ensures.crash c.write.ensures.time
    (staged_between g.M.Meta.seen g.M.Meta.may_leave c.args.self.now c.args.version c.args.known c.requires.staged c.requires.version c.requires.next)
    (torn_between g.M.Meta.seen g.M.Meta.may_leave c.args.self.now c.args.version c.args.known c.requires.staged c.requires.version c.requires.next c.footer_at-at.result (length c.write_u32.new.buf) c.footer_at-at.ensures (footer_long _ _ c.write_u32.ensures))
    c.sync.ensures.quiet

pub returns-clause-any_moment : goal.returns-clause-any_moment
returns-clause-any_moment g c =
    written_moments g.M.Meta.moment g.M.Meta.left_since g.M.Meta.seen g.M.Meta.may_leave g.met.M.Meta.only_now _ _ _ _ _ _ _ c.requires.staged.left c.write.ensures.crash c.write.ensures.time
    (staged_between g.M.Meta.seen g.M.Meta.may_leave c.args.self.now c.args.version c.args.known c.requires.staged c.requires.version c.requires.next)
    (torn_between g.M.Meta.seen g.M.Meta.may_leave c.args.self.now c.args.version c.args.known c.requires.staged c.requires.version c.requires.next c.footer_at-at.result (length c.write_u32.new.buf) c.footer_at-at.ensures (footer_long _ _ c.write_u32.ensures))
    c.sync.ensures.quiet

pub returns-in_err-sync-clause-same : goal.returns-in_err-sync-clause-same
returns-in_err-sync-clause-same g c =
    subst (λ (l : List ℕ). IsSameArea (g.M.Meta.seen c.args.self.now.meta) l) (sym c.sync.ensures.quiet.same) (torn_area _ _ _ _ (omega (arith, footer_behind c.args.self.now.geometry.packing (body_bytes c.args.self.now.geometry) (1 - slot_of c.args.self.now.version), c.footer_at-at.ensures)) c.write.ensures.others)

pub returns-clause-same : goal.returns-clause-same
returns-clause-same g c =
    subst (λ (l : List ℕ). IsSameArea (g.M.Meta.seen c.args.self.now.meta) l) (sym c.sync.ensures.quiet.same) (torn_area _ _ _ _ (omega (arith, footer_behind c.args.self.now.geometry.packing (body_bytes c.args.self.now.geometry) (1 - slot_of c.args.self.now.version), c.footer_at-at.ensures)) c.write.ensures.others)

pub returns-clause-settled : goal.returns-clause-settled
returns-clause-settled g c =
    let s = c.requires.staged in
    let geometry = c.args.self.now.geometry in
    let seen = g.M.Meta.seen in
    let start = c.args.self.now.meta in
    let slot = slot_of c.args.self.now.version in
    let old = body_of (reading_of geometry) seen c.args.self.now in
    let new = staged_in (reading_of geometry) seen c.args.self.now in
    let before = (s.left (seen start) (g.met.M.Meta.seen_is_left start)).packs in
    let at = c.footer_at-at.ensures in
    let settled = footer_settled geometry c.args.self.now.version _ c.args.version _ old new _ _ at (footer_long _ _ c.write_u32.ensures) s.version s.area
    (footer_reads _ _ c.write_u32.ensures (omega arith)) c.requires.version c.requires.next before c.write.ensures.others c.in_ok-write.ensures.written in
    let torn : Torn (footer_by geometry.packing (body_bytes geometry) (1 - slot)) 4 (seen start) (seen c.write.new.self)
    = subst (λ (a : ℕ). Torn a 4 (seen start) (seen c.write.new.self)) at (subst (λ (n : ℕ). Torn c.footer_at-at.result n (seen start) (seen c.write.new.self)) (footer_long _ _ c.write_u32.ensures) c.write.ensures.others) in
    let known = footer_known geometry (1 - slot) (1 - slot) c.args.known (seen start) (seen c.write.new.self) (omega arith) (omega arith) torn (s.known (seen start) (g.met.M.Meta.seen_is_left start)) in
    let own = subst (λ (k : ℕ). IsKnown geometry k c.args.known (seen c.write.new.self)) (next_is c.args.self.now.version c.args.version c.requires.next) known in
    let only : (d : List ℕ) → g.M.Meta.may_leave c.sync.new.self d → d ≡ seen c.write.new.self = λ d now. c.in_ok-sync.ensures.durable d now in
    record {
      area = area_stays geometry _ _ s.area (ap length c.sync.ensures.quiet.same ∙ c.write.ensures.others.long);
      version = c.requires.version;
      left = λ d now. kept_alone (IsSettled (reading_of geometry) new) (seen c.sync.new.self) d (only d now ∙ sym c.sync.ensures.quiet.same)
          (subst (IsSettled (reading_of geometry) new) (sym (only d now)) settled);
      known = λ d now. subst (IsKnown geometry (slot_of c.args.version) c.args.known) (sym (only d now)) own;
    }
  where
    next_is : (v n : ℕ) → n ≡ v + 1 → 1 - slot_of v ≡ slot_of n
    next_is v n is = omega (arith, is)
