-- Slot 0 can't count once its footer is 0; then version 1 is put in slot 1, and its footer makes it count.
use Rattle.std.proofs.Common.{◌≡◌, refl, sym, ◌∙◌, ap, subst, ℕ, ◌+◌, ◌≤◌, List, [], ◌∷◌, length, arith}
use Rattle.device.specs.Disk.{Torn, Holds}
use Rattle.geometry.specs.Area.{meta_bytes}
use Rattle.geometry.specs.declared.geometry.Geometry.{Geometry}
use Rattle.image.specs.Slots.{version_of}
use Rattle.packs.specs.declared.packs.Packs.{Packs}
use Rattle.packs.specs.Pack.{IsSettled}
use Rattle.packs.specs.Area.{footer_by, reading_of}
use Rattle.packs.specs.Parts.{body_bytes}
use Rattle.packs.specs.Device.{IsSameArea, IsKnown, AreSettled}
use Rattle.packs.proofs.First.{first_settled}
use Rattle.packs.proofs.Fronts.{kept_alone}
use Rattle.packs.proofs.Keeping.{torn_area, area_joined}
use Rattle.packs.proofs.Footers.{footer_behind, footer_known}
use Rattle.packs.proofs.packs.Packs.write_first.Goals as goal

-- a footer is written, and then what a read gives is the same
footed : (at n : ℕ) (geometry : Geometry) (slot : ℕ) (a b c : List ℕ) → at ≡ footer_by geometry.packing (body_bytes geometry) slot → Torn at n a b → c ≡ b → IsSameArea a c
footed at n geometry slot a b c is torn same =
    subst (IsSameArea a) (sym same) (torn_area at n a b (omega (arith, footer_behind geometry.packing (body_bytes geometry) slot, is)) torn)

pub returns-in_err-write-clause-same : goal.returns-in_err-write-clause-same
returns-in_err-write-clause-same g c = footed _ _ c.args.self.now.geometry 0 _ _ _ c.footer_at.ensures c.write.ensures.others refl

pub returns-in_err-sync-clause-same : goal.returns-in_err-sync-clause-same
returns-in_err-sync-clause-same g c = footed _ _ c.args.self.now.geometry 0 _ _ _ c.footer_at.ensures c.write.ensures.others c.sync.ensures.quiet.same

pub returns-in_err-known-clause-same : goal.returns-in_err-known-clause-same
returns-in_err-known-clause-same g c =
    area_joined _ _ _ (footed _ _ c.args.self.now.geometry 0 _ _ _ c.footer_at.ensures c.write.ensures.others c.sync.ensures.quiet.same) c.stage_first.ensures.same

pub returns-in_err-write-2-clause-same : goal.returns-in_err-write-2-clause-same
returns-in_err-write-2-clause-same g c =
    area_joined _ _ _ (area_joined _ _ _ (footed _ _ c.args.self.now.geometry 0 _ _ _ c.footer_at.ensures c.write.ensures.others c.sync.ensures.quiet.same) c.stage_first.ensures.same)
    (footed _ _ c.stage_first.new.self.geometry 1 _ _ _ c.footer_at-2.ensures c.write-2.ensures.others refl)

pub returns-in_err-sync-2-clause-same : goal.returns-in_err-sync-2-clause-same
returns-in_err-sync-2-clause-same g c =
    area_joined _ _ _ (area_joined _ _ _ (footed _ _ c.args.self.now.geometry 0 _ _ _ c.footer_at.ensures c.write.ensures.others c.sync.ensures.quiet.same) c.stage_first.ensures.same)
    (footed _ _ c.stage_first.new.self.geometry 1 _ _ _ c.footer_at-2.ensures c.write-2.ensures.others c.sync-2.ensures.quiet.same)

pub returns-clause-same : goal.returns-clause-same
returns-clause-same g c =
    area_joined _ _ _ (area_joined _ _ _ (footed _ _ c.args.self.now.geometry 0 _ _ _ c.footer_at.ensures c.write.ensures.others c.sync.ensures.quiet.same) c.stage_first.ensures.same)
    (footed _ _ c.stage_first.new.self.geometry 1 _ _ _ c.footer_at-2.ensures c.write-2.ensures.others c.sync-2.ensures.quiet.same)

pub returns-clause-settled : goal.returns-clause-settled
returns-clause-settled g c =
    let seen = g.M.Meta.seen in
    let p = c.args.self.now in
    let now = c.stage_first.new.self in
    let G = now.geometry in
    let old : p.geometry ≡ G = sym (ap (λ (q : Packs g.row.M.Denot). q.geometry) c.stage_first.ensures.rest) in
    let a = seen p.meta in
    let k = seen now.meta in
    let w = seen c.write-2.new.self in
    let body = c.args.body.now in
    let a_long = c.requires.area ∙ ap (λ (x : Geometry). meta_bytes x) old in
    let zero = subst (λ (x : Geometry). c.footer_at.result ≡ footer_by x.packing (body_bytes x) 0) old c.footer_at.ensures in
    let cleared = subst (λ (n : ℕ). Holds a n (0 ∷ 0 ∷ 0 ∷ 0 ∷ []) (seen c.write.new.self)) zero c.in_ok-write.ensures.written in
    let k_long = c.stage_first.ensures.same.long ∙ ap length c.sync.ensures.quiet.same ∙ c.write.ensures.others.long ∙ a_long in
    let footer : (reading_of G).footer 0 k ≡ (reading_of G).footer 0 (seen c.write.new.self)
    = subst (λ (x : Geometry). (reading_of G).footer 0 k ≡ (reading_of x).footer 0 (seen c.sync.new.self)) old (c.stage_first.ensures.footers 0 (omega arith)) ∙ ap ((reading_of G).footer 0) c.sync.ensures.quiet.same in
    let torn = subst (λ (n : ℕ). Torn n 4 k w) c.footer_at-2.ensures c.write-2.ensures.others in
    let held = subst (λ (n : ℕ). Holds k n (1 ∷ 0 ∷ 0 ∷ 0 ∷ []) w) c.footer_at-2.ensures c.in_ok-write-2.ensures.written in
    let settled = first_settled G body a (seen c.write.new.self) k w c.requires.first a_long cleared k_long footer c.in_ok-known.ensures.staged torn held in
    let known = footer_known G 1 1 c.in_ok-known.known k w (omega arith) (omega arith) torn c.in_ok-known.ensures.known in
    let only = c.in_ok-sync-2.ensures.durable in
    record {
      area = ap length c.sync-2.ensures.quiet.same ∙ c.write-2.ensures.others.long ∙ k_long;
      version = sym c.requires.first;
      left = λ d now. kept_alone (IsSettled (reading_of G) body) (seen c.sync-2.new.self) d (only d now ∙ sym c.sync-2.ensures.quiet.same) (subst (IsSettled (reading_of G) body) (sym (only d now)) settled);
      known = λ d now. subst (IsKnown G 1 c.in_ok-known.known) (sym (only d now)) known;
    }
