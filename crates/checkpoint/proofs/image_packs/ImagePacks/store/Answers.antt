-- The body that is written is that of the image's tables.
use Rattle.std.proofs.Common.{◌≡◌, ◌+◌, Bool, true, false, not, List, ℕ, refl, sym, ◌∙◌, ap, subst, length, arith}
use Rattle.geometry.specs.declared.geometry.Geometry.{Geometry}
use Rattle.device.specs.Disk.{LeavesOnly}
use Rattle.device.proofs.Moments.{started}
use Rattle.image.specs.Pack.{pack_body}
use Rattle.image.specs.Rules.{IsInRange}
use Rattle.image.specs.Slots.{version_of}
use Rattle.checkpoint_image.specs.declared.taken_image.TakenImage.{TakenImage}
use Rattle.checkpoint_image.specs.View.{taken_view}
use Rattle.packs.specs.Pack.{IsSettled, Between}
use Rattle.packs.specs.Area.{reading_of}
use Rattle.packs.specs.Parts.{body_bytes}
use Rattle.packs.specs.Device.{KeepsArea}
use Rattle.packs.proofs.Crash.{settled_between}
use Rattle.packs.proofs.Fronts.{kept_weaker}
use Rattle.packs_journal.specs.Pages.{ChangesIn}
use Rattle.pack_tables.specs.Grammar.{SpellsTables}
use Rattle.pack_tables.proofs.Parts.{long_as_a_body}
use Rattle.pack_tables.proofs.Ranging.{has_spelling}
use Rattle.pack_tables.proofs.Bodies.{body_version}
use Rattle.checkpoint.specs.Holding.{counting_body}
use Rattle.checkpoint.proofs.image_packs.ImagePacks.store.Goals as goal

spells : (geometry : Geometry) (image : TakenImage) (body : List ℕ) → IsInRange geometry (taken_view image) → body ≡ pack_body geometry.shape (taken_view image) → SpellsTables geometry body (taken_view image)
spells geometry image body range is = (has_spelling geometry (taken_view image) (taken_view image).nodes image.small range, is)

pub returns-then-ne-clause-any_moment : goal.returns-then-ne-clause-any_moment
returns-then-ne-clause-any_moment g c =
    let packs = c.args.self.now in
    let whole = c.requires.whole in
    let r = reading_of packs.area.geometry in
    let old = counting_body g.M.Meta.seen packs in
    let new = pack_body packs.geometry.shape (taken_view c.args.image.now) in
    let area = g.M.Meta.seen packs.area.meta in
    let begins : version_of new ≡ c.args.image.now.tables.version = body_version packs.geometry.shape (taken_view c.args.image.now) (omega arith) in
    let next : version_of new ≡ version_of old + 1 = omega (arith, begins, whole.settled.version, c.requires.next) in
    started g.M.Meta.moment g.M.Meta.left_since packs.area.meta (KeepsArea area (Between r old new))
    (λ d left. kept_weaker (IsSettled r old) (Between r old new) area d (settled_between r old new d next)
    (whole.settled.left d (g.met.M.Meta.only_now packs.area.meta d left)))

pub write-requires-clause-len : goal.write-requires-clause-len
write-requires-clause-len g c =
    let is = c.as_slice.ensures.value ∙ c.requires.spelled in
    long_as_a_body _ _ _ (spells c.args.self.now.geometry c.args.image.now _ c.requires.range is) ∙ ap body_bytes (sym c.requires.whole.size)

pub write-requires-clause-next : goal.write-requires-clause-next
write-requires-clause-next g c =
    let is = c.as_slice.ensures.value ∙ c.requires.spelled in
    ap version_of is ∙ body_version c.args.self.now.geometry.shape (taken_view c.args.image.now) (omega arith) ∙ c.requires.next

pub write-requires-clause-changes : goal.write-requires-clause-changes
write-requires-clause-changes g c = λ _.
    let self = c.args.self.now in
    subst (λ (bytes : List ℕ). ChangesIn c.args.body.now.touched (body_bytes self.area.geometry) (counting_body g.M.Meta.seen self) bytes) (sym c.as_slice.ensures.value)
    (subst (λ (numbers : Geometry). ChangesIn c.args.body.now.touched (body_bytes numbers) (counting_body g.M.Meta.seen self) c.args.body.now.bytes.items) (sym c.requires.whole.size) c.requires.touched)

pub returns-in-Ok-clause-spelled : goal.returns-in-Ok-clause-spelled
returns-in-Ok-clause-spelled g c =
    let is = c.as_slice.ensures.value ∙ c.requires.spelled in
    spells c.args.self.now.geometry c.args.image.now _ c.requires.range (c.in-Ok.ensures.body ∙ is)

pub returns-in-Ok-clause-any_moment : goal.returns-in-Ok-clause-any_moment
returns-in-Ok-clause-any_moment g c =
    let packs = c.args.self.now in
    let is = c.as_slice.ensures.value ∙ c.requires.spelled in
    subst (λ (body : List ℕ). LeavesOnly g.M.Meta.moment g.M.Meta.left_since packs.area.meta c.write.new.self.meta (KeepsArea (g.M.Meta.seen packs.area.meta) (Between (reading_of packs.area.geometry) (counting_body g.M.Meta.seen packs) body)))
    is c.in-Ok.ensures.any_moment

pub returns-in-Err-clause-any_moment : goal.returns-in-Err-clause-any_moment
returns-in-Err-clause-any_moment g c =
    let packs = c.args.self.now in
    let is = c.as_slice.ensures.value ∙ c.requires.spelled in
    subst (λ (body : List ℕ). LeavesOnly g.M.Meta.moment g.M.Meta.left_since packs.area.meta c.write.new.self.meta (KeepsArea (g.M.Meta.seen packs.area.meta) (Between (reading_of packs.area.geometry) (counting_body g.M.Meta.seen packs) body)))
    is c.in-Err.ensures.any_moment
