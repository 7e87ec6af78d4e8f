-- What was read is the body that counts, so the tables that it spells are those of the packs; and who only reads leaves them whole.
use Rattle.std.proofs.Common.{◌≡◌, ℕ, List, inl, inr, ⊎_elim, refl, sym, subst, ◌∙◌, ap, arith}
use Rattle.std.proofs.lemmas.Grind.{common_steps}
use Rattle.std.proofs.lemmas.Result.{IfErr-weaker}
use Rattle.std.specs.Prelude.{IfOk}
use Rattle.device.specs.Disk.{IsQuiet}
use Rattle.geometry.specs.declared.error.Error.TheVariants.{BadImage}
use Rattle.image.specs.View.{image_view}
use Rattle.image.specs.Slots.{version_of, slot_of}
use Rattle.packs.specs.Area.{reading_of}
use Rattle.packs.specs.Device.{AreSettled, KeepsArea, IsArea}
use Rattle.packs.specs.Pack.{IsSettled}
use Rattle.packs.specs.Parts.{body_bytes}
use Rattle.packs.specs.declared.packs.Packs.{Packs}
use Rattle.pack_tables.proofs.Parts.{long_as_a_body}
use Rattle.pack_tables.specs.Grammar.{SpellsTables, SpellsNoTables}
use Rattle.checkpoint.specs.Holding.{AreWhole, counting_body}
use Rattle.checkpoint.specs.declared.image_packs.ImagePacks.{ImagePacks}
use Rattle.checkpoint.proofs.image_packs.ImagePacks.read.Goals as goal
use Rattle.checkpoint.proofs.image_packs.ImagePacks.read.Given as given

-- packs that only read stay whole
read_whole : {D : Type 0} (seen : D → List ℕ) (may_leave : D → List ℕ → Type 0) (moment : D → ℕ) (left_since : D → ℕ → List ℕ → Type 0) (packs : ImagePacks D) (area : Packs D)
    → AreWhole seen may_leave packs → area ≡ record packs.area { meta = area.meta } → IsQuiet seen may_leave moment left_since packs.area.meta area.meta
    → AreWhole seen may_leave (record { area = area; geometry = packs.geometry })
read_whole {D} seen may_leave moment left_since packs area whole rest quiet =
    let r = reading_of packs.area.geometry in
    let slot = slot_of packs.area.version in
    let s = whole.settled in
    let read : Packs D = record packs.area { meta = area.meta } in
    let settled : AreSettled r seen may_leave read (counting_body seen (record { area = read; geometry = packs.geometry })) = record {
      area = subst (IsArea packs.area.geometry) (sym quiet.same) s.area;
      version = s.version ∙ ap (λ (l : List ℕ). version_of (r.body slot l)) (sym quiet.same);
      left = λ c left. subst (λ (l : List ℕ). KeepsArea l (IsSettled r (r.body slot l)) c) (sym quiet.same) (s.left c (quiet.fewer c left));
      known = λ c left. s.known c (quiet.fewer c left);
    } in
    subst (λ (p : Packs D). AreWhole seen may_leave (record { area = p; geometry = packs.geometry })) (sym rest) (record { size = whole.size; settled = settled })

pub returns-in-Ok-false-clause-errors : goal.returns-in-Ok-false-clause-errors
returns-in-Ok-false-clause-errors g c =
    let packs = c.args.self.now in
    inr (inr (
      refl,
      λ image spelled.
          c.in-Ok-false.ensures.none c.in-Ok-false.field-0-test
          (long_as_a_body packs.geometry (counting_body g.M.Meta.seen packs) image spelled ∙ ap body_bytes (sym c.requires.size)),
    ))

-- what was read is the body that counts
read_body : (g : given.Over) (c : goal.After-drop-body g) → c.as_slice.result.now ≡ counting_body g.M.Meta.seen c.args.self.now
read_body g c = grind (arith, common_steps)

pub returns-in-Ok-true-clause-tables : goal.returns-in-Ok-true-clause-tables
returns-in-Ok-true-clause-tables g c =
    subst (λ (body : List ℕ). IfOk c.decode.result (λ image. SpellsTables c.args.self.now.geometry body (image_view image))) (read_body g c) c.decode.ensures.tables

pub returns-in-Ok-true-clause-errors : goal.returns-in-Ok-true-clause-errors
returns-in-Ok-true-clause-errors g c =
    IfErr-weaker c.decode.result _ _
    (λ e known. ⊎_elim inl (λ bad. inr (inr (subst (λ (body : List ℕ). (e ≡ BadImage 1) × SpellsNoTables c.args.self.now.geometry body) (read_body g c) bad))) known)
    c.decode.ensures.refused

pub returns-in-Ok-true-clause-whole : goal.returns-in-Ok-true-clause-whole
returns-in-Ok-true-clause-whole g c = read_whole g.M.Meta.seen g.M.Meta.may_leave g.M.Meta.moment g.M.Meta.left_since c.args.self.now c.read.new.self c.requires c.read.ensures.rest c.read.ensures.quiet

pub returns-in-Ok-false-clause-whole : goal.returns-in-Ok-false-clause-whole
returns-in-Ok-false-clause-whole g c = read_whole g.M.Meta.seen g.M.Meta.may_leave g.M.Meta.moment g.M.Meta.left_since c.args.self.now c.read.new.self c.requires c.read.ensures.rest c.read.ensures.quiet

pub returns-clause-whole : goal.returns-clause-whole
returns-clause-whole g c = read_whole g.M.Meta.seen g.M.Meta.may_leave g.M.Meta.moment g.M.Meta.left_since c.args.self.now c.read.new.self c.requires c.read.ensures.rest c.read.ensures.quiet
