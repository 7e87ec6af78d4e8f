-- The words' version advances only once the pack is written, so the two stay the same; where the device failed, the
-- area is between two packs of which one counts.
use Rattle.std.proofs.Common.{◌≡◌, ℕ, List, [], ◌∷◌, ◌+◌, ◌<◌, ◌^◌, true, false, length, ap, sym, subst, ◌∙◌, arith}
use Rattle.std.specs.Prelude.{Vec}
use Rattle.std.specs.declared.alloc.Global.{Global}
use Rattle.geometry.specs.declared.geometry.Geometry.{Geometry}
use Rattle.device.specs.Disk.{Leaves}
use Rattle.image.specs.Image.{Image}
use Rattle.image.specs.Pack.{body_bytes, pack_body}
use Rattle.packs_journal.specs.Pages.{ChangesIn}
use Rattle.packs_journal.specs.Staging.{body_page}
use Rattle.image.specs.Rules.{IsInRange, IsLawful}
use Rattle.checkpoint_image.specs.View.{taken_view}
use Rattle.checkpoint.specs.Holding.{AreWhole, counting_body}
use Rattle.pack_tables.specs.Holding.{HoldsTables}
use Rattle.checkpoint.proofs.Counting.{between_counts, whole_counts}
use Rattle.checkpoint.proofs.Versions.{version_taken}
use Rattle.checkpoint.specs.Standing.{HasVolume}
use Rattle.pack_tables.proofs.Ranging.{has_spelling}
use Rattle.pack_tables.proofs.SuperLemmas.{super_stays}
use Rattle.checkpoint.proofs.cell.PacksCell.store.Given as given
use Rattle.checkpoint.proofs.cell.PacksCell.store.Goals as goal

-- a lawful image has each number in its range
in_range : (geometry : Geometry) (image : Image) → IsLawful geometry image → IsInRange geometry image
in_range geometry image lawful = lawful 1 (omega arith) (omega arith)

pub write-requires-clause-range : goal.write-requires-clause-range
write-requires-clause-range g c =
    subst (λ (x : Geometry). IsInRange x (taken_view c.args.taken.recorded.image)) (sym c.args.self.now.numbers) (in_range _ _ c.requires.lawful)

pub write-requires-clause-spelled : goal.write-requires-clause-spelled
write-requires-clause-spelled g c =
    c.requires.spelled ∙ ap (λ (x : Geometry). pack_body x.shape (taken_view c.args.taken.recorded.image)) (sym c.args.self.now.numbers)

pub write-requires-clause-touched : goal.write-requires-clause-touched
write-requires-clause-touched g c =
    let self = c.args.self.now in
    subst (λ (x : Geometry). ChangesIn self.body.body.touched (body_bytes x) (counting_body g.M.Meta.seen self.packs) self.body.body.bytes.items) (sym self.numbers) (self.touched c.requires.sound)

pub settle-requires : goal.settle-requires
settle-requires g c = record { there = subst (λ (bytes : List ℕ). 0 < length bytes) (sym c.requires.spelled) (omega arith) }

-- the packs that were written have the version of the tables
written_version : (g : given.Over) (c : goal.After-self-in-Ok-1 g) → c.write.new.self.area.version ≡ c.args.taken.recorded.image.tables.version
written_version g c =
    let stored = c.in-Ok.stored in
    let done = c.in-Ok.ensures in
    let same : (taken_view stored.taken.image).version ≡ c.args.taken.recorded.image.tables.version = ap (λ t. t.image.tables.version) done.taken in
    version_taken g.M.Meta.seen stored.geometry.shape (taken_view stored.taken.image) c.write.new.self.area stored.pack.shown.items c.args.taken.recorded.image.tables.version (omega arith) same done.whole.settled.version done.area stored.written

pub invariant_of-self-in-Ok : goal.invariant_of-self-in-Ok
invariant_of-self-in-Ok g c =
    let old = c.args.self.now in
    let new = c.write.new.self in
    let stored = c.in-Ok.stored in
    let done = c.in-Ok.ensures in
    let same : (taken_view stored.taken.image).version ≡ c.args.taken.recorded.image.tables.version = ap (λ t. t.image.tables.version) done.taken in
    let version = version_taken g.M.Meta.seen stored.geometry.shape (taken_view stored.taken.image) new.area stored.pack.shown.items c.args.taken.recorded.image.tables.version (omega arith) same done.whole.settled.version done.area stored.written in
    record {
      size = done.same.long ∙ old.size;
      numbers = done.geometry ∙ old.numbers;
      of_words = c.advance.ensures.0 ∙ old.of_words;
      whole = λ sound. done.whole;
      front = super_stays g.V.Numbers.GeometryName.geometry _ _ old.front done.same.long done.same.front;
      counts = whole_counts g.M.Meta.seen g.M.Meta.may_leave g.V.Numbers.GeometryName.geometry new (taken_view c.args.taken.recorded.image) done.whole
          (super_stays g.V.Numbers.GeometryName.geometry _ _ old.front done.same.long done.same.front) c.requires.lawful
          (subst (λ (x : Geometry). Leaves g.M.Meta.may_leave new.area.meta (HoldsTables x (taken_view c.args.taken.recorded.image))) old.numbers done.held);
      complete = λ sound. c.advance.ensures.1 ∙ (ap (λ n. n + 1) (old.complete sound) ∙ sym (version ∙ c.requires.next));
      slips = old.slips;
      room = old.room;
      of_rows = c.settle.ensures.numbers.1 ∙ old.of_rows;
      of_numbers = c.settle.ensures.numbers.0 ∙ old.of_numbers;
      touched = λ _ k below out.
          let page = body_page (body_bytes g.V.Numbers.GeometryName.geometry) k in
          ap (λ (bytes : Vec ℕ Global). page bytes.items) c.settle.ensures.bytes ∙ sym (ap page done.body);
    }

pub invariant_of-self-in-Err-BadGeometry : goal.invariant_of-self-in-Err-BadGeometry
invariant_of-self-in-Err-BadGeometry g c =
    let old = c.args.self.now in
    let done = c.in-Err-BadGeometry.ensures in
    let same : c.write.new.self ≡ old.packs = done.unchanged c.in-Err-BadGeometry.field-0-is in
    record {
      size = done.same.long ∙ old.size;
      numbers = done.geometry ∙ old.numbers;
      of_words = old.of_words;
      whole = λ sound. subst (λ p. AreWhole g.M.Meta.seen g.M.Meta.may_leave p) (sym same) (old.whole sound);
      front = super_stays g.V.Numbers.GeometryName.geometry _ _ old.front done.same.long done.same.front;
      counts = subst (λ p. Leaves g.M.Meta.may_leave p.area.meta (HasVolume g.V.Numbers.GeometryName.geometry)) (sym same) old.counts;
      complete = λ sound. old.complete sound ∙ ap (λ p. p.area.version) (sym same);
      slips = old.slips;
      room = old.room;
      of_rows = old.of_rows;
      of_numbers = old.of_numbers;
      touched = λ sound.
          subst (λ p. ChangesIn old.body.body.touched (body_bytes g.V.Numbers.GeometryName.geometry) (counting_body g.M.Meta.seen p) old.body.body.bytes.items) (sym same) (old.touched sound);
    }

pub invariant_of-self-in-Err : goal.invariant_of-self-in-Err
invariant_of-self-in-Err g c =
    let old = c.args.self.now in
    let done = c.in-Err.ensures in
    let meta = g.M.Meta in
    let image = taken_view c.args.taken.recorded.image in
    let numbers = g.V.Numbers.GeometryName.geometry in
    let there = g.met.M.Meta.seen_is_left old.packs.area.meta in
    record {
      size = done.same.long ∙ old.size;
      numbers = done.geometry ∙ old.numbers;
      of_words = old.of_words;
      whole = λ sound. absurd (let no : true ≡ false = sound in cc);
      front = super_stays g.V.Numbers.GeometryName.geometry _ _ old.front done.same.long done.same.front;
      counts = between_counts meta.seen meta.may_leave numbers meta.moment meta.left_since g.met.M.Meta.counts_now old.packs c.write.new.self.area.meta
          (pack_body old.packs.geometry.shape image) image (old.whole c.requires.sound) old.numbers old.front there (old.counts (meta.seen old.packs.area.meta) there)
          c.requires.lawful (has_spelling numbers image image.nodes c.args.taken.recorded.image.small (in_range numbers image c.requires.lawful), ap (λ (x : Geometry). pack_body x.shape image) old.numbers)
          done.any_moment;
      complete = λ sound. absurd (let no : true ≡ false = sound in cc);
      slips = old.slips;
      room = old.room;
      of_rows = old.of_rows;
      of_numbers = old.of_numbers;
      touched = λ sound. absurd (let no : true ≡ false = sound in cc);
    }

pub returns-in-Ok-clause-held : goal.returns-in-Ok-clause-held
returns-in-Ok-clause-held g c =
    subst (λ (x : Geometry). Leaves g.M.Meta.may_leave c.write.new.self.area.meta (HoldsTables x (taken_view c.args.taken.recorded.image))) c.args.self.now.numbers c.in-Ok.ensures.held

pub returns-in-Ok-clause-complete : goal.returns-in-Ok-clause-complete
returns-in-Ok-clause-complete g c =
    c.advance.ensures.1 ∙ (ap (λ n. n + 1) (c.args.self.now.complete c.requires.sound) ∙ sym c.requires.next)

pub returns-in-Ok-clause-written : goal.returns-in-Ok-clause-written
returns-in-Ok-clause-written g c =
    let new = c.write.new.self in
    let done = c.in-Ok.ensures in (
      new.area,
      done.area ∙ ap (λ v. (new.area, v) ∷ []) (written_version g c),
      done.whole.size ∙ (done.geometry ∙ c.args.self.now.numbers),
      subst (λ (x : Geometry). Leaves g.M.Meta.may_leave new.area.meta (HoldsTables x (taken_view c.args.taken.recorded.image))) c.args.self.now.numbers done.held,
    )

pub returns-in-Ok-clause-shown_over : goal.returns-in-Ok-clause-shown_over
returns-in-Ok-clause-shown_over g c =
    let old = c.args.self.now in
    let new = c.write.new.self in
    let done = c.in-Ok.ensures in
    (new.area, done.area ∙ ap (λ v. (new.area, v) ∷ []) (written_version g c), (old.packs, old.whole c.requires.sound, old.numbers, done.any_moment))
