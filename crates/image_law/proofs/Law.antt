-- A format begins with the invariant and each event keeps it; so after any run some pack counts, and its image is one
-- that was written, no older than the completed one, with its blocks.
use Rattle.std.proofs.Common.{◌≡◌, refl, sym, ◌∙◌, ap, subst, ℕ, ◌<◌, List, [], ◌∷◌, arith}
use Rattle.std.specs.Prelude.{Contains}
use Rattle.geometry.specs.declared.geometry.Geometry.{Geometry}
use Rattle.image.specs.Reading.{image_in}
use Rattle.image.specs.Slots.{Slot, version_of}
use Rattle.image.proofs.Picking.{slot_chosen}
use Rattle.image_law.specs.Disk.{SlotsLaw}
use Rattle.image.specs.Files.{files}
use Rattle.image_law.specs.Core.{Written, Core, Left, Event, append, spoil, release, migrate, move, write_body, sync, write_footer, advance, crash, CoreStep, Run, IsFormatted, image_of, current, other, appended}
use Rattle.image_law.specs.Crash.{CrashLaw, IsKept}
use Rattle.image_law.proofs.Invariant.{marks_are, are_marks, Pending, Invariant}
use Rattle.image_law.proofs.Keeping.{none_owned, idle_at, append_keeps, spoil_keeps, release_keeps, move_keeps, write_keeps, sync_keeps, footer_keeps, advance_keeps}
use Rattle.image.proofs.Frame.{same_files}
use Rattle.image_law.proofs.Mounting.{IsFound, mount_keeps, picked_found, some_picked, found_image, left_packs}

step_keeps : (geometry : Geometry) (m : Core) (event : Event) (n : Core) → CoreStep geometry m event n → Invariant geometry m → Invariant geometry n
step_keeps geometry m (append target owner block) n (may, is) inv =
    subst (Invariant geometry) (sym is) (append_keeps geometry m target owner block may inv)
step_keeps geometry m (spoil target block) n (may, is) inv =
    subst (Invariant geometry) (sym is) (spoil_keeps geometry m target block may inv)
step_keeps geometry m (release address) n (phase, owned, is) inv =
    subst (Invariant geometry) (sym is) (release_keeps geometry m address phase inv)
step_keeps geometry m (migrate address target) n (may, owner, owned, is) inv =
    subst (Invariant geometry) (sym is)
    (release_keeps geometry (appended geometry.shape m target owner (m.blocks address)) address (idle_at geometry m target may)
    (append_keeps geometry m target owner (m.blocks address) may inv))
step_keeps geometry m (move segment stage) n (may, is) inv =
    subst (Invariant geometry) (sym is) (move_keeps geometry m segment stage may inv)
step_keeps geometry m (write_body body) n (may, is) inv =
    subst (Invariant geometry) (sym is) (write_keeps geometry m body may inv)
step_keeps geometry m sync n is inv = subst (Invariant geometry) (sym is) (sync_keeps geometry m inv)
step_keeps geometry m write_footer n (phase, is) inv = subst (Invariant geometry) (sym is) (footer_keeps geometry m phase inv)
step_keeps geometry m advance n (phase, is) inv = subst (Invariant geometry) (sym is) (advance_keeps geometry m phase inv)
step_keeps geometry m (crash left) n (may, slot, picked, is) inv =
    subst (Invariant geometry) (sym is) (mount_keeps geometry m left slot may picked inv)

run_keeps : (geometry : Geometry) (m : Core) (events : List Event) (n : Core) → Run geometry m events n → Invariant geometry m → Invariant geometry n
run_keeps geometry m [] n is inv = subst (Invariant geometry) (sym is) inv
run_keeps geometry m (event ∷ events) n (mid, step, rest) inv =
    run_keeps geometry mid events n rest (step_keeps geometry m event mid step inv)

format_begins : (geometry : Geometry) (m : Core) → IsFormatted geometry m → Invariant geometry m
format_begins geometry m is =
    let slot : m.slots (current m.version) ≡ m.slots 1 = ap (λ v. m.slots (current v)) is.version in
    let before : m.slots (other (current m.version)) ≡ m.slots 0 = ap (λ v. m.slots (other (current v))) is.version in
    let version = is.version in
    record {
      now = record { body = (m.slots 1).body; blocks = m.blocks };
      stored = record {
        was_written = subst (λ (ws : List Written). Contains ws (record { body = (m.slots 1).body; blocks = m.blocks })) (sym is.written) (0, omega arith, refl);
        lawful = is.lawful;
        header = is.header ∙ sym version;
        body = ap (λ (s : Slot). s.body) slot;
      };
      positive = omega arith;
      footer = ap (λ (s : Slot). s.footer) slot ∙ is.footer ∙ sym version;
      same = λ a h. refl;
      settled = λ a h. absurd (is.no_mark a (marks_are geometry _ a h));
      safe = λ a h. absurd (is.no_mark a (marks_are geometry _ a h));
      pending = subst (Pending geometry m) (sym is.phase)
          (let e = ap (λ (s : Slot). s.footer) before ∙ is.empty_slot in
          let low : (m.slots (other (current m.version))).footer < m.version = omega arith in low);
      live = λ segment offset h. absurd (none_owned _ (is.no_owner segment offset) h);
    }

version_of_image : (geometry : Geometry) (body : List ℕ) (blocks : ℕ → List ℕ) → (image_in geometry body blocks).version ≡ version_of body
unfolding image_in version_of
version_of_image geometry body blocks = refl

kept : (geometry : Geometry) (m : Core) (left : Left) (slot : ℕ) (w : Written) → IsFound geometry m left slot w → IsKept geometry m left slot w
kept geometry m left slot w found =
    let image = found_image geometry m left slot w found in
    let version : (image_of geometry left slot).version ≡ (left.slots slot).footer
    = version_of_image geometry (left.slots slot).body left.blocks ∙ ap version_of found.stored.body ∙ found.stored.header in
    record {
      was_written = found.stored.was_written;
      lawful = found.stored.lawful;
      image = image;
      version = (let later = found.later in omega arith);
      files = ap (λ i. files geometry i left.blocks) image
          ∙ same_files geometry (image_in geometry w.body w.blocks) left.blocks w.blocks found.stored.lawful
          (λ a marked. found.same a (are_marks geometry w a marked));
    }

pub crash_law_holds : CrashLaw
crash_law_holds geometry start m events left formatted run may =
    let inv = run_keeps geometry start events m run (format_begins geometry start formatted) in
    let picked = some_picked geometry m left inv may in
    let found = picked_found geometry m left picked.0 inv may picked.1 in
    (picked.0, slot_chosen left.slots picked.0 picked.1, found.0, kept geometry m left picked.0 found.0 found.1)

pub slots_law_holds : SlotsLaw
slots_law_holds geometry start m events left formatted run may =
    left_packs geometry m left (run_keeps geometry start events m run (format_begins geometry start formatted)) may
