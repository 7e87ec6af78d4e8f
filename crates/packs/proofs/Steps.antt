-- A footer of four bytes is written in the slot that doesn't count: torn it leaves the old pack or the staged one
-- counting, and whole it says the new version, so the new one is settled.
use Rattle.std.proofs.Common.{◌≡◌, ℕ, zero, suc, ◌+◌, ◌-◌, ◌≤◌, List, [], ◌∷◌, length, ◌∙◌, ap, subst, arith}
use Rattle.byteorder.specs.Endian.{little_number}
use Rattle.device.specs.Disk.{part, Torn, Holds}
use Rattle.device.proofs.Ranges.{holds_part}
use Rattle.geometry.specs.declared.geometry.Geometry.{Geometry}
use Rattle.image.specs.Slots.{version_of, slot_of}
use Rattle.packs.specs.Pack.{IsSettled, Between, IsStaged}
use Rattle.packs.specs.Parts.{body_bytes}
use Rattle.packs.specs.Area.{footer_by, reading_of}
use Rattle.geometry.specs.Area.{meta_bytes}
use Rattle.packs.specs.Device.{IsArea, IsSlots}
use Rattle.packs.proofs.Crash.{staged_committing, staged_committed}
use Rattle.packs.proofs.Footers.{torn_footer, footer_fits, footer_is}

-- a torn footer in the other slot leaves the old pack or the staged one
pub footer_between : (g : Geometry) (version at n : ℕ) (old new c d : List ℕ) → at ≡ footer_by g.packing (body_bytes g) (1 - slot_of version) → n ≡ 4 → version ≡ version_of old → version_of new ≡ version_of old + 1
    → IsStaged (reading_of g) old new c → Torn at n c d → Between (reading_of g) old new d
footer_between g version at n old new c d at_is n_is is next staged torn =
    let place : at ≡ footer_by g.packing (body_bytes g) (1 - slot_of (version_of old)) = at_is ∙ ap (λ (v : ℕ). footer_by g.packing (body_bytes g) (1 - slot_of v)) is in
    staged_committing (reading_of g) old new c d next staged
    (torn_footer g.packing g (slot_of (version_of old)) c d (omega arith) (subst (λ (a : ℕ). Torn a 4 c d) place (subst (λ (m : ℕ). Torn at m c d) n_is torn)))

-- a footer that was written
pub footer_written : (g : Geometry) (version at next : ℕ) (bytes before after : List ℕ) → at ≡ footer_by g.packing (body_bytes g) (1 - slot_of version) → length bytes ≡ 4 → length before ≡ meta_bytes g → little_number 4 bytes ≡ next
    → Holds before at bytes after → (reading_of g).footer (1 - slot_of version) after ≡ next
footer_written g version at next bytes before after at_is n_is long is holds =
    let fits = footer_fits g.packing g (1 - slot_of version) (omega arith) in
    let inside : at + length bytes ≤ length before = fits_in (footer_by g.packing (body_bytes g) (1 - slot_of version)) (meta_bytes g) at (length bytes) (length before) fits at_is n_is long in
    let read : part at (length bytes) after ≡ bytes = holds_part at bytes before after inside holds in
    footer_is g.packing g (1 - slot_of version) after ∙ ap (little_number 4) (subst (λ (a : ℕ). part a 4 after ≡ bytes) at_is (subst (λ (m : ℕ). part at m after ≡ bytes) n_is read)) ∙ is
  where
    fits_in : (f a at n l : ℕ) → f + 4 ≤ a → at ≡ f → n ≡ 4 → l ≡ a → at + n ≤ l
    fits_in f a at n l fits x y z = omega (arith, fits, x, y, z)

pub area_stays : (g : Geometry) (old new : List ℕ) → IsArea g old → length new ≡ length old → IsArea g new
area_stays g old new is long = long ∙ is

pub slots_stay : (len : ℕ) (old new : List ℕ) → IsSlots len old → length new ≡ length old → IsSlots len new
slots_stay len old new is long = record { header = is.header; long = long ∙ is.long; fits = is.fits }

-- the new pack counts once its footer is written
pub footer_settled : (g : Geometry) (version at next : ℕ) (bytes old new c d : List ℕ) → at ≡ footer_by g.packing (body_bytes g) (1 - slot_of version) → length bytes ≡ 4 → version ≡ version_of old → length c ≡ meta_bytes g
    → little_number 4 bytes ≡ next → next ≡ version_of new → next ≡ version + 1
    → IsStaged (reading_of g) old new c → Torn at (length bytes) c d → Holds c at bytes d → IsSettled (reading_of g) new d
footer_settled g version at next bytes old new c d at_is n_is is long reads is_new is_next staged torn holds =
    let follows : version_of new ≡ version_of old + 1 = omega (arith, is, is_new, is_next) in
    let place : at ≡ footer_by g.packing (body_bytes g) (1 - slot_of (version_of old)) = at_is ∙ ap (λ (v : ℕ). footer_by g.packing (body_bytes g) (1 - slot_of v)) is in
    let same = torn_footer g.packing g (slot_of (version_of old)) c d (omega arith) (subst (λ (a : ℕ). Torn a 4 c d) place (subst (λ (m : ℕ). Torn at m c d) n_is torn)) in
    let wrote : (reading_of g).footer (1 - slot_of version) d ≡ next = footer_written g version at next bytes c d at_is n_is long reads holds in
    staged_committed (reading_of g) old new c d follows staged same
    (subst (λ (v : ℕ). (reading_of g).footer (1 - slot_of v) d ≡ version_of new) is (wrote ∙ is_new))

-- a footer of zeros
pub footer_zero : (g : Geometry) (slot at : ℕ) (before after : List ℕ) → slot ≤ 1 → at ≡ footer_by g.packing (body_bytes g) (1 - slot) → length before ≡ meta_bytes g
    → Holds before at (0 ∷ 0 ∷ 0 ∷ 0 ∷ []) after → (reading_of g).footer (1 - slot) after ≡ 0
footer_zero g slot at before after le at_is long holds =
    let fits = footer_fits g.packing g (1 - slot) (omega arith) in
    let read : part at 4 after ≡ 0 ∷ 0 ∷ 0 ∷ 0 ∷ [] = holds_part at (0 ∷ 0 ∷ 0 ∷ 0 ∷ []) before after (inside (footer_by g.packing (body_bytes g) (1 - slot)) (meta_bytes g) at (length before) fits at_is long) holds in
    footer_is g.packing g (1 - slot) after ∙ ap (little_number 4) (subst (λ (a : ℕ). part a 4 after ≡ 0 ∷ 0 ∷ 0 ∷ 0 ∷ []) at_is read)
  where
    inside : (f a at l : ℕ) → f + 4 ≤ a → at ≡ f → l ≡ a → at + 4 ≤ l
    inside f a at l fits x y = omega (arith, fits, x, y)
