-- The first pack of an area.
use Rattle.std.proofs.Common.{◌≡◌, ℕ, ◌-◌, ◌+◌, ◌<◌, ◌≤◌, List, [], ◌∷◌, length, refl, sym, ◌∙◌, ap, subst, arith}
use Rattle.device.specs.Disk.{Torn, Holds}
use Rattle.geometry.specs.Area.{meta_bytes}
use Rattle.geometry.specs.declared.geometry.Geometry.{Geometry}
use Rattle.image.specs.Slots.{version_of, slot_of}
use Rattle.packs.specs.Pack.{IsSettled}
use Rattle.packs.specs.Area.{footer_by, reading_of}
use Rattle.packs.specs.Parts.{body_bytes}
use Rattle.packs.proofs.Footers.{torn_footer}
use Rattle.packs.proofs.Steps.{footer_zero, footer_written}

-- Slot 0 has a footer of 0, version 1 is put in slot 1, and its footer is written.
pub first_settled : (g : Geometry) (body a b c d : List ℕ) → version_of body ≡ 1 → length a ≡ meta_bytes g → Holds a (footer_by g.packing (body_bytes g) 0) (0 ∷ 0 ∷ 0 ∷ 0 ∷ []) b
    → length c ≡ meta_bytes g → (reading_of g).footer 0 c ≡ (reading_of g).footer 0 b → (reading_of g).body 1 c ≡ body
    → Torn (footer_by g.packing (body_bytes g) 1) 4 c d → Holds c (footer_by g.packing (body_bytes g) 1) (1 ∷ 0 ∷ 0 ∷ 0 ∷ []) d → IsSettled (reading_of g) body d
first_settled g body a b c d first a_long cleared c_long footer staged torn footed =
    let r = reading_of g in
    let zero : r.footer 0 b ≡ 0 = footer_zero g 1 (footer_by g.packing (body_bytes g) 0) a b (omega arith) refl a_long cleared in
    let same = torn_footer g.packing g 0 c d (omega arith) torn in
    let one : r.footer 1 d ≡ 1 = footer_written g 0 (footer_by g.packing (body_bytes g) 1) 1 (1 ∷ 0 ∷ 0 ∷ 0 ∷ []) c d refl refl c_long refl footed in
    let at : slot_of (version_of body) ≡ 1 = ap slot_of first in
    record {
      positive = omega (arith, first);
      body = ap (λ (k : ℕ). r.body k d) at ∙ same.other ∙ staged;
      footer = ap (λ (k : ℕ). r.footer k d) at ∙ one ∙ sym first;
      below = let is : r.footer (1 - slot_of (version_of body)) d ≡ 0 = ap (λ (k : ℕ). r.footer (1 - k) d) at ∙ same.footer ∙ footer ∙ zero in omega (arith, is, first);
    }
