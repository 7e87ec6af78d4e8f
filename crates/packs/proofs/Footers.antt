-- Where footers lie, and what a write of one leaves, of packs in slots and in pages: each proof is by the packing.
use Rattle.std.proofs.Common.{◌≡◌, refl, sym, ◌∙◌, ap, subst, inl, inr, ◌⊎◌, ℕ, zero, suc, ◌+◌, ◌-◌, ◌*◌, ◌<◌, ◌≤◌, true, List, length, take, drop, arith}
use Rattle.std.proofs.lemmas.List.{length-take-le}
use Rattle.byteorder.specs.Endian.{little_number}
use Rattle.byteorder.specs.Numbers.{little_from-append, little_from-take}
use Rattle.image.specs.Slots.{version_of}
use Rattle.device.specs.Disk.{part, Torn}
use Rattle.geometry.specs.Area.{area_of, pack_bytes}
use Rattle.geometry.specs.declared.geometry.Geometry.{Geometry}
use Rattle.geometry.specs.declared.packing.Packing.{Packing}
use Rattle.geometry.specs.declared.packing.Packing.TheVariants.{Slots, Pages}
use Rattle.packs.specs.Pack.{SameButFooter}
use Rattle.packs.specs.Parts.{body_bytes, read_map}
use Rattle.packs.specs.Area.{header_by, footer_by, pages_reading, reading_by}
use Rattle.packs.specs.Device.{IsKnown}
use Rattle.packs.specs.declared.packs.Known.{Known}
use Rattle.packs.proofs.Apart.{footer_map}
use Rattle.packs.proofs.Gathering.{assembled_version}
use Rattle.packs.proofs.Sizes.{is_more, front_fits}
use Rattle.packs.proofs.Keeping.{slots_torn_footer}
use Rattle.packs_journal.specs.Places.{head_at, footer_at as foot_at, page_at, page_size, head_bytes}
use Rattle.packs_journal.specs.Journal.{map_of, copy_in, is_head}
use Rattle.packs_journal.specs.Reading.{head_in, rest_by, assembled as paged}
use Rattle.packs_journal.specs.Staging.{body_page}
use Rattle.packs_journal.proofs.Gathering.{gathered_same}
use Rattle.packs_journal.proofs.Pieces.{part_long}
use Rattle.packs_journal.proofs.Beside.{apart_same, assembled_same}

pub footer_fits : (packing : Packing) (g : Geometry) (slot : ℕ) → slot ≤ 1 → footer_by packing (body_bytes g) slot + 4 ≤ area_of packing (pack_bytes g)
footer_fits Slots g zero le = omega arith
footer_fits Slots g (suc zero) le = omega arith
footer_fits Slots g (suc (suc slot)) le = absurd (omega (arith, le))
footer_fits Pages g slot le = omega (arith, le)

pub footer_behind : (packing : Packing) (len slot : ℕ) → 32 ≤ footer_by packing len slot
footer_behind Slots len slot = omega arith
footer_behind Pages len slot = omega arith

pub footer_is : (packing : Packing) (g : Geometry) (slot : ℕ) (area : List ℕ) → (reading_by packing g).footer slot area ≡ little_number 4 (part (footer_by packing (body_bytes g) slot) 4 area)
footer_is Slots g slot area = refl
footer_is Pages g slot area = refl

-- in pages a footer lies behind its head, and before the pages
heads_apart : (a b : ℕ) → a ≤ 1 → b ≤ 1 → (head_at a + head_bytes ≤ foot_at b) ⊎ (foot_at b + 4 ≤ head_at a)
heads_apart zero zero le le' = inl (omega arith)
heads_apart zero (suc zero) le le' = inl (omega arith)
heads_apart (suc zero) zero le le' = inr (omega arith)
heads_apart (suc zero) (suc zero) le le' = inl (omega arith)
heads_apart (suc (suc a)) b le le' = absurd (omega (arith, le))
heads_apart zero (suc (suc b)) le le' = absurd (omega (arith, le'))
heads_apart (suc zero) (suc (suc b)) le le' = absurd (omega (arith, le'))

body_stays : (len a b : ℕ) (c d : List ℕ) → a ≤ 1 → b ≤ 1 → Torn (foot_at b) 4 c d → paged len a d ≡ paged len a c
body_stays len a b c d le le' torn =
    assembled_same len a c d (apart_same (foot_at b) 4 (head_at a) head_bytes c d (heads_apart a b le le') torn)
    (λ is. gathered_same len (map_of (head_in a c)) _ c d (λ k below. apart_same (foot_at b) 4 (page_at k (copy_in (map_of (head_in a c)) k)) (page_size len k) c d (inr (omega (arith, le'))) torn))

pages_torn_footer : (g : Geometry) (slot : ℕ) (old new : List ℕ) → slot ≤ 1 → Torn (foot_at (1 - slot)) 4 old new → SameButFooter (pages_reading g) slot old new
pages_torn_footer g slot old new le torn = record {
  body = body_stays (body_bytes g) slot (1 - slot) old new le (omega arith) torn;
  footer = ap (little_number 4) (apart_same (foot_at (1 - slot)) 4 (foot_at slot) 4 old new (feet slot le) torn);
  other = body_stays (body_bytes g) (1 - slot) (1 - slot) old new (omega arith) (omega arith) torn;
}
  where
    feet : (slot : ℕ) → slot ≤ 1 → (foot_at slot + 4 ≤ foot_at (1 - slot)) ⊎ (foot_at (1 - slot) + 4 ≤ foot_at slot)
    feet zero le = inl (omega arith)
    feet (suc zero) le = inr (omega arith)
    feet (suc (suc slot)) le = absurd (omega (arith, le))

pub torn_footer : (packing : Packing) (g : Geometry) (slot : ℕ) (old new : List ℕ) → slot ≤ 1 → Torn (footer_by packing (body_bytes g) (1 - slot)) 4 old new → SameButFooter (reading_by packing g) slot old new
torn_footer Slots g slot old new le torn = slots_torn_footer g slot old new le torn
torn_footer Pages g slot old new le torn = pages_torn_footer g slot old new le torn

-- and what is known of a pack stays known
pub footer_known : (g : Geometry) (slot other : ℕ) (known : Known) (c d : List ℕ) → slot ≤ 1 → other ≤ 1 → Torn (footer_by g.packing (body_bytes g) other) 4 c d → IsKnown g slot known c → IsKnown g slot known d
footer_known g slot other known c d le le' torn has = record {
  map = λ is. ap (read_map g) (footer_map g slot other c d le (subst (λ p. Torn (footer_by p (body_bytes g) other) 4 c d) is torn)) ∙ has.map is;
  pages = λ is head.
      let same = apart_same (foot_at other) 4 (head_at slot) head_bytes c d (heads_apart slot other le le') (subst (λ p. Torn (footer_by p (body_bytes g) other) 4 c d) is torn) in
      ap map_of same ∙ has.pages is (ap (is_head (body_bytes g)) (sym same) ∙ head);
  names = has.names;
  noted = λ is k below out.
      let written = subst (λ p. Torn (footer_by p (body_bytes g) other) 4 c d) is torn in
      apart_same (foot_at other) 4 (page_at k (copy_in known.pages.map k)) (page_size (body_bytes g) k) c d (inr (omega (arith, le'))) written
      ∙ has.noted is k below out ∙ ap (body_page (body_bytes g) k) (sym (body_stays (body_bytes g) slot other c d le le' written));
}

-- a pack begins with its version
paged_version : (len slot : ℕ) (area : List ℕ) → head_at slot + head_bytes ≤ length area → version_of (paged len slot area) ≡ little_number 4 (part (head_at slot) 4 area)
unfolding version_of paged
paged_version len slot area fits =
    let head = head_in slot area in
    let whole : length head ≡ head_bytes = part_long (head_at slot) head_bytes area fits in
    let front : length (take 56 head) ≡ 56 = length-take-le 56 head (omega (arith, whole)) in
    little_from-append 4 (take 56 head) (rest_by len head area) (omega (arith, front))
    ∙ little_from-take 0 4 56 head (omega arith)
    ∙ little_from-take 0 4 head_bytes (drop (head_at slot) area) (omega arith)
    ∙ sym (little_from-take 0 4 4 (drop (head_at slot) area) (omega arith))

pub header_is : (packing : Packing) (g : Geometry) (slot : ℕ) (area : List ℕ) → slot ≤ 1 → area_of packing (pack_bytes g) ≤ length area
    → version_of ((reading_by packing g).body slot area) ≡ little_number 4 (part (header_by packing (body_bytes g) slot) 4 area)
header_is Slots g slot area le long =
    let some = is_more g in
    assembled_version g slot area (front_fits (body_bytes g) slot (length area) le (omega (arith, some)) (omega (arith, long)))
header_is Pages g slot area le long = paged_version (body_bytes g) slot area (omega (arith, le, long))
