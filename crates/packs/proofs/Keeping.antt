-- What is written of the next pack lies in a slot where the picked pack has no such part: so the picked pack, its map,
-- both footers and the front stay, and the parts put so far too.
use Rattle.std.proofs.Common.{◌≡◌, ◌≢◌, refl, sym, ◌∙◌, ap, subst, ◌⊎◌, inl, inr, ⊎_elim, ℕ, zero, suc, ◌+◌, ◌-◌, ◌*◌, ◌<◌, ◌≤◌, Bool, true, false, List, [], length, take, drop, arith}
use Rattle.std.specs.Prelude.{Option, Some, None}
use Rattle.std.proofs.lemmas.Bool.{cases_eq}
use Rattle.byteorder.specs.Endian.{little_number}
use Rattle.device.specs.Disk.{part, Torn, Holds}
use Rattle.device.proofs.Ranges.{torn_front, holds_part}
use Rattle.geometry.specs.declared.geometry.Geometry.{Geometry}
use Rattle.packs.specs.declared.map.Map.{Map}
use Rattle.packs.specs.Pack.{SameButBody, SameButFooter}
use Rattle.packs.specs.Area.{footer_at, area_bytes, slots_reading}
use Rattle.packs.specs.Device.{IsSameArea}
use Rattle.packs.specs.Parts.{body_bytes, slot_at, place, side, lies, piece, map_at, map_bytes, read_map, map_in, known_sides, assembled, spelled_map}
use Rattle.packs.specs.Staging.{body_piece, IsPlan, SameEnds, IsPut}
use Rattle.packs.proofs.Places.{place_next, place_within, place_zero}
use Rattle.packs.proofs.Gathering.{first_piece, assembled_same}
use Rattle.packs.proofs.Apart.{bytes_in, piece_piece, piece_footer, piece_map, footer_piece, footer_map, footer_footer, map_piece, map_footer, map_map}

pub lies_within : (slot : ℕ) (way : Bool) → slot ≤ 1 → lies slot way ≤ 1
lies_within slot false le = le
lies_within slot true le = omega arith

-- a part that is written lies in the other slot than the old one
lies_apart : (slot : ℕ) (way : Bool) → slot ≤ 1 → lies slot way ≡ lies (1 - slot) way → ⊥
lies_apart slot false le is = omega (arith, le, is)
lies_apart slot true le is = omega (arith, le, is)

-- and one that stays in the same
pub lies_same : (slot : ℕ) (x y : Bool) → slot ≤ 1 → (x ≡ y → ⊥) → lies (1 - slot) x ≡ lies slot y
lies_same slot true true le apart = absurd (apart refl)
lies_same slot true false le apart = omega (arith, le)
lies_same slot false true le apart = refl
lies_same slot false false le apart = absurd (apart refl)

slots_apart : (slot : ℕ) → slot ≤ 1 → slot ≡ 1 - slot → ⊥
slots_apart slot le is = omega (arith, le, is)

-- no write to a map, a part or a footer reaches the bytes in front
pub torn_area : (at n : ℕ) (old new : List ℕ) → 32 ≤ at → Torn at n old new → IsSameArea old new
torn_area at n old new le torn = record { long = torn.long; front = torn_front at n 32 old new le torn }

pub area_joined : (a b c : List ℕ) → IsSameArea a b → IsSameArea b c → IsSameArea a c
area_joined a b c first second = record { long = second.long ∙ first.long; front = second.front ∙ first.front }

module _ (g : Geometry) where
  -- the first part, where the part in its slot is the same
  front_same : (slot : ℕ) (c d : List ℕ) → bytes_in g slot 0 d ≡ bytes_in g slot 0 c → part (slot_at (body_bytes g) slot) (place g 1) d ≡ part (slot_at (body_bytes g) slot) (place g 1) c
  front_same slot c d is = sym (first_piece g slot [] d) ∙ is ∙ first_piece g slot [] c

  -- a pack stays where its map and all parts stay
  pub all_same : (slot : ℕ) (c d : List ℕ) → slot ≤ 1 → map_bytes slot d ≡ map_bytes slot c → ((a j : ℕ) → a ≤ 1 → j < 66 → bytes_in g a j d ≡ bytes_in g a j c) → assembled g slot d ≡ assembled g slot c
  all_same slot c d le maps parts =
      assembled_same g slot c d (map_in g slot c) refl (ap (read_map g) maps) (front_same slot c d (parts slot 0 le (omega arith)))
      (λ m is k below. parts (lies slot (side m.sides k)) k (lies_within slot (side m.sides k) le) below)

  -- a footer that is torn
  pub slots_torn_footer : (slot : ℕ) (old new : List ℕ) → slot ≤ 1 → Torn (footer_at (body_bytes g) (1 - slot)) 4 old new → SameButFooter (slots_reading g) slot old new
  slots_torn_footer slot old new le torn = record {
    body = all_same slot old new le (footer_map g slot (1 - slot) old new le torn) (λ a j within below. footer_piece g a (1 - slot) j old new within (omega arith) below torn);
    footer = ap (little_number 4) (footer_footer g slot (1 - slot) old new le (omega arith) (slots_apart slot le) torn);
    other = all_same (1 - slot) old new (omega arith) (footer_map g (1 - slot) (1 - slot) old new (omega arith) torn) (λ a j within below. footer_piece g a (1 - slot) j old new within (omega arith) below torn);
  }

-- what a write of a part of the next pack, or of its map, keeps: both footers, the picked pack, its map, and the front
pub record Keeps (g : Geometry) (slot : ℕ) (map : Option Map) (c d : List ℕ) : Type 0 where
  pub packs : SameButBody (slots_reading g) slot c d
  pub area : IsSameArea c d
  pub mapped : map_in g slot d ≡ map

module _ (g : Geometry) (slot : ℕ) (map : Option Map) (c d : List ℕ) (le : slot ≤ 1) (was : map_in g slot c ≡ map) where
  -- the next pack's map
  pub map_kept : Torn (map_at (1 - slot)) 16 c d → Keeps g slot map c d
  map_kept torn =
      let maps = map_map slot (1 - slot) c d le (omega arith) (slots_apart slot le) torn in
      record {
        packs = record {
          body = all_same g slot c d le maps (λ a j within below. map_piece g a (1 - slot) j c d (omega arith) torn);
          footer = ap (little_number 4) (map_footer g slot (1 - slot) c d (omega arith) torn);
          other = ap (little_number 4) (map_footer g (1 - slot) (1 - slot) c d (omega arith) torn);
        };
        area = torn_area (map_at (1 - slot)) 16 c d (omega arith) torn;
        mapped = ap (read_map g) maps ∙ was;
      }

  -- and a part of it that changes its bytes
  pub part_kept : (k : ℕ) (way : Bool) → k < 66 → way ≡ side (known_sides map) k
      → Torn (slot_at (body_bytes g) (lies (1 - slot) way) + place g k) (place g (suc k) - place g k) c d → Keeps g slot map c d
  part_kept k way below is torn =
      let b = lies (1 - slot) way in
      let b_in = lies_within (1 - slot) way (omega arith) in
      let maps = piece_map g slot b k c d le torn in
      record {
        packs = record {
          body = assembled_same g slot c d map was (ap (read_map g) maps ∙ was)
              (front_same g slot c d (piece_piece g slot b 0 k c d le b_in (omega arith) below (first_apart k is) torn))
              (λ m known j within. piece_piece g (lies slot (side m.sides j)) b j k c d (lies_within slot (side m.sides j) le) b_in within below (parts_apart m known j k is) torn);
          footer = ap (little_number 4) (piece_footer g slot b k c d le b_in below torn);
          other = ap (little_number 4) (piece_footer g (1 - slot) b k c d (omega arith) b_in below torn);
        };
        area = torn_area (slot_at (body_bytes g) b + place g k) (place g (suc k) - place g k) c d (behind (body_bytes g) b (place g k)) torn;
        mapped = ap (read_map g) maps ∙ was;
      }
    where
      behind : (len b p : ℕ) → 32 ≤ slot_at len b + p
      behind len b p = omega arith

      first_apart : (k : ℕ) → way ≡ side (known_sides map) k → slot ≡ lies (1 - slot) way → 0 ≡ k → ⊥
      first_apart k is same at =
          let own : way ≡ false = is ∙ ap (side (known_sides map)) (sym at) in
          lies_apart slot false le (same ∙ ap (lies (1 - slot)) own)

      parts_apart : (m : Map) → map ≡ Some m → (j k : ℕ) → way ≡ side (known_sides map) k → lies slot (side m.sides j) ≡ lies (1 - slot) way → j ≡ k → ⊥
      parts_apart m known j k is same at =
          let sides : side (known_sides map) k ≡ side m.sides k = ap (λ x. side (known_sides x) k) known in
          let own : side m.sides j ≡ way = ap (side m.sides) at ∙ sym sides ∙ sym is in
          lies_apart slot way le (sym (ap (lies slot) own) ∙ same)

-- the next pack on its way
module _ (g : Geometry) (slot : ℕ) (old sides : List Bool) (body start : List ℕ) (le : slot ≤ 1) where
  -- its map is written
  pub put_first : (area : List ℕ) → IsPlan g slot old sides body start → length start ≡ area_bytes (body_bytes g) → length (spelled_map sides) ≡ 16
      → Torn (map_at (1 - slot)) 16 start area → Holds start (map_at (1 - slot)) (spelled_map sides) area → IsPut g slot old sides body 0 start area
  put_first area plan long many torn holds = record {
    ends = record { area = torn_area (map_at (1 - slot)) 16 start area (omega arith) torn; footer = λ s below. ap (little_number 4) (map_footer g s (1 - slot) start area (omega arith) torn) };
    map = subst (λ n. part (map_at (1 - slot)) n area ≡ spelled_map sides) many (holds_part (map_at (1 - slot)) (spelled_map sides) start area (omega (arith, long, many)) holds);
    there = λ k below which. ⊎_elim (λ less. absurd (omega (arith, less)))
        (λ stays.
        map_piece g (lies (1 - slot) (side sides k)) (1 - slot) k start area (omega arith) torn
        ∙ ap (λ s. bytes_in g s k start) (lies_same slot (side sides k) (side old k) le stays)
        ∙ plan.equal k below stays) which;
  }

  nothing : (n : ℕ) (at at' : ℕ) (a b : List ℕ) → n ≡ 0 → part at n a ≡ part at' n b
  nothing n at at' a b none = ap (λ n. part at n a) {y = 0} none ∙ sym (ap (λ n. part at' n b) {y = 0} none)

  -- a part stays, or it has no bytes
  pub put_same : (k : ℕ) (area : List ℕ) → (place g k ≡ place g (suc k)) ⊎ (side sides k ≡ side old k → ⊥) → IsPut g slot old sides body k start area → IsPut g slot old sides body (suc k) start area
  put_same k area why put = record {
    ends = put.ends;
    map = put.map;
    there = λ j below which. ⊎_elim
        (λ less. ⊎_elim
        (λ same. ⊎_elim
        (λ none. nothing (place g (suc j) - place g j) _ _ area body (omega (arith, none, ap (place g) same, ap (λ n. place g (suc n)) same)))
        (λ stays. put.there j below (inr (subst (λ n. side sides n ≡ side old n → ⊥) (sym same) stays)))
        why)
        (λ apart. put.there j below (inl (omega (arith, less, apart))))
        (cases_eq j k))
        (λ stays. put.there j below (inr stays)) which;
  }

  -- a part is written
  pub put_more : (k : ℕ) (area new bytes : List ℕ) → k < 66 → length area ≡ area_bytes (body_bytes g) → bytes ≡ body_piece g k body → length bytes ≡ place g (suc k) - place g k
      → Torn (slot_at (body_bytes g) (lies (1 - slot) (side sides k)) + place g k) (place g (suc k) - place g k) area new
      → Holds area (slot_at (body_bytes g) (lies (1 - slot) (side sides k)) + place g k) bytes new
      → IsPut g slot old sides body k start area → IsPut g slot old sides body (suc k) start new
  put_more k area new bytes below long are many torn holds put =
      let b = lies (1 - slot) (side sides k) in
      let b_in = lies_within (1 - slot) (side sides k) (omega arith) in
      record {
        ends = record {
          area = area_joined start area new put.ends.area (torn_area (slot_at (body_bytes g) b + place g k) _ area new (behind (body_bytes g) b (place g k)) torn);
          footer = λ s two. ap (little_number 4) (piece_footer g s b k area new (omega (arith, two)) b_in below torn) ∙ put.ends.footer s two;
        };
        map = piece_map g (1 - slot) b k area new (omega arith) torn ∙ put.map;
        there = λ j within which. ⊎_elim
            (λ same. subst (λ n. piece g (1 - slot) sides n new ≡ body_piece g n body) (sym same) written)
            (λ apart.
            piece_piece g (lies (1 - slot) (side sides j)) b j k area new (lies_within (1 - slot) (side sides j) (omega arith)) b_in within below (λ any at. apart at) torn
            ∙ put.there j within (⊎_elim (λ less. inl (omega (arith, less, apart))) (λ stays. inr stays) which))
            (cases_eq j k);
      }
    where
      behind : (len b p : ℕ) → 32 ≤ slot_at len b + p
      behind len b p = omega arith

      ends_in : (len b p p' n : ℕ) → b ≤ 1 → p ≤ p' → p' ≤ len → n ≡ p' - p → slot_at len b + p + n ≤ area_bytes len
      ends_in len zero p p' n w x y z = omega (arith, x, y, z)
      ends_in len (suc zero) p p' n w x y z = omega (arith, x, y, z)
      ends_in len (suc (suc b)) p p' n w x y z = absurd (omega (arith, w))

      written : piece g (1 - slot) sides k new ≡ body_piece g k body
      written =
          let b = lies (1 - slot) (side sides k) in
          let at = slot_at (body_bytes g) b + place g k in
          let fits : at + length bytes ≤ length area = subst (λ n. at + length bytes ≤ n) (sym long) (ends_in (body_bytes g) b (place g k) (place g (suc k)) (length bytes) (lies_within (1 - slot) (side sides k) (omega arith)) (place_next g k) (place_within g (suc k) (omega (arith, below))) many) in
          subst (λ n. part at n new ≡ bytes) many (holds_part at bytes area new fits holds) ∙ are

-- both footers and the front stay through a write of a map or of a part, and through two of them
pub map_ends : (g : Geometry) (slot : ℕ) (c d : List ℕ) → slot ≤ 1 → Torn (map_at slot) 16 c d → SameEnds g c d
map_ends g slot c d le torn = record { area = torn_area (map_at slot) 16 c d (omega arith) torn; footer = λ s below. ap (little_number 4) (map_footer g s slot c d le torn) }

pub part_ends : (g : Geometry) (b k : ℕ) (c d : List ℕ) → b ≤ 1 → k < 66 → Torn (slot_at (body_bytes g) b + place g k) (place g (suc k) - place g k) c d → SameEnds g c d
part_ends g b k c d le below torn = record {
  area = torn_area (slot_at (body_bytes g) b + place g k) (place g (suc k) - place g k) c d (behind (body_bytes g) b (place g k)) torn;
  footer = λ s two. ap (little_number 4) (piece_footer g s b k c d (omega (arith, two)) le below torn);
}
  where
    behind : (len b p : ℕ) → 32 ≤ slot_at len b + p
    behind len b p = omega arith

-- the same of a write that is told by its own place and length
pub wrote_ends : (g : Geometry) (b k at n : ℕ) (c d : List ℕ) → b ≤ 1 → k < 66 → at ≡ slot_at (body_bytes g) b + place g k → n ≡ place g (suc k) - place g k → Torn at n c d → SameEnds g c d
wrote_ends g b k at n c d le below there long torn =
    part_ends g b k c d le below (subst (λ (a : ℕ). Torn a (place g (suc k) - place g k) c d) there (subst (λ (m : ℕ). Torn at m c d) long torn))
