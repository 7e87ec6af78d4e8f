-- The parts of a pack follow one another without a gap, each in the slot that its map says: so where each part is a
-- body's part, together they are that body.
use Rattle.std.proofs.Common.{◌≡◌, ◌≢◌, refl, sym, ◌∙◌, ap, subst, inl, inr, ⊎_elim, ℕ, zero, suc, ◌+◌, ◌-◌, ◌<◌, ◌≤◌, Bool, true, false, List, [], ◌∷◌, ◌++◌, length, take, drop, arith, append-nil, append_assoc, length-append, length-drop}
use Rattle.std.specs.Prelude.{Option, Some, None}
use Rattle.std.proofs.lemmas.List.{take_all, take-append-le, length-take-le, take-take}
use Rattle.byteorder.specs.Endian.{little_number}
use Rattle.byteorder.specs.Numbers.{little_from-append, little_from-take}
use Rattle.device.specs.Disk.{part}
use Rattle.geometry.specs.declared.geometry.Geometry.{Geometry}
use Rattle.image.specs.Slots.{version_of}
use Rattle.packs.specs.declared.map.Map.{Map}
use Rattle.packs.specs.Parts.{body_bytes, slot_at, place, side, lies, piece, gathered, map_bytes, read_map, map_in, assembled_by, assembled}
use Rattle.packs.specs.Area.{footer_at, area_bytes}
use Rattle.packs.specs.Staging.{body_piece}
use Rattle.packs.proofs.Places.{place_zero, place_next, place_within, place_end, place_front, take-plus}

module _ (g : Geometry) (slot : ℕ) (sides : List Bool) where
  pub gathered_none : (area : List ℕ) → gathered g slot sides 0 area ≡ []
  unfolding gathered
  gathered_none area = refl

  pub gathered_more : (n : ℕ) (area : List ℕ) → gathered g slot sides (suc n) area ≡ gathered g slot sides n area ++ piece g slot sides n area
  unfolding gathered
  gathered_more n area = refl

  -- where each part is the same, so is the whole
  pub gathered_same : (n : ℕ) (c d : List ℕ) → ((k : ℕ) → k < n → piece g slot sides k d ≡ piece g slot sides k c) → gathered g slot sides n d ≡ gathered g slot sides n c
  gathered_same zero c d same = gathered_none d ∙ sym (gathered_none c)
  gathered_same (suc n) c d same =
      let front = gathered_same n c d (λ k below. same k (omega (arith, below))) in
      let last = same n (omega arith) in
      gathered_more n d ∙ ap (λ l. l ++ piece g slot sides n d) front ∙ ap (λ l. gathered g slot sides n c ++ l) last ∙ sym (gathered_more n c)

  -- and where each is a body's, the whole is the body as far
  pub gathered_whole : (n : ℕ) (body area : List ℕ) → ((k : ℕ) → k < n → piece g slot sides k area ≡ body_piece g k body) → gathered g slot sides n area ≡ take (place g n) body
  gathered_whole zero body area is = gathered_none area ∙ sym (ap (λ n. take n body) (place_zero g))
  gathered_whole (suc n) body area is =
      let front = gathered_whole n body area (λ k below. is k (omega (arith, below))) in
      let last = is n (omega arith) in
      let le = place_next g n in
      let far : place g n + (place g (suc n) - place g n) ≡ place g (suc n) = omega (arith, le) in
      gathered_more n area ∙ ap (λ l. l ++ piece g slot sides n area) front ∙ ap (λ l. take (place g n) body ++ l) last
      ∙ sym (take-plus (place g n) (place g (suc n) - place g n) body) ∙ ap (λ n. take n body) far

  -- the first part stands in the slot itself
  pub first_piece : (area : List ℕ) → piece g slot sides 0 area ≡ part (slot_at (body_bytes g) slot) (place g 1) area
  first_piece area =
      let z = place_zero g in
      let from : slot_at (body_bytes g) slot + place g 0 ≡ slot_at (body_bytes g) slot = ap (λ n. slot_at (body_bytes g) slot + n) z ∙ none (slot_at (body_bytes g) slot) in
      let count : place g 1 - place g 0 ≡ place g 1 = omega (arith, z) in
      ap (λ n. part n (place g 1 - place g 0) area) from ∙ ap (λ n. part (slot_at (body_bytes g) slot) n area) count
    where
      none : (n : ℕ) → n + 0 ≡ n
      none n = omega arith

  pub gathered_front : (n : ℕ) (area : List ℕ) → (rest : List ℕ) × (gathered g slot sides (suc n) area ≡ part (slot_at (body_bytes g) slot) (place g 1) area ++ rest)
  gathered_front zero area =
      ([], gathered_more 0 area ∙ ap (λ l. l ++ piece g slot sides 0 area) (gathered_none area) ∙ first_piece area ∙ sym (append-nil _))
  gathered_front (suc n) area =
      let less = gathered_front n area in (
        less.0 ++ piece g slot sides (suc n) area,
        gathered_more (suc n) area ∙ ap (λ l. l ++ piece g slot sides (suc n) area) less.1 ∙ append_assoc (part (slot_at (body_bytes g) slot) (place g 1) area) less.0 (piece g slot sides (suc n) area),
      )

pub assembled_is : (g : Geometry) (slot : ℕ) (area : List ℕ) (map : Option Map) → map_in g slot area ≡ map → assembled g slot area ≡ assembled_by g slot area map
unfolding assembled
assembled_is g slot area map is = ap (assembled_by g slot area) is

-- a pack with the same map and the same parts
pub assembled_same : (g : Geometry) (slot : ℕ) (c d : List ℕ) (map : Option Map) → map_in g slot c ≡ map → map_in g slot d ≡ map
    → part (slot_at (body_bytes g) slot) (place g 1) d ≡ part (slot_at (body_bytes g) slot) (place g 1) c
    → ((m : Map) → map ≡ Some m → (k : ℕ) → k < 66 → piece g slot m.sides k d ≡ piece g slot m.sides k c)
    → assembled g slot d ≡ assembled g slot c
assembled_same g slot c d map was is front parts = assembled_is g slot d map is ∙ by map parts ∙ sym (assembled_is g slot c map was)
  where
    by : (map : Option Map) → ((m : Map) → map ≡ Some m → (k : ℕ) → k < 66 → piece g slot m.sides k d ≡ piece g slot m.sides k c) → assembled_by g slot d map ≡ assembled_by g slot c map
    by None parts = front
    by (Some m) parts = gathered_same g slot m.sides 66 c d (parts m refl)

-- a pack begins with the bytes of its header, whatever its map
pub assembled_front : (g : Geometry) (slot : ℕ) (area : List ℕ) → (rest : List ℕ) × (assembled g slot area ≡ part (slot_at (body_bytes g) slot) (place g 1) area ++ rest)
assembled_front g slot area =
    let found = by (map_in g slot area) in
    (found.0, assembled_is g slot area (map_in g slot area) refl ∙ found.1)
  where
    by : (map : Option Map) → (rest : List ℕ) × (assembled_by g slot area map ≡ part (slot_at (body_bytes g) slot) (place g 1) area ++ rest)
    by None = ([], sym (append-nil _))
    by (Some m) = gathered_front g slot m.sides 65 area

-- so a number in its first four bytes is its version
pub assembled_version : (g : Geometry) (slot : ℕ) (area : List ℕ) → slot_at (body_bytes g) slot + 56 ≤ length area
    → version_of (assembled g slot area) ≡ little_number 4 (part (slot_at (body_bytes g) slot) 4 area)
unfolding version_of
assembled_version g slot area fits =
    let at = slot_at (body_bytes g) slot in
    let found = assembled_front g slot area in
    let front = place_front g in
    let long : length (part at (place g 1) area) ≡ place g 1 = length-take-le (place g 1) (drop at area) (omega (arith, length-drop at area, front, fits)) in
    ap (little_number 4) found.1
    ∙ little_from-append 4 (part at (place g 1) area) found.0 (omega (arith, long, front))
    ∙ little_from-take 0 4 (place g 1) (drop at area) (omega (arith, front))
    ∙ sym (little_from-take 0 4 4 (drop at area) (omega arith))

-- a pack without a map is too short
pub assembled_short : (g : Geometry) (slot : ℕ) (area : List ℕ) → slot_at (body_bytes g) slot + 56 ≤ length area → 56 < body_bytes g
    → map_in g slot area ≡ None → length (assembled g slot area) ≢ body_bytes g
assembled_short g slot area fits more none is =
    let at = slot_at (body_bytes g) slot in
    let front = place_front g in
    let long : length (part at (place g 1) area) ≡ place g 1 = length-take-le (place g 1) (drop at area) (omega (arith, length-drop at area, front, fits)) in
    let short : length (assembled g slot area) ≡ place g 1 = ap length (assembled_is g slot area None none) ∙ long in
    omega (arith, short, is, front, more)

-- a pack whose parts are a body's is that body
pub assembled_whole : (g : Geometry) (slot : ℕ) (area body : List ℕ) (map : Map) → length body ≡ body_bytes g → map_in g slot area ≡ Some map
    → ((k : ℕ) → k < 66 → piece g slot map.sides k area ≡ body_piece g k body) → assembled g slot area ≡ body
assembled_whole g slot area body map long is parts =
    let end = place_end g in
    assembled_is g slot area (Some map) is ∙ gathered_whole g slot map.sides 66 body area parts ∙ take_all (place g 66) body (omega (arith, long, end))
