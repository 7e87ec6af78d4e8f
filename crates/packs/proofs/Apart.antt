-- Parts, maps and footers lie in ranges of the area that don't overlap, in either slot: so a write to one of them, torn
-- or not, leaves each other one as it was.
use Rattle.std.proofs.Common.{◌≡◌, refl, sym, ◌∙◌, ap, subst, ◌⊎◌, inl, inr, ⊎_elim, ℕ, zero, suc, ◌+◌, ◌-◌, ◌*◌, ◌<◌, ◌≤◌, Bool, true, false, List, length, take, drop, arith}
use Rattle.std.proofs.lemmas.Bool.{cases_eq, cases_lt}
use Rattle.byteorder.specs.Endian.{little_number}
use Rattle.device.specs.Disk.{part, Torn}
use Rattle.device.proofs.Ranges.{torn_before, torn_after, torn_front}
use Rattle.geometry.specs.declared.geometry.Geometry.{Geometry}
use Rattle.packs.specs.Parts.{body_bytes, slot_at, place, side, lies, piece, map_at, map_bytes}
use Rattle.packs.specs.Area.{footer_at, area_bytes}
use Rattle.packs.proofs.Places.{place_next, place_rises, place_within}

-- two ranges of bodies, each in a slot: they are apart where the slots are, or where the one ends before the other begins
ranges_apart : (len a b p p' q q' : ℕ) → a ≤ 1 → b ≤ 1 → p ≤ p' → p' ≤ len → q ≤ q' → q' ≤ len → (a ≡ b → (p' ≤ q) ⊎ (q' ≤ p))
    → (slot_at len a + p + (p' - p) ≤ slot_at len b + q) ⊎ (slot_at len b + q + (q' - q) ≤ slot_at len a + p)
ranges_apart len zero zero p p' q q' a b c d e f order = ⊎_elim (λ less. inl (omega (arith, less, c, e))) (λ more. inr (omega (arith, more, c, e))) (order refl)
ranges_apart len zero (suc zero) p p' q q' a b c d e f order = inl (omega (arith, c, d, e, f))
ranges_apart len (suc zero) zero p p' q q' a b c d e f order = inr (omega (arith, c, d, e, f))
ranges_apart len (suc zero) (suc zero) p p' q q' a b c d e f order = ⊎_elim (λ less. inl (omega (arith, less, c, e))) (λ more. inr (omega (arith, more, c, e))) (order refl)
ranges_apart len (suc (suc a)) b p p' q q' le le' c d e f order = absurd (omega (arith, le))
ranges_apart len zero (suc (suc b)) p p' q q' le le' c d e f order = absurd (omega (arith, le'))
ranges_apart len (suc zero) (suc (suc b)) p p' q q' le le' c d e f order = absurd (omega (arith, le'))

module _ (g : Geometry) where
  abbrev len : ℕ
  len = body_bytes g

  -- the bytes of a part in a slot
  abbrev pub bytes_in : ℕ → ℕ → List ℕ → List ℕ
  bytes_in slot k area = part (slot_at len slot + place g k) (place g (suc k) - place g k) area

  ends_in : (l b p p' : ℕ) → b ≤ 1 → p ≤ p' → p' ≤ l → slot_at l b + p + (p' - p) ≤ area_bytes l
  ends_in l zero p p' w x y = omega (arith, x, y)
  ends_in l (suc zero) p p' w x y = omega (arith, x, y)
  ends_in l (suc (suc b)) p p' w x y = absurd (omega (arith, w))

  -- each part ends within the area
  pub part_fits : (slot k : ℕ) → slot ≤ 1 → k < 66 → slot_at len slot + place g k + (place g (suc k) - place g k) ≤ area_bytes len
  part_fits slot k le below = ends_in len slot (place g k) (place g (suc k)) le (place_next g k) (place_within g (suc k) (omega (arith, below)))

  -- one part comes before another
  order : (j k : ℕ) → (j ≡ k → ⊥) → (place g (suc j) ≤ place g k) ⊎ (place g (suc k) ≤ place g j)
  order j k apart = ⊎_elim (λ less. inl (place_rises g (suc j) k (omega (arith, less)))) (λ more. inr (place_rises g (suc k) j (omega (arith, more, apart)))) (cases_lt j k)

  -- a write to a part leaves the others
  pub piece_piece : (a b j k : ℕ) (c d : List ℕ) → a ≤ 1 → b ≤ 1 → j < 66 → k < 66 → (a ≡ b → j ≡ k → ⊥)
      → Torn (slot_at len b + place g k) (place g (suc k) - place g k) c d → bytes_in a j d ≡ bytes_in a j c
  piece_piece a b j k c d le le' below below' apart torn = ⊎_elim
      (λ before. torn_before _ _ (slot_at len a + place g j) (place g (suc j) - place g j) c d before torn)
      (λ after. torn_after _ _ (slot_at len a + place g j) (place g (suc j) - place g j) c d after torn)
      (ranges_apart len a b (place g j) (place g (suc j)) (place g k) (place g (suc k)) le le' (place_next g j) (place_within g (suc j) (omega (arith, below))) (place_next g k) (place_within g (suc k) (omega (arith, below')))
      (λ same. order j k (apart same)))

  piece_before_footer : (a b p p' l : ℕ) → a ≤ 1 → b ≤ 1 → p ≤ p' → p' ≤ l → (footer_at l a + 4 ≤ slot_at l b + p) ⊎ (slot_at l b + p + (p' - p) ≤ footer_at l a)
  piece_before_footer zero zero p p' l le le' c d = inr (omega (arith, c, d))
  piece_before_footer zero (suc zero) p p' l le le' c d = inl (omega (arith, c, d))
  piece_before_footer (suc zero) zero p p' l le le' c d = inr (omega (arith, c, d))
  piece_before_footer (suc zero) (suc zero) p p' l le le' c d = inr (omega (arith, c, d))
  piece_before_footer (suc (suc a)) b p p' l le le' c d = absurd (omega (arith, le))
  piece_before_footer zero (suc (suc b)) p p' l le le' c d = absurd (omega (arith, le'))
  piece_before_footer (suc zero) (suc (suc b)) p p' l le le' c d = absurd (omega (arith, le'))

  -- and the footers
  pub piece_footer : (a b k : ℕ) (c d : List ℕ) → a ≤ 1 → b ≤ 1 → k < 66 → Torn (slot_at len b + place g k) (place g (suc k) - place g k) c d
      → part (footer_at len a) 4 d ≡ part (footer_at len a) 4 c
  piece_footer a b k c d le le' below torn = ⊎_elim
      (λ before. torn_before _ _ (footer_at len a) 4 c d before torn) (λ after. torn_after _ _ (footer_at len a) 4 c d after torn)
      (piece_before_footer a b (place g k) (place g (suc k)) len le le' (place_next g k) (place_within g (suc k) (omega (arith, below))))

  map_before : (a l b p : ℕ) → a ≤ 1 → map_at a + 16 ≤ slot_at l b + p
  map_before a l b p le = omega (arith, le)

  -- and the maps
  pub piece_map : (a b k : ℕ) (c d : List ℕ) → a ≤ 1 → Torn (slot_at len b + place g k) (place g (suc k) - place g k) c d → map_bytes a d ≡ map_bytes a c
  piece_map a b k c d le torn = torn_before _ _ (map_at a) 16 c d (map_before a len b (place g k) le) torn

  -- a write to a footer leaves each part
  pub footer_piece : (a b j : ℕ) (c d : List ℕ) → a ≤ 1 → b ≤ 1 → j < 66 → Torn (footer_at len b) 4 c d → bytes_in a j d ≡ bytes_in a j c
  footer_piece a b j c d le le' below torn = ⊎_elim
      (λ after. torn_after _ _ (slot_at len a + place g j) (place g (suc j) - place g j) c d after torn)
      (λ before. torn_before _ _ (slot_at len a + place g j) (place g (suc j) - place g j) c d before torn)
      (piece_before_footer b a (place g j) (place g (suc j)) len le' le (place_next g j) (place_within g (suc j) (omega (arith, below))))

  footer_behind : (a l b : ℕ) → a ≤ 1 → map_at a + 16 ≤ footer_at l b
  footer_behind a l b le = omega (arith, le)

  pub footer_map : (a b : ℕ) (c d : List ℕ) → a ≤ 1 → Torn (footer_at len b) 4 c d → map_bytes a d ≡ map_bytes a c
  footer_map a b c d le torn = torn_before _ _ (map_at a) 16 c d (footer_behind a len b le) torn

  footers_apart : (a b l : ℕ) → a ≤ 1 → b ≤ 1 → (a ≡ b → ⊥) → (footer_at l a + 4 ≤ footer_at l b) ⊎ (footer_at l b + 4 ≤ footer_at l a)
  footers_apart zero zero l le le' apart = absurd (apart refl)
  footers_apart zero (suc zero) l le le' apart = inl (omega arith)
  footers_apart (suc zero) zero l le le' apart = inr (omega arith)
  footers_apart (suc zero) (suc zero) l le le' apart = absurd (apart refl)
  footers_apart (suc (suc a)) b l le le' apart = absurd (omega (arith, le))
  footers_apart zero (suc (suc b)) l le le' apart = absurd (omega (arith, le'))
  footers_apart (suc zero) (suc (suc b)) l le le' apart = absurd (omega (arith, le'))

  pub footer_footer : (a b : ℕ) (c d : List ℕ) → a ≤ 1 → b ≤ 1 → (a ≡ b → ⊥) → Torn (footer_at len b) 4 c d → part (footer_at len a) 4 d ≡ part (footer_at len a) 4 c
  footer_footer a b c d le le' apart torn = ⊎_elim
      (λ before. torn_before _ _ (footer_at len a) 4 c d before torn) (λ after. torn_after _ _ (footer_at len a) 4 c d after torn)
      (footers_apart a b len le le' apart)

  map_slot : (b l a p : ℕ) → b ≤ 1 → map_at b + 16 ≤ slot_at l a + p
  map_slot b l a p le = omega (arith, le)

  -- a write to a map leaves each part, each footer, and the other map
  pub map_piece : (a b j : ℕ) (c d : List ℕ) → b ≤ 1 → Torn (map_at b) 16 c d → bytes_in a j d ≡ bytes_in a j c
  map_piece a b j c d le torn = torn_after _ _ (slot_at len a + place g j) (place g (suc j) - place g j) c d (map_slot b len a (place g j) le) torn

  pub map_footer : (a b : ℕ) (c d : List ℕ) → b ≤ 1 → Torn (map_at b) 16 c d → part (footer_at len a) 4 d ≡ part (footer_at len a) 4 c
  map_footer a b c d le torn = torn_after _ _ (footer_at len a) 4 c d (footer_behind b len a le) torn

maps_apart : (a b : ℕ) → a ≤ 1 → b ≤ 1 → (a ≡ b → ⊥) → (map_at a + 16 ≤ map_at b) ⊎ (map_at b + 16 ≤ map_at a)
maps_apart a b le le' apart = ⊎_elim (λ less. inl (omega (arith, less))) (λ more. inr (omega (arith, more, apart))) (cases_lt a b)

pub map_map : (a b : ℕ) (c d : List ℕ) → a ≤ 1 → b ≤ 1 → (a ≡ b → ⊥) → Torn (map_at b) 16 c d → map_bytes a d ≡ map_bytes a c
map_map a b c d le le' apart torn = ⊎_elim
    (λ before. torn_before _ _ (map_at a) 16 c d before torn) (λ after. torn_after _ _ (map_at a) 16 c d after torn) (maps_apart a b le le' apart)
