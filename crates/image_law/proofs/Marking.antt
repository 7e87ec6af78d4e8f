-- Segments have their blocks at addresses that follow one another, so place and segment are quotient and remainder:
-- each mark of a segment is one marked address with its owner.
use Rattle.std.proofs.Common.{◌≡◌, refl, sym, ◌∙◌, ap, ℕ, zero, suc, ◌+◌, ◌-◌, ◌*◌, ◌/◌, ◌%◌, ◌<◌, ◌≤◌, inl, inr, true, false, List, [], ◌∷◌, ◌++◌, map, length, get_or, suc-mul, arith}
use Rattle.std.specs.Prelude.{Option, Some, None}
use Rattle.std.specs.List.{flat_map}
use Rattle.std.proofs.Math.Nat.{mul-add-div_right, mul-add-mod_self_right, div-eq_of_lt, mod-eq_of_lt, div-lt_iff_lt-mul, le-div_iff_mul-le, mod-lt, div-add-mod'}
use Rattle.std.proofs.lemmas.Bool.{ne_eqb}
use Rattle.std.proofs.lemmas.Bool.Decides.{leb_tells}
use Rattle.std.proofs.lemmas.List.{get_or-map, get_or_past, get_or_append_left, get_or-append_right, length-append, length-map}
use Rattle.geometry.specs.declared.geometry.Geometry.{Geometry}
use Rattle.geometry.specs.declared.owner.Owner.{Owner}
use Rattle.geometry.specs.declared.owner.Mark.{Mark}
use Rattle.geometry.specs.declared.owner.Summary.{Summary}
use Rattle.geometry.specs.Shape.{segment_blocks}
use Rattle.geometry.specs.Address.{address_of}
use Rattle.geometry.specs.Area.{block_count}
use Rattle.image.specs.Image.{Image, SegmentInfo, no_summary, no_segment, info_of, is_marked, summary_at}
use Rattle.image.proofs.Shapes.{is_shape}
use Rattle.geometry.specs.Weights.{weigh}
use Rattle.image_law.specs.Items.{sum_below}
use Rattle.image_law.specs.Parts.{SegmentState, no_state, owner_at, is_named, summary_in, marks_from, info, summaries_in, Parts, segment_at, PartsLaw, IsImageOf}
use Rattle.image_law.proofs.Weighing.{sum_same, sum_front, weigh_by_index, sum_of_sums}

-- what an address weighs where somebody names it
abbrev pub owned : (Mark → ℕ) → ℕ → Option Owner → ℕ
owned h address None = 0
owned h address (Some owner) = h (record { address = address; owner = owner })

pub weigh-marks_from : (h : Mark → ℕ) (a : ℕ) (xs : List (Option Owner)) → weigh h (marks_from a xs) ≡ sum_below (length xs) (λ o. owned h (a + o) (get_or xs o None))
weigh-marks_from h a [] = refl
weigh-marks_from h a (None ∷ xs) =
    let there = weigh-marks_from h (suc a) xs in
    let front = sum_front (length xs) (λ o. owned h (a + o) (get_or (None ∷ xs) o None)) in
    let same = sum_same (length xs) (λ o. owned h (suc a + o) (get_or xs o None)) (λ o. owned h (a + suc o) (get_or xs o None))
    (λ o low. let e : suc a + o ≡ a + suc o = omega arith in ap (λ i. owned h i (get_or xs o None)) e) in
    omega arith
weigh-marks_from h a (Some owner ∷ xs) =
    let there = weigh-marks_from h (suc a) xs in
    let front = sum_front (length xs) (λ o. owned h (a + o) (get_or (Some owner ∷ xs) o None)) in
    let same = sum_same (length xs) (λ o. owned h (suc a + o) (get_or xs o None)) (λ o. owned h (a + suc o) (get_or xs o None))
    (λ o low. let e : suc a + o ≡ a + suc o = omega arith in ap (λ i. owned h i (get_or xs o None)) e) in
    let e : a + 0 ≡ a = omega arith in
    let here = ap (λ i. h (record { address = i; owner = owner })) e in
    omega arith

quotient : (k n o : ℕ) → o < n → (k * n + o) / n ≡ k
quotient k n o low =
    let none : o / n ≡ 0 = div-eq_of_lt low in
    let sum : (k * n + o) / n ≡ k + o / n = mul-add-div_right (omega arith) k o in
    omega arith

remainder : (k n o : ℕ) → o < n → (k * n + o) % n ≡ o
remainder k n o low = mul-add-mod_self_right k n o ∙ mod-eq_of_lt low

chunk : (n : ℕ) (xs : List SegmentState) → ((k : ℕ) → k < length xs → length (summaries_in (get_or xs k no_state)) ≡ n)
    → (k o : ℕ) → k < length xs → o < n → get_or (flat_map summaries_in xs) (k * n + o) no_summary ≡ get_or (summaries_in (get_or xs k no_state)) o no_summary
chunk n [] sized k o within low = absurd (omega arith)
chunk n (x ∷ xs) sized zero o within low =
    let here : length (summaries_in x) ≡ n = sized 0 (omega arith) in
    let e : 0 * n + o ≡ o = omega arith in
    ap (λ i. get_or (summaries_in x ++ flat_map summaries_in xs) i no_summary) e
    ∙ get_or_append_left (summaries_in x) (flat_map summaries_in xs) no_summary o (omega arith)
chunk n (x ∷ xs) sized (suc k) o within low =
    let here : length (summaries_in x) ≡ n = sized 0 (omega arith) in
    let e : suc k * n + o - n ≡ k * n + o = omega (arith, suc-mul k n) in
    get_or-append_right (summaries_in x) (flat_map summaries_in xs) n (suc k * n + o) no_summary here (omega (arith, suc-mul k n))
    ∙ ap (λ i. get_or (flat_map summaries_in xs) i no_summary) e
    ∙ chunk n xs (λ j low_j. sized (suc j) (omega arith)) k o (omega arith) low

length-chunks : (n : ℕ) (xs : List SegmentState) → ((k : ℕ) → k < length xs → length (summaries_in (get_or xs k no_state)) ≡ n)
    → length (flat_map summaries_in xs) ≡ length xs * n
length-chunks n [] sized = omega arith
length-chunks n (x ∷ xs) sized =
    let here : length (summaries_in x) ≡ n = sized 0 (omega arith) in
    let there = length-chunks n xs (λ j low. sized (suc j) (omega arith)) in
    let both = length-append (summaries_in x) (flat_map summaries_in xs) in
    let m = suc-mul (length xs) n in omega arith

module _ (geometry : Geometry) (parts : Parts) (image : Image) (law : PartsLaw geometry parts) (is : IsImageOf geometry parts image) where
  abbrev n : ℕ
  n = segment_blocks geometry.shape

  -- who names the block at the address that follows a number
  abbrev pub owner_after : ℕ → Option Owner
  owner_after k = owner_at (segment_at parts (k / n)) (k % n)

  sized : (k : ℕ) → k < geometry.segments → length (segment_at parts k).summaries ≡ n
  sized k low = (law.states k low).sized

  sized_in : (k : ℕ) → k < length parts.segments → length (summaries_in (segment_at parts k)) ≡ n
  sized_in k low = length-map (segment_at parts k).summaries summary_in ∙ sized k (let l = law.segments in omega arith)

  pub summaries_sized : length image.summaries ≡ block_count geometry
  summaries_sized = ap length is.summaries ∙ length-chunks n parts.segments sized_in ∙ ap (λ (s : ℕ). s * n) law.segments

  pub info_there : (k : ℕ) → k < geometry.segments → info_of image k ≡ info (segment_at parts k)
  info_there k low =
      ap (λ (xs : List SegmentInfo). get_or xs k no_segment) is.segments
      ∙ get_or-map info parts.segments k no_state no_segment (let l = law.segments in omega arith)

  pub marked_at : (k o : ℕ) → k < geometry.segments → o < n → is_marked geometry image (suc (k * n + o)) ≡ is_named (owner_at (segment_at parts k) o)
  marked_at k o low under =
      let one : suc (k * n + o) - 1 ≡ k * n + o = omega arith in
      let f = info_there k low in
      let bit : get_or (map is_named (segment_at parts k).summaries) o false ≡ is_named (owner_at (segment_at parts k) o)
      = get_or-map is_named (segment_at parts k).summaries o None false (let l = sized k low in omega arith) in
      rw (ne_eqb (suc (k * n + o)) 0 (λ z. cc), one, quotient k n o under, remainder k n o under, f) bit

  summary_there : (k o : ℕ) → k < geometry.segments → o < n → summary_at image (suc (k * n + o)) ≡ summary_in (owner_at (segment_at parts k) o)
  summary_there k o low under =
      let one : suc (k * n + o) - 1 ≡ k * n + o = omega arith in
      let there : get_or image.summaries (k * n + o) no_summary ≡ summary_in (owner_at (segment_at parts k) o)
      = ap (λ (xs : List Summary). get_or xs (k * n + o) no_summary) is.summaries
      ∙ chunk n parts.segments sized_in k o (let l = law.segments in omega arith) under
      ∙ get_or-map summary_in (segment_at parts k).summaries o None no_summary (let l = sized k low in omega arith) in
      rw (ne_eqb (suc (k * n + o)) 0 (λ z. cc), one) there

  pub all_marks : (h : Mark → ℕ) → weigh (λ (s : SegmentState). weigh h s.marks) parts.segments ≡ sum_below (block_count geometry) (λ k. owned h (suc k) (owner_after k))
  all_marks h =
      weigh_by_index (λ (s : SegmentState). weigh h s.marks) parts.segments no_state
      ∙ ap (λ m. sum_below m (λ k. weigh h (segment_at parts k).marks)) law.segments
      ∙ sum_same geometry.segments (λ k. weigh h (segment_at parts k).marks) (λ k. sum_below n (λ o. owned h (suc (k * n + o)) (owner_after (k * n + o))))
      (λ k low. (law.states k low).marks h ∙ weigh-marks_from h (address_of geometry.shape (segment_at parts k).number 0) (segment_at parts k).summaries
      ∙ ap (λ m. sum_below m (λ o. owned h (address_of geometry.shape (segment_at parts k).number 0 + o) (owner_at (segment_at parts k) o))) (sized k low)
      ∙ sum_same n _ (λ o. owned h (suc (k * n + o)) (owner_after (k * n + o))) (λ o under. each k o low under))
      ∙ sum_of_sums geometry.segments n (λ k. owned h (suc k) (owner_after k))
    where
      each : (k o : ℕ) → k < geometry.segments → o < n
          → owned h (address_of geometry.shape (segment_at parts k).number 0 + o) (owner_at (segment_at parts k) o) ≡ owned h (suc (k * n + o)) (owner_after (k * n + o))
      each k o low under =
          let number : (segment_at parts k).number ≡ k = law.numbers k low in
          let here : address_of geometry.shape (segment_at parts k).number 0 + o ≡ suc (k * n + o)
          = ap (λ (m : ℕ). address_of geometry.shape m 0 + o) number ∙ omega arith in
          let q = quotient k n o under in
          let r = remainder k n o under in
          λ i. owned h (here i) (owner_at (segment_at parts (sym q i)) (sym r i))

  positive : 0 < n
  positive = (is_shape geometry.shape).blocks

  place : (a : ℕ) → a < block_count geometry → (k : ℕ) × (o : ℕ) × (k < geometry.segments) × (o < n) × (a ≡ k * n + o) × (owner_after a ≡ owner_at (segment_at parts k) o)
  place a low =
      let q : a / n < geometry.segments = (div-lt_iff_lt-mul positive).1 low in
      let r : a % n < n = mod-lt a positive in
      let e : a / n * n + a % n ≡ a = div-add-mod' a n in
      (a / n, a % n, q, r, sym e, refl)

  -- an address of the main area is marked where somebody names it, and its summary tells who
  pub marked_owner : (k : ℕ) → k < block_count geometry → is_marked geometry image (suc k) ≡ is_named (owner_after k)
  marked_owner k low =
      let p = place k low in
      ap (λ (x : ℕ). is_marked geometry image (suc x)) p.4 ∙ marked_at p.0 p.1 p.2 p.3 ∙ ap is_named (sym p.5)

  pub summary_owner : (k : ℕ) → k < block_count geometry → summary_at image (suc k) ≡ summary_in (owner_after k)
  summary_owner k low =
      let p = place k low in
      ap (λ (x : ℕ). summary_at image (suc x)) p.4 ∙ summary_there p.0 p.1 p.2 p.3 ∙ ap summary_in (sym p.5)

  -- an address that is marked lies in the main area
  pub marked_low : (a : ℕ) → is_marked geometry image a ≡ true → (k : ℕ) × (k < block_count geometry) × (a ≡ suc k)
  marked_low zero marked = absurd cc
  marked_low (suc a) marked =
      elim (leb_tells (suc a) (block_count geometry)) [
        | inl (t, low) ↦ (a, low, refl)
        | inr (t, high) ↦
            let one : suc a - 1 ≡ a = omega arith in
            let past : geometry.segments ≤ a / n = (le-div_iff_mul-le positive).1 (omega arith) in
            let long : length image.segments ≡ geometry.segments = ap length is.segments ∙ length-map parts.segments info ∙ law.segments in
            let none : info_of image (a / n) ≡ no_segment = get_or_past image.segments (a / n) no_segment (omega arith) in
            let clear : is_marked geometry image (suc a) ≡ false = rw (ne_eqb (suc a) 0 (λ z. cc), one, none) refl in
            absurd cc
      ]

  not_named : (o : Option Owner) → is_named o ≡ false → summary_in o ≡ no_summary
  not_named None e = refl
  not_named (Some owner) e = absurd cc

  -- an address that is not marked has no summary
  pub unmarked : (a : ℕ) → is_marked geometry image a ≡ false → summary_at image a ≡ no_summary
  unmarked zero clear = refl
  unmarked (suc a) clear =
      elim (leb_tells (suc a) (block_count geometry)) [
        | inl (t, low) ↦ summary_owner a low ∙ not_named (owner_after a) (sym (marked_owner a low) ∙ clear)
        | inr (t, high) ↦
            let one : suc a - 1 ≡ a = omega arith in
            let past : get_or image.summaries a no_summary ≡ no_summary = get_or_past image.summaries a no_summary (let l = summaries_sized in omega arith) in
            rw (ne_eqb (suc a) 0 (λ z. cc), one) past
      ]
