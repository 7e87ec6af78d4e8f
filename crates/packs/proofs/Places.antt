-- Rows are dealt to the parts in equal runs until none is left: so parts follow one another without a gap, some of them
-- empty, and the last one ends where the body does.
use Rattle.std.proofs.Common.{◌≡◌, refl, sym, ◌∙◌, ap, ⊎_elim, inl, inr, ℕ, zero, suc, ◌+◌, ◌-◌, ◌*◌, ◌/◌, ◌<◌, ◌≤◌, List, ◌++◌, length, take, drop, arith}
use Rattle.std.specs.Prelude.{min}
use Rattle.std.proofs.lemmas.Nat.{mul-le}
use Rattle.std.proofs.lemmas.Bool.{cases_eq}
use Rattle.std.proofs.lemmas.List.{take-append-drop, take-take, drop-take, drop-drop}
use Rattle.geometry.specs.declared.geometry.Geometry.{Geometry}
use Rattle.geometry.specs.Shape.{segment_blocks}
use Rattle.device.specs.Disk.{part}
use Rattle.packs.specs.Parts.{body_bytes, first_row, place}

pub place_zero : (g : Geometry) → place g 0 ≡ 0
unfolding place
place_zero g = refl

pub place_suc : (g : Geometry) (k : ℕ) → place g (suc k)
    ≡ 56 + 8 * first_row g.nodes k + first_row g.segments (k - 32) * (12 + segment_blocks g.shape / 8) + (k - 64) * (8 * g.segments * segment_blocks g.shape)
unfolding place
place_suc g k = refl

rows_rise : (rows p q : ℕ) → p ≤ q → first_row rows p ≤ first_row rows q
rows_rise rows p q le = let m = mul-le p ((rows + 31) / 32) q ((rows + 31) / 32) le (omega arith) in omega (arith, m)

rows_none : (rows : ℕ) → first_row rows 0 ≡ 0
rows_none rows = omega arith

rows_all : (rows a : ℕ) → rows ≤ 32 * a → min rows (33 * a) ≡ rows
rows_all rows a le = omega arith

rows_more : (rows a : ℕ) → rows ≤ 32 * a → min rows (65 * a) ≡ rows
rows_more rows a le = omega arith

sum_le : (a b c d e f : ℕ) → a ≤ d → b ≤ e → c ≤ f → 56 + 8 * a + b + c ≤ 56 + 8 * d + e + f
sum_le a b c d e f p q r = omega arith

pub place_next : (g : Geometry) (k : ℕ) → place g k ≤ place g (suc k)
place_next g zero = let z = place_zero g in omega (arith, z)
place_next g (suc k) =
    let row = 12 + segment_blocks g.shape / 8 in
    let all = 8 * g.segments * segment_blocks g.shape in
    let here = place_suc g k in
    let there = place_suc g (suc k) in
    let low = sum_le (first_row g.nodes k) (first_row g.segments (k - 32) * row) ((k - 64) * all) (first_row g.nodes (suc k)) (first_row g.segments (suc k - 32) * row) ((suc k - 64) * all)
    (rows_rise g.nodes k (suc k) (omega arith))
    (mul-le _ row _ row (rows_rise g.segments (k - 32) (suc k - 32) (omega arith)) (omega arith))
    (mul-le (k - 64) all (suc k - 64) all (omega arith) (omega arith)) in
    rw (here, there) low

pub place_rises : (g : Geometry) (j k : ℕ) → j ≤ k → place g j ≤ place g k
place_rises g j zero le = let e : j ≡ 0 = omega arith in rw e (omega arith)
place_rises g j (suc k) le = ⊎_elim
    (λ same. rw same (omega arith))
    (λ apart. let a = place_rises g j k (omega (arith, le, apart)) in let b = place_next g k in omega (arith, a, b))
    (cases_eq j (suc k))

ends : (n a c : ℕ) → 56 + 8 * n + a + 1 * c ≡ (60 + 8 * n + a + c) - 4
ends n a c = omega arith

-- the last part ends where the body does
pub place_end : (g : Geometry) → place g 66 ≡ body_bytes g
place_end g =
    let nodes : first_row g.nodes 65 ≡ g.nodes = rows_more g.nodes ((g.nodes + 31) / 32) (omega arith) in
    let segments : first_row g.segments 33 ≡ g.segments = rows_all g.segments ((g.segments + 31) / 32) (omega arith) in
    let row = 12 + segment_blocks g.shape / 8 in
    let all = 8 * g.segments * segment_blocks g.shape in
    place_suc g 65
    ∙ ap (λ x. 56 + 8 * x + first_row g.segments 33 * row + 1 * all) nodes
    ∙ ap (λ x. 56 + 8 * g.nodes + x * row + 1 * all) segments
    ∙ ends g.nodes (g.segments * row) all

pub place_within : (g : Geometry) (k : ℕ) → k ≤ 66 → place g k ≤ body_bytes g
place_within g k le = let a = place_rises g k 66 le in let b = place_end g in omega (arith, a, b)

-- header and logs
pub place_front : (g : Geometry) → place g 1 ≡ 56
place_front g =
    place_suc g 0
    ∙ ap (λ x. 56 + 8 * x + first_row g.segments 0 * (12 + segment_blocks g.shape / 8) + 0 * (8 * g.segments * segment_blocks g.shape)) (rows_none g.nodes)
    ∙ ap (λ x. 56 + 8 * 0 + x * (12 + segment_blocks g.shape / 8) + 0 * (8 * g.segments * segment_blocks g.shape)) (rows_none g.segments)
    ∙ nothing (12 + segment_blocks g.shape / 8) (8 * g.segments * segment_blocks g.shape)
  where
    nothing : (a b : ℕ) → 56 + 8 * 0 + 0 * a + 0 * b ≡ 56
    nothing a b = omega arith

-- a list up to a place, and up to a later one
pub take-plus : (n m : ℕ) (xs : List ℕ) → take (n + m) xs ≡ take n xs ++ take m (drop n xs)
take-plus n m xs =
    sym (take-append-drop n (take (n + m) xs))
    ∙ ap (λ l. l ++ drop n (take (n + m) xs)) (take-take n (n + m) xs (omega arith))
    ∙ ap (λ l. take n xs ++ l) (drop-take n m xs)

-- two neighbouring ranges are one
pub part_joined : (at n m : ℕ) (area first rest : List ℕ) → part at n area ≡ first → part (at + n) m area ≡ rest → part at (n + m) area ≡ first ++ rest
part_joined at n m area first rest is is' =
    take-plus n m (drop at area) ∙ ap (λ l. l ++ take m (drop n (drop at area))) is ∙ ap (λ l. first ++ take m l) (drop-drop n at area) ∙ ap (λ l. first ++ l) is'
