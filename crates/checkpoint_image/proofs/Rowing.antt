-- Only a node of its own number changes a row: where a number has one node at most, that node is what its row holds in
-- the end.
use Rattle.std.proofs.Common.{◌≡◌, ◌≢◌, refl, ◌∙◌, ap, ℕ, suc, ◌-◌, ◌<◌, ◌≤◌, ◌==◌, inl, inr, Bool, true, false, List, [], ◌∷◌, length, set, get_or, if◌then◌else◌, eq-eqb, eqb-true, arith}
use Rattle.std.proofs.lemmas.List.{length-set, get_or-set_same, get_or-set_other}
use Rattle.image.specs.Node.{Node}
use Rattle.geometry.specs.Weights.{weigh}
use Rattle.image_law.specs.Items.{Among}
use Rattle.checkpoint_image.specs.Taken.{put_rows}

-- each of these nodes has a row of its number
abbrev pub AreNumbered : ℕ → List Node → Type 0
AreNumbered count nodes = (n : Node) → Among n nodes → (1 ≤ n.nid) × (n.nid ≤ count)

abbrev pub of_number : ℕ → Node → ℕ
of_number nid n = if n.nid == nid then 1 else 0

pub counts_one : (nid : ℕ) (n : Node) → n.nid ≡ nid → of_number nid n ≡ 1
counts_one nid n is = rw (eq-eqb n.nid nid is) refl

pub is_counted : (nid : ℕ) (n : Node) → 0 < of_number nid n → n.nid ≡ nid
is_counted nid n some = go (n.nid == nid) refl some
  where
    go : (b : Bool) → (n.nid == nid) ≡ b → 0 < (if b then 1 else 0) → n.nid ≡ nid
    go true e s = eqb-true n.nid nid e
    go false e s = absurd (omega arith)

-- a row whose number none of them has stays
pub put_other : (rows nodes : List Node) (count j : ℕ) (d : Node) → AreNumbered count nodes → weigh (of_number (suc j)) nodes ≡ 0
    → get_or (put_rows rows nodes) j d ≡ get_or rows j d
put_other rows [] count j d numbered none = refl
put_other rows (n ∷ nodes) count j d numbered none =
    let low = (numbered n (inl refl)).0 in
    let apart : j ≢ n.nid - 1 = λ e. (let one = counts_one (suc j) n (omega arith) in omega arith) in
    put_other (set rows (n.nid - 1) n) nodes count j d (λ m a. numbered m (inr a)) (omega arith)
    ∙ get_or-set_other rows (n.nid - 1) j n d apart

-- and each that has a number of its own is found
pub put_found : (rows nodes : List Node) (n d : Node) → AreNumbered (length rows) nodes → weigh (of_number n.nid) nodes ≤ 1 → Among n nodes
    → get_or (put_rows rows nodes) (n.nid - 1) d ≡ n
put_found rows [] n d numbered few m = absurd m
put_found rows (x ∷ nodes) n d numbered few (inl e) =
    let range = numbered x (inl refl) in
    let one = counts_one n.nid x (ap (λ (y : Node). y.nid) e) in
    let same : x.nid ≡ n.nid = ap (λ (y : Node). y.nid) e in
    let next : suc (n.nid - 1) ≡ n.nid = omega arith in
    let none : weigh (of_number (suc (n.nid - 1))) nodes ≡ 0 = ap (λ (k : ℕ). weigh (of_number k) nodes) next ∙ omega arith in
    put_other (set rows (x.nid - 1) x) nodes (length rows) (n.nid - 1) d (λ y a. numbered y (inr a)) none
    ∙ ap (λ (k : ℕ). get_or (set rows (k - 1) x) (n.nid - 1) d) same
    ∙ get_or-set_same rows (n.nid - 1) x d (omega arith)
    ∙ e
put_found rows (x ∷ nodes) n d numbered few (inr m) =
    let l = length-set rows (x.nid - 1) x in
    put_found (set rows (x.nid - 1) x) nodes n d (λ y a. (let r = numbered y (inr a) in (r.0, omega arith))) (omega arith) m
