-- How many bytes are left for rows of one width.
use Rattle.std.proofs.Common.{◌≡◌, ◌∙◌, ap, ℕ, ◌+◌, ◌-◌, ◌*◌, ◌≤◌, ◌<◌, arith}
use Rattle.std.proofs.Math.Nat.{add-mul, one-mul, zero-mul}

-- one row is left and the rows after it
pub row_first : (count k w : ℕ) → k < count → (count - k) * w ≡ (count - (k + 1)) * w + w
row_first count k w below =
    let e : count - k ≡ (count - (k + 1)) + 1 = omega arith in
    ap (λ n. n * w) e ∙ add-mul (count - (k + 1)) 1 w ∙ ap (λ n. (count - (k + 1)) * w + n) (one-mul w)

pub row_less : (count k w left after : ℕ) → k < count → left ≡ (count - k) * w → after + w ≡ left → after ≡ (count - (k + 1)) * w
row_less count k w left after below is less = let e = row_first count k w below in omega arith

pub row_fits : (count k w left : ℕ) → k < count → left ≡ (count - k) * w → w ≤ left
row_fits count k w left below is = let e = row_first count k w below in omega arith

pub row_none : (count k w left : ℕ) → count ≤ k → left ≡ (count - k) * w → left ≡ 0
row_none count k w left all is = let e : count - k ≡ 0 = omega arith in is ∙ ap (λ n. n * w) e ∙ zero-mul w
