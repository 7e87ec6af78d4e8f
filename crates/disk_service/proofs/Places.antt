-- Two blocks never share a place.
use Rattle.std.proofs.Common.{◌≡◌, ◌∙◌, ◌+◌, ◌*◌, ◌/◌, ◌%◌, ◌<◌, ℕ, List, ap₂, sym, length, inl, inr}
use Rattle.std.proofs.lemmas.Bool.{cases_order}
use Rattle.std.proofs.lemmas.Nat.{div-add-mod', mod_below}
use Rattle.std.specs.Prelude.{slice_index}
use Rattle.disk_service.specs.Layout.{AreDistinct}

-- where no number stands twice, a number tells its place
pub same_index : (numbers : List ℕ) (i j : ℕ) → AreDistinct numbers → i < length numbers → j < length numbers
    → slice_index numbers i ≡ slice_index numbers j → i ≡ j
same_index numbers i j distinct under beneath same =
    elim (cases_order i j) [
      | inl equal ↦ equal
      | inr other ↦ elim other [
        | inl before ↦ absurd (distinct i j before beneath same)
        | inr behind ↦ absurd (distinct j i behind under (sym same))
      ]
    ]

-- quotient and rest tell the number
pub same_whole : (one other k : ℕ) → one / k ≡ other / k → one % k ≡ other % k → one ≡ other
same_whole one other k quotient rest =
    sym (div-add-mod' one k) ∙ ap₂ (λ (a b : ℕ). a * k + b) quotient rest ∙ div-add-mod' other k

pub same_block : (numbers : List ℕ) (one other : ℕ) → 0 < length numbers → AreDistinct numbers
    → slice_index numbers (one % length numbers) ≡ slice_index numbers (other % length numbers)
    → one / length numbers ≡ other / length numbers → one ≡ other
same_block numbers one other some distinct file index =
    same_whole one other (length numbers) index
    (same_index numbers (one % length numbers) (other % length numbers) distinct (mod_below one (length numbers) some) (mod_below other (length numbers) some) file)
