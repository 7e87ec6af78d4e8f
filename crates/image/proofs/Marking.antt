-- Where a marked block stands.
use Rattle.std.proofs.Common.{◌≡◌, refl, ℕ, zero, suc, ◌<◌, ◌⊎◌, inl, inr, Bool, true, false, List, [], ◌∷◌, length, get_or, arith}
use Rattle.std.specs.Prelude.{All, if◌then◌else◌}
use Rattle.image.specs.Image.{SegmentInfo, no_segment}

pub true_or_false : (b : Bool) → (b ≡ true) ⊎ (b ≡ false)
true_or_false true = inl refl
true_or_false false = inr refl

within : (bits : List Bool) (o : ℕ) → get_or bits o false ≡ true → o < length bits
within [] o set = absurd cc
within (b ∷ bits) zero set = omega arith
within (b ∷ bits) (suc o) set = let h = within bits o set in omega arith

pub segment_within : (segments : List SegmentInfo) (s o n : ℕ) → All (λ (i : SegmentInfo). length i.bits ≡ n) segments
    → get_or (get_or segments s no_segment).bits o false ≡ true → o < n
segment_within [] s o n all set = absurd cc
segment_within (i ∷ segments) zero o n all set =
    let h = within i.bits o set in let e : length i.bits ≡ n = all 0 i (omega arith) in omega arith
segment_within (i ∷ segments) (suc s) o n all set = segment_within segments s o n (λ k d below. all (suc k) d (omega arith)) set

pub bit_of_mark : (b bit : Bool) → (if b then false else bit) ≡ true → (b ≡ false) × (bit ≡ true)
bit_of_mark true bit h = (cc, cc)
bit_of_mark false bit h = (refl, h)
