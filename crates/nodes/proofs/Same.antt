-- A row of slots after a write of what stood there is the same row.
use Rattle.std.proofs.Common.{◌≡◌, ℕ, get_or, set, Option, ap, ◌∙◌}
use Rattle.std.proofs.lemmas.List.{set-get_or}
use Rattle.nodes.specs.Padded.{Slots, with_slot}

pub with_slot-same : {T : Type 0} (s : Slots T) (i : ℕ) (x y : Option T) → x ≡ y → y ≡ get_or s.items i y → with_slot s i x ≡ s
with_slot-same s i x y p e =
    let same : set s.items i x ≡ s.items = ap (λ z. set s.items i z) (p ∙ e) ∙ set-get_or s.items i y in
    λ k. record { items = same k }
