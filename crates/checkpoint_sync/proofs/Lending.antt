-- One more pass is lent.
use Rattle.std.proofs.Common.{◌≡◌, ℕ, suc, ◌<◌, List, [], ◌∷◌, map, take, length, get_or, reverse, ap, ◌∙◌}
use Rattle.std.proofs.Math.Seq.{take-suc}
use Rattle.std.proofs.lemmas.List.{reverse-append, map-append}

pub one_more : {A C : Type 0} (f : A → C) (xs : List A) (k : ℕ) (d : A) → k < length xs → reverse (map f (take (suc k) xs)) ≡ f (get_or xs k d) ∷ reverse (map f (take k xs))
one_more f xs k d low =
    ap (λ ys. reverse (map f ys)) (take-suc xs k d low)
    ∙ (ap reverse (map-append f (take k xs) (get_or xs k d ∷ [])) ∙ reverse-append (map f (take k xs)) (f (get_or xs k d) ∷ []))
