-- A stock of which nothing is left weighs nothing.
use Rattle.std.proofs.Common.{◌≡◌, ℕ, List, [], ◌∷◌, Option, None, Some, refl, arith}
use Rattle.geometry.specs.Weights.{weigh}
use Rattle.rights_books.specs.declared.claim.TakenNumber.{TakenNumber}
use Rattle.mount_blocks.specs.TreeGoods.{Goods, in_place, goods_weight}

none_weighs : {A : Type 0} (h : A → ℕ) (xs : List (Option A)) → weigh (in_place (λ _. 1)) xs ≡ 0 → weigh (in_place h) xs ≡ 0
none_weighs h [] none = refl
none_weighs h (None ∷ xs) none = let rest = none_weighs h xs (omega arith) in omega arith
none_weighs h (Some x ∷ xs) none = absurd (omega arith)

pub nothing_left : {L : Type 0} (ticket : L → ℕ) (token : TakenNumber → ℕ) (goods : Goods L) → goods_weight (λ _. 1) (λ _. 1) goods ≡ 0 → goods_weight ticket token goods ≡ 0
nothing_left ticket token goods none =
    let one = none_weighs ticket goods.tickets (omega arith) in
    let two = none_weighs token goods.tokens (omega arith) in
    omega arith
