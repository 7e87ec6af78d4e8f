-- Laws of the definitions, for the laws of traits.
use Rattle.std.proofs.Common.{true, false, zero, suc, ◌≡◌, ℕ, ◌*◌, ◌/◌, ◌%◌, ◌<◌, ◌≤◌, List, Option, Some, None, refl, arith}
use Rattle.std.proofs.lemmas.Nat.{le-div}
use Rattle.std.proofs.lemmas.List.{get_or_past}
use Rattle.nodes.specs.Change.{Weighing, ticket_weight}
use Rattle.nodes.specs.Tree.{only_at_zero, find_in, find_below, ShapedIn, ShapedBelow, entry_at}

pub times_positive : (a b : ℕ) → 0 < a → 0 < b → 0 < a * b
times_positive a b h k = grind arith

pub nothing_at_zero : {L : Type 0} (i : ℕ) → only_at_zero {L = L} None i ≡ None
nothing_at_zero zero = refl
nothing_at_zero (suc i) = refl

pub nothing_past_zero : {L : Type 0} (s : Option L) (i : ℕ) → 1 ≤ i → only_at_zero s i ≡ None
nothing_past_zero s zero h = absurd (omega arith)
nothing_past_zero s (suc i) h = refl

pub nothing_past_in : {C L : Type 0} (find : Option C → ℕ → Option L) (Shaped : Option C → Type 0) (span : ℕ)
    → 0 < span → ((k : ℕ) → find None k ≡ None)
    → (count : ℕ) (slots : List (Option C)) (i : ℕ) → ShapedIn Shaped count slots → count * span ≤ i → find_in find span slots i ≡ None
nothing_past_in find Shaped span h none count slots i w p =
    let far : count ≤ i / span = le-div count i span h p in
    let past : entry_at slots (i / span) ≡ None = get_or_past slots (i / span) None (omega (arith, w.0)) in
    rw past (none (i % span))

pub nothing_past : {B C L : Type 0} (slots : B → List (Option C)) (find : Option C → ℕ → Option L) (Shaped : Option C → Type 0) (Counted : B → Type 0) (span : ℕ)
    → 0 < span → ((k : ℕ) → find None k ≡ None)
    → (e : ℕ) (s : Option B) (i : ℕ) → ShapedBelow slots Shaped Counted e s → e * span ≤ i → find_below slots find span s i ≡ None
nothing_past slots find Shaped Counted span h none e None i w p = refl
nothing_past slots find Shaped Counted span h none e (Some b) i w p = nothing_past_in find Shaped span h none e (slots b) i w.0 p

pub weightless : {L : Type 0} (w : Weighing L) (s : Option L) → ((t : L) → w.ticket t ≡ 0) → ticket_weight w s ≡ 0
weightless w None none = refl
weightless w (Some t) none = none t

pub no_leaf : false ≡ true → ⊥
no_leaf e = let no = e in cc
