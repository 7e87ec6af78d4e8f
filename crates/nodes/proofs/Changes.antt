-- One entry is set, so the node weighs what it did, less the old entry and with the new: its own block is another only
-- where a number in it changed, and then it is marked.
use Rattle.std.proofs.Common.{◌≡◌, ℕ, suc, ◌+◌, ◌<◌, ◌||◌, Bool, true, false, not, List, [], ◌∷◌, length, get_or, set, map, Option, Some, None, is_some, is_none, refl, sym, ap, ◌∙◌, inl, inr, arith}
use Rattle.std.proofs.Math.Seq.{map-set_same}
use Rattle.std.proofs.lemmas.Bool.{cases_lt}
use Rattle.std.proofs.lemmas.List.{get_or_default, get_or-set_same}
use Rattle.geometry.specs.Weights.{weigh}
use Rattle.geometry.proofs.Weighing.{weigh-set}
use Rattle.nodes.specs.Tree.{entry_at, AreNone, EmptyFrom}
use Rattle.rights_books.specs.declared.claim.TakenNumber.{TakenNumber}
use Rattle.nodes.specs.Change.{tree_node, TreeNode, Weighing, Touched, gone, come, MarksOne, Trades, ChangesSlot, ChangesEntries}

-- what the entries weigh, where one is set
pub weigh_entry : {C : Type 0} (f : Option C → ℕ) (xs ys : List (Option C)) (at : ℕ) → at < length xs → ys ≡ set xs at (entry_at ys at)
    → weigh f ys + f (entry_at xs at) ≡ weigh f xs + f (entry_at ys at)
weigh_entry f xs ys at h e =
    let s = weigh-set f xs at (entry_at ys at) None h in
    let z : weigh f ys ≡ weigh f (set xs at (entry_at ys at)) = ap (λ l. weigh f l) e in
    omega arith

pub weigh_nothing : {C : Type 0} (f : Option C → ℕ) → f None ≡ 0 → (xs : List (Option C)) → AreNone xs → weigh f xs ≡ 0
weigh_nothing f none [] all = refl
weigh_nothing f none (x ∷ xs) all =
    let first : x ≡ None = all 0 in
    let here : f x ≡ 0 = ap f first ∙ none in
    let rest : weigh f xs ≡ 0 = weigh_nothing f none xs (λ k. all (suc k)) in
    omega arith

pub weigh_zero : {C : Type 0} (f : Option C → ℕ) (xs : List (Option C)) → ((k : ℕ) → k < length xs → f (entry_at xs k) ≡ 0) → weigh f xs ≡ 0
weigh_zero f [] all = refl
weigh_zero f (x ∷ xs) all =
    let here : f x ≡ 0 = all 0 (omega arith) in
    let rest : weigh f xs ≡ 0 = weigh_zero f xs (λ k h. all (suc k) (omega arith)) in
    omega arith

-- the same where only those up to an end are known, and from there on there is nothing
pub weigh_used : {C : Type 0} (f : Option C → ℕ) (xs : List (Option C)) (end : ℕ) → f None ≡ 0 → EmptyFrom (entry_at xs) end
    → ((k : ℕ) → k < end → f (entry_at xs k) ≡ 0) → weigh f xs ≡ 0
weigh_used f xs end none rest used = weigh_zero f xs (λ k _. elim (cases_lt k end) [
  | inl lt ↦ used k lt
  | inr ge ↦ ap f (rest k ge) ∙ none
])

pub none_is : {C : Type 0} (x : Option C) (b : Bool) → is_some x ≡ not b → is_none x ≡ b
none_is None true e = refl
none_is None false e = absurd (let no = e in cc)
none_is (Some x) true e = absurd (let no = e in cc)
none_is (Some x) false e = refl

-- what was read at an index in range is the entry there
pub entry_is : {C : Type 0} (xs : List (Option C)) (i : ℕ) (y : Option C) → i < length xs → y ≡ get_or xs i y → entry_at xs i ≡ y
entry_is xs i y h e = get_or_default xs i None y h ∙ sym e

-- what was read twice at an index is one
pub read_twice : {C : Type 0} (xs : List (Option C)) (i : ℕ) (x y : Option C) → i < length xs → x ≡ get_or xs i x → y ≡ get_or xs i y → x ≡ y
read_twice xs i x y inside a b = sym (entry_is xs i x inside a) ∙ entry_is xs i y inside b

-- as a change of the entries, where the slot at an index was one and is another
pub slot_change : {L C : Type 0} (number : Option C → ℕ) (weight : Weighing L → Option C → ℕ) (xs : List (Option C)) (i : ℕ) (x y : Option C)
    → i < length xs → x ≡ get_or xs i x → (own changed was_dirty : Bool) → own ≡ changed → (out into : Weighing L → ℕ)
    → ChangesSlot number weight own x y out into
    → ChangesEntries number weight xs (set xs i y) was_dirty (changed || was_dirty) out into
slot_change number weight xs i x y inside is own changed was_dirty same out into change = record {
  own = own;
  trades = (
    change.0.0,
    change.0.1,
    λ w. (let one = change.0.2 w in let all = weigh-set (weight w) xs i y x inside in let e = ap (weight w) is in omega arith),
  );
  kept = λ e. (map-set_same number xs i y x (change.1 e ∙ ap number is), ap (λ b. b || was_dirty) (sym same ∙ e));
  marked = λ e. ap (λ b. b || was_dirty) (sym same ∙ e);
}

-- the same where the entries are marked if the slot is empty now
pub slot_emptied : {L C : Type 0} (number : Option C → ℕ) (weight : Weighing L → Option C → ℕ) (xs : List (Option C)) (i : ℕ) (x y : Option C)
    → i < length xs → x ≡ get_or xs i x → (was_dirty : Bool) (out into : Weighing L → ℕ) → ChangesSlot number weight (is_none y) x y out into
    → ChangesEntries number weight xs (set xs i y) was_dirty (is_none (entry_at (set xs i y) i) || was_dirty) out into
slot_emptied number weight xs i x y inside is was_dirty out into change =
    slot_change number weight xs i x y inside is (is_none y) (is_none (entry_at (set xs i y) i)) was_dirty (ap is_none (sym (get_or-set_same xs i y None inside))) out into change

-- of a node whose block is another only where the entries were changed
pub node_trades : {L : Type 0} (before after : TreeNode) (old new out into : Weighing L → ℕ) (own : Bool) (touched : Touched)
    → MarksOne own touched → ((w : Weighing L) → new w + (gone w touched + out w) ≡ old w + (come w touched + into w))
    → (own ≡ false → after ≡ before) → after.token ≡ before.token → (own ≡ true → after.dirty ≡ true)
    → Trades false (λ w. w.node before + old w) (λ w. w.node after + new w) out into
node_trades before after old new out into true None m f kept token marked =
    (Some (before, after), (token, marked refl), λ w. (let h = f w in omega arith))
node_trades before after old new out into true (Some t) m f kept token marked = absurd m
node_trades before after old new out into false None m f kept token marked = absurd m
node_trades before after old new out into false (Some t) m f kept token marked =
    (Some t, m, λ w. (let h = f w in let e = ap w.node (kept refl) in omega arith))

-- of a node other than an inode
pub branch_trades : {L C : Type 0} (leaf : Bool) (number : Option C → ℕ) (weight : Weighing L → Option C → ℕ) (token : TakenNumber) (xs ys : List (Option C)) (was_dirty is_dirty : Bool)
    (out into : Weighing L → ℕ) → ChangesEntries number weight xs ys was_dirty is_dirty out into
    → Trades false (λ w. w.node (tree_node leaf token (map number xs) was_dirty) + weigh (weight w) xs) (λ w. w.node (tree_node leaf token (map number ys) is_dirty) + weigh (weight w) ys) out into
branch_trades leaf number weight token xs ys was_dirty is_dirty out into change =
    node_trades (tree_node leaf token (map number xs) was_dirty) (tree_node leaf token (map number ys) is_dirty)
    (λ w. weigh (weight w) xs) (λ w. weigh (weight w) ys) out into change.own change.trades.0 change.trades.1 change.trades.2
    (λ e. let kept = change.kept e in λ k. tree_node leaf token (kept.0 k) (kept.1 k)) refl change.marked
