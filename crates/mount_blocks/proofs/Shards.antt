-- One shard takes one number, the next: so all shards together have taken one entry more, and every later number is
-- free in each of them still.
use Rattle.std.proofs.Common.{◌≡◌, ℕ, zero, suc, ◌+◌, ◌%◌, ◌<◌, ◌==◌, List, [], ◌∷◌, length, get_or, set, if◌then◌else◌, inl, inr, refl, ap, ◌∙◌, ne_eqb, arith}
use Rattle.std.proofs.lemmas.Bool.{cases_eq}
use Rattle.std.proofs.lemmas.List.{length-set, get_or-set_same, get_or-set_other}
use Rattle.atomic_table.specs.Seated.{TableId}
use Rattle.geometry.specs.Weights.{weigh}
use Rattle.geometry.proofs.Weighing.{weigh-append}
use Rattle.geometry.proofs.Indexing.{each_set}
use Rattle.rights_books.specs.declared.claim.TakenNumber.{TakenNumber}
use Rattle.nat.specs.Shard.{ShardNodes}
use Rattle.nat.specs.Table.{IsShardAt, all_taken}
use Rattle.nat.specs.Taken.{entries_of}
use Rattle.mount_blocks.specs.Goods.{AreShards}

module _ (book : TableId) (nodes : ℕ) (shards : List ShardNodes) (k : ℕ) (s : ShardNodes) (low : k < length shards) where
  pub shards_next : AreShards book nodes shards → IsShardAt book nodes k s → AreShards book nodes (set shards k s)
  shards_next are is = record {
    sixteen = length-set shards k s ∙ are.sixteen;
    each = each_set (λ j x. IsShardAt book nodes j x) shards k s are.each is;
  }

-- shards that have taken nothing
pub none_taken : (h : TakenNumber → ℕ) (shards : List ShardNodes) → ((k : ℕ) (other : ShardNodes) → k < length shards → (get_or shards k other).taken ≡ []) → weigh h (all_taken shards) ≡ 0
none_taken h [] none = refl
none_taken h (s ∷ ss) none =
    let here : s.taken ≡ [] = none 0 s (omega arith) in
    let nothing = ap (weigh h) here in
    let rest = none_taken h ss (λ k other low. none (suc k) other (omega arith)) in
    let joined = weigh-append h s.taken (all_taken ss) in
    omega arith

-- what all shards have taken, once one of them has one entry more
pub taken_next : (h : TakenNumber → ℕ) (shards : List ShardNodes) (k : ℕ) (d : ShardNodes) (e : TakenNumber) → k < length shards
    → (s : ShardNodes) → s.taken ≡ e ∷ (get_or shards k d).taken → weigh h (all_taken (set shards k s)) ≡ weigh h (all_taken shards) + h e
taken_next h [] k d e low s is = absurd (omega arith)
taken_next h (t ∷ ss) zero d e low s is =
    let one = weigh-append h s.taken (all_taken ss) in
    let two = weigh-append h t.taken (all_taken ss) in
    let more : weigh h s.taken ≡ h e + weigh h t.taken = ap (weigh h) is in
    omega arith
taken_next h (t ∷ ss) (suc k) d e low s is =
    let one = weigh-append h t.taken (all_taken (set ss k s)) in
    let two = weigh-append h t.taken (all_taken ss) in
    let rest = taken_next h ss k d e (omega arith) s is in
    omega arith

-- numbers past the one that was taken are free
pub free_next : (shards : List ShardNodes) (k before : ℕ) (d s : ShardNodes) (e : TakenNumber) → k < length shards → e.number ≡ before + 1 → s.taken ≡ e ∷ (get_or shards k d).taken
    → ((j : ℕ) (other : ShardNodes) → j < length shards → (number : ℕ) → before < number → entries_of number (get_or shards j other).taken ≡ 0)
    → (j : ℕ) (other : ShardNodes) → j < length (set shards k s) → (number : ℕ) → before + 1 < number → entries_of number (get_or (set shards k s) j other).taken ≡ 0
free_next shards k before d s e low number_is is free j other within number past =
    let long = length-set shards k s in elim (cases_eq j k) [
      | inl same ↦
          let here = ap (λ (x : ShardNodes). entries_of number x.taken) (ap (λ i. get_or (set shards k s) i other) same ∙ get_or-set_same shards k s other low) in
          let more = ap (entries_of number) is in
          let none : ◌≡◌ {A = ℕ} (if e.number == number then 1 else 0) 0 = rw (ne_eqb e.number number (λ x. absurd (omega arith))) refl in
          let before_none = free k d low number (omega arith) in
          omega arith
      | inr apart ↦ ap (λ (x : ShardNodes). entries_of number x.taken) (get_or-set_other shards k j s other apart) ∙ free j other (omega arith) number (omega arith)
    ]

-- the shard of a number
pub home_of : (n : ℕ) → n % 16 < 16
home_of n = omega arith
