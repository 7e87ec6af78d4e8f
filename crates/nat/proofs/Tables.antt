-- Each number is at home in one shard, the one of its remainder by 16: so what one shard takes or gives the table does,
-- and the numbers of the others stay as they were.
use Rattle.std.proofs.Common.{◌≡◌, ◌≢◌, ℕ, zero, suc, ◌+◌, ◌%◌, ◌<◌, ◌≤◌, ◌==◌, List, [], ◌∷◌, ◌++◌, Option, Some, None, length, slice_get, get_or, set, if◌then◌else◌, ⊎_elim, length-append, refl, sym, ap, ◌∙◌, subst, arith}
use Rattle.std.specs.Prelude.{MatchOption}
use Rattle.std.proofs.lemmas.List.{length-set, set-get_or}
use Rattle.std.proofs.lemmas.Option.{slice_get_read, slice_get-get_or}
use mathlib.Core.Logic.{dite}
use native.Mathlib.Decide.{ℕ_discrete}
use Rattle.atomic_table.specs.Seated.{TableId}
use Rattle.geometry.specs.Weights.{weigh, SameItems}
use Rattle.geometry.proofs.Weighing.{weigh-append}
use Rattle.rights_books.specs.declared.claim.TakenNumber.{TakenNumber}
use Rattle.rights_books.specs.Lists.{times, without}
use Rattle.rights_books.specs.Sameness.{same_entry}
use Rattle.rights_books.proofs.Steps.{without_entry}
use Rattle.rights_books.proofs.Dealing.{slice_get_push}
use Rattle.rights_books.specs.Accounts.{ShardView}
use Rattle.nat.specs.Taken.{AreNodes, IsFree, IsTaken, IsLocated, entries_of}
use Rattle.nat.specs.Shard.{ShardNodes, HasOwnNodes}
use Rattle.nat.specs.Table.{TableNodes, all_taken, IsShardAt, IsTable}

some_is : {A : Type 0} (x y : A) → Some x ≡ Some y → x ≡ y
some_is x y e = cc

-- what all shards have taken, once one has changed
all-set : (h : TakenNumber → ℕ) (ss : List ShardNodes) (k : ℕ) (s s' : ShardNodes) → slice_get ss k ≡ Some s
    → weigh h (all_taken (set ss k s')) + weigh h s.taken ≡ weigh h (all_taken ss) + weigh h s'.taken
all-set h [] k s s' at = absurd (let no = at in cc)
all-set h (t ∷ ss) zero s s' at =
    let a = weigh-append h s'.taken (all_taken ss) in
    let b = weigh-append h t.taken (all_taken ss) in
    let c = ap (λ x. weigh h x.taken) (some_is t s at) in omega arith
all-set h (t ∷ ss) (suc k) s s' at =
    let a = weigh-append h t.taken (all_taken (set ss k s')) in
    let b = weigh-append h t.taken (all_taken ss) in
    let c = all-set h ss k s s' at in omega arith

-- one shard's entries weigh no more than all
part_weighs : (h : TakenNumber → ℕ) (ss : List ShardNodes) (k : ℕ) (s : ShardNodes) → slice_get ss k ≡ Some s → weigh h s.taken ≤ weigh h (all_taken ss)
part_weighs h [] k s at = absurd (let no = at in cc)
part_weighs h (t ∷ ss) zero s at =
    let b = weigh-append h t.taken (all_taken ss) in
    let c = ap (λ x. weigh h x.taken) (some_is t s at) in omega arith
part_weighs h (t ∷ ss) (suc k) s at =
    let b = weigh-append h t.taken (all_taken ss) in
    let c = part_weighs h ss k s at in omega arith

-- a number that no shard has, and one that no other shard has
none_has : (n : ℕ) (ss : List ShardNodes) → ((i : ℕ) (t : ShardNodes) → slice_get ss i ≡ Some t → entries_of n t.taken ≡ 0) → entries_of n (all_taken ss) ≡ 0
none_has n [] none = refl
none_has n (t ∷ ss) none =
    let b = weigh-append (λ e. if e.number == n then 1 else 0) t.taken (all_taken ss) in
    let c = none 0 t refl in
    let d = none_has n ss (λ i u at. none (suc i) u at) in omega arith

one_has : (n : ℕ) (ss : List ShardNodes) (k : ℕ) (s : ShardNodes) → slice_get ss k ≡ Some s → ((i : ℕ) (t : ShardNodes) → i ≢ k → slice_get ss i ≡ Some t → entries_of n t.taken ≡ 0)
    → entries_of n (all_taken ss) ≡ entries_of n s.taken
one_has n [] k s at none = absurd (let no = at in cc)
one_has n (t ∷ ss) zero s at none =
    let b = weigh-append (λ e. if e.number == n then 1 else 0) t.taken (all_taken ss) in
    let c = ap (λ x. entries_of n x.taken) (some_is t s at) in
    let d = none_has n ss (λ i u there. none (suc i) u (λ e. omega arith) there) in omega arith
one_has n (t ∷ ss) (suc k) s at none =
    let b = weigh-append (λ e. if e.number == n then 1 else 0) t.taken (all_taken ss) in
    let c = none 0 t (λ e. omega arith) refl in
    let d = one_has n ss k s at (λ i u apart there. none (suc i) u (λ e. apart (omega arith)) there) in omega arith

zero_of : (x : ℕ) → (0 < x → ⊥) → x ≡ 0
zero_of zero never = refl
zero_of (suc x) never = absurd (never (omega arith))

get_set_same : {A : Type 0} (xs : List A) (i : ℕ) (x y : A) → slice_get (set xs i x) i ≡ Some y → x ≡ y
get_set_same [] i x y e = absurd (let no = e in cc)
get_set_same (z ∷ xs) zero x y e = some_is x y e
get_set_same (z ∷ xs) (suc i) x y e = get_set_same xs i x y e

get_set_other : {A : Type 0} (xs : List A) (i k : ℕ) (x : A) → k ≢ i → slice_get (set xs i x) k ≡ slice_get xs k
get_set_other [] i k x apart = refl
get_set_other (z ∷ xs) zero zero x apart = absurd (apart refl)
get_set_other (z ∷ xs) zero (suc k) x apart = refl
get_set_other (z ∷ xs) (suc i) zero x apart = refl
get_set_other (z ∷ xs) (suc i) (suc k) x apart = get_set_other xs i k x (λ e. apart (ap (λ m. suc m) e))

module _ (book : TableId) (files nodes : ℕ) (ss : List ShardNodes) (law : IsTable book files nodes ss) where
  away : (n i : ℕ) (t : ShardNodes) → i ≢ n % 16 → slice_get ss i ≡ Some t → entries_of n t.taken ≡ 0
  away n i t apart there =
      let one = law.each i t there in
      zero_of (entries_of n t.taken) (λ some. apart (let h = one.own.home n some in let k = one.number in omega arith))

  -- each number has a shard
  shard_of : (n : ℕ) → (s : ShardNodes) × (slice_get ss (n % 16) ≡ Some s)
  shard_of n = go ss law.count
    where
      go : (xs : List ShardNodes) → length xs ≡ 16 → (s : ShardNodes) × (slice_get xs (n % 16) ≡ Some s)
      go [] e = absurd (omega arith)
      go (x ∷ xs) e = (get_or (x ∷ xs) (n % 16) x, slice_get-get_or (x ∷ xs) (n % 16) x (omega arith))

  pub are_nodes : AreNodes nodes (all_taken ss)
  are_nodes = record {
    once = λ n. let s = shard_of n in let one = law.each (n % 16) s.0 s.1 in let c = one_has n ss (n % 16) s.0 s.1 (away n) in let o = one.own.nodes.once n in omega arith;
    some = λ n more. let s = shard_of n in let one = law.each (n % 16) s.0 s.1 in let c = one_has n ss (n % 16) s.0 s.1 (away n) in one.own.nodes.some n (omega arith);
    within = λ n more.
        let s = shard_of n in
        let one = law.each (n % 16) s.0 s.1 in
        let c = one_has n ss (n % 16) s.0 s.1 (away n) in
        let w = one.own.nodes.within n (omega arith) in
        let e = one.nodes_are in omega arith;
  }

  -- what a call knows of the table by its view, and of the shard of a number
  module _ (v : TableNodes) (is : ◌≡◌ {A = TableNodes} (record { book = book; files = files; nodes = nodes; taken = all_taken ss }) v) (n : ℕ) (s : ShardNodes) (read : s ≡ get_or ss (n % 16) s) where
    at : slice_get ss (n % 16) ≡ Some s
    at = slice_get_read ss 16 (n % 16) s (sym law.count) (omega arith) read

    one : IsShardAt book nodes (n % 16) s
    one = law.each (n % 16) s at

    pub shard_book : s.book ≡ v.book
    shard_book = one.book_is ∙ ap (λ x. x.book) is

    pub shard_home : n % 16 ≡ s.shard
    shard_home = sym one.number

    pub home_of : (key : ℕ) → n ≡ key → key % 16 ≡ s.shard
    home_of key is_key = let h = shard_home in omega arith

    pub shard_nodes : s.nodes ≡ v.nodes
    shard_nodes = one.nodes_are ∙ ap (λ x. x.nodes) is

    count : entries_of n v.taken ≡ entries_of n s.taken
    count = sym (ap (λ x. entries_of n x.taken) is) ∙ one_has n ss (n % 16) s at (away n)

    -- the shard tells whether a number is taken, and where its node is
    pub before_is : (o : Option TakenNumber) → MatchOption o (IsTaken n s.taken) (λ _. IsFree n s.taken) → MatchOption o (IsTaken n v.taken) (λ _. IsFree n v.taken)
    before_is None taken = count ∙ taken
    before_is (Some t) free = count ∙ free

    pub located_is : (o : Option (ℕ × ℕ)) → IsLocated n s.taken o → IsLocated n v.taken o
    located_is None free = count ∙ free
    located_is (Some place) found =
        let h : TakenNumber → ℕ = λ y. if same_entry (record { number = n; inode = place.0; address = place.1; bytes = found.1 }) y then 1 else 0 in
        let w = part_weighs h ss (n % 16) s at in
        let e = ap (λ x. weigh h x.taken) is in
        let f = found.2 in (count ∙ found.0, found.1, omega arith)

    module _ (s' : ShardNodes) (own : HasOwnNodes s') where
      -- the shard changes
      pub set_table : (s'.book ≡ s.book) × (s'.shard ≡ s.shard) × (s'.nodes ≡ s.nodes) → IsTable book files nodes (set ss (n % 16) s')
      set_table same = record {
        inodes = law.inodes;
        count = length-set ss (n % 16) s' ∙ law.count;
        each = λ k t there. dite (ℕ_discrete k (n % 16))
            (λ here. subst (λ j. IsShardAt book nodes j t) (sym here)
            (subst (λ u. IsShardAt book nodes (n % 16) u)
            (get_set_same ss (n % 16) s' t (ap (λ j. slice_get (set ss (n % 16) s') j) (sym here) ∙ there))
            (record { book_is = same.0 ∙ one.book_is; number = same.1 ∙ one.number; nodes_are = same.2 ∙ one.nodes_are; own = own })))
            (λ apart. law.each k t (sym (get_set_other ss (n % 16) k s' apart) ∙ there));
      }

      all_change : (h : TakenNumber → ℕ) → weigh h (all_taken (set ss (n % 16) s')) + weigh h s.taken ≡ weigh h v.taken + weigh h s'.taken
      all_change h = let a = all-set h ss (n % 16) s s' at in let e = ap (λ x. weigh h x.taken) is in omega arith

      same_shards : s' ≡ s → set ss (n % 16) s' ≡ ss
      same_shards still = ap (λ x. set ss (n % 16) x) (still ∙ read) ∙ set-get_or ss (n % 16) s

      pub took : (o : Option TakenNumber) → MatchOption o (s' ≡ s) (λ t. s' ≡ record s { taken = t ∷ s.taken })
          → MatchOption o (◌≡◌ {A = TableNodes} (record { book = book; files = files; nodes = nodes; taken = all_taken (set ss (n % 16) s') }) v) (λ t. SameItems (t ∷ v.taken) (all_taken (set ss (n % 16) s')))
      took None still = ap (λ (xs : List ShardNodes). (let t : TableNodes = record { book = book; files = files; nodes = nodes; taken = all_taken xs } in t)) (same_shards still) ∙ is
      took (Some t) change = λ h. let a = all_change h in let b = ap (λ x. weigh h x.taken) change in omega arith

      pub gave : (e : TakenNumber) → 0 < times same_entry e s.taken → s' ≡ record s { taken = without same_entry e s.taken } → SameItems (e ∷ all_taken (set ss (n % 16) s')) v.taken
      gave e some change h = let a = all_change h in let b = ap (λ x. weigh h x.taken) change in let w = without_entry h e s.taken some in omega arith

      pub swapped : (e e' : TakenNumber) → 0 < times same_entry e s.taken → s' ≡ record s { taken = e' ∷ without same_entry e s.taken } → SameItems (e' ∷ v.taken) (e ∷ all_taken (set ss (n % 16) s'))
      swapped e e' some change h = let a = all_change h in let b = ap (λ x. weigh h x.taken) change in let w = without_entry h e s.taken some in omega arith

-- a shard of which an entry was taken, or none
pub still_of : (s s' : ShardNodes) (o : Option TakenNumber) → MatchOption o (s' ≡ s) (λ t. s' ≡ record s { taken = t ∷ s.taken }) → (s'.book ≡ s.book) × (s'.shard ≡ s.shard) × (s'.nodes ≡ s.nodes)
still_of s s' None is = (ap (λ x. x.book) is, ap (λ x. x.shard) is, ap (λ x. x.nodes) is)
still_of s s' (Some t) is = (ap (λ x. x.book) is, ap (λ x. x.shard) is, ap (λ x. x.nodes) is)

pub still : (s s' : ShardNodes) (taken : List TakenNumber) → s' ≡ record s { taken = taken } → (s'.book ≡ s.book) × (s'.shard ≡ s.shard) × (s'.nodes ≡ s.nodes)
still s s' taken is = (ap (λ x. x.book) is, ap (λ x. x.shard) is, ap (λ x. x.nodes) is)

abbrev fresh : TableId → ℕ → ℕ → ShardNodes
fresh book nodes k = record { book = book; shard = k; nodes = nodes; taken = []; part = None }

-- the first shards of a table, with nothing taken
pub record AreFresh (book : TableId) (nodes number : ℕ) (ss : List ShardNodes) : Type 0 where
  pub count : length ss ≡ number
  pub each : (k : ℕ) (s : ShardNodes) → slice_get ss k ≡ Some s → (s ≡ fresh book nodes k) × HasOwnNodes s

-- the accounts from a number on
abbrev pub AreRest : TableId → ℕ → List ShardView → Type 0
AreRest book number accounts = (i : ℕ) (v : ShardView) → slice_get accounts i ≡ Some v → v ≡ record { book = book; shard = number + i; taken = [] }

pub first_rest : (book : TableId) (number : ℕ) (accounts later : List ShardView) (v : ShardView) → accounts ≡ v ∷ later → AreRest book number accounts → v ≡ record { book = book; shard = number; taken = [] }
first_rest book number accounts later v is rest =
    rest 0 v (ap (λ l. slice_get l 0) is) ∙ (let n : number + 0 ≡ number = omega arith in ap (λ k. (let a : ShardView = record { book = book; shard = k; taken = [] } in a)) n)

-- so the first account that is left has nothing taken
pub first_empty : (book : TableId) (number : ℕ) (accounts later : List ShardView) (v : ShardView) → accounts ≡ v ∷ later → AreRest book number accounts → v ≡ record { book = v.book; shard = number; taken = [] }
first_empty book number accounts later v is rest =
    let e = first_rest book number accounts later v is rest in e ∙ sym (ap (λ b. (let a : ShardView = record { book = b; shard = number; taken = [] } in a)) (ap (λ x. x.book) e))

pub next_rest : (book : TableId) (number : ℕ) (accounts later : List ShardView) (v : ShardView) → accounts ≡ v ∷ later → AreRest book number accounts → AreRest book (number + 1) later
next_rest book number accounts later v is rest = λ i u at.
    rest (suc i) u (ap (λ l. slice_get l (suc i)) is ∙ at)
    ∙ (let n : number + suc i ≡ number + 1 + i = omega arith in ap (λ k. (let a : ShardView = record { book = book; shard = k; taken = [] } in a)) n)

pub push_fresh : (book : TableId) (nodes number : ℕ) (ss ss' : List ShardNodes) (s : ShardNodes) → AreFresh book nodes number ss → s ≡ fresh book nodes number → HasOwnNodes s → ss' ≡ ss ++ s ∷ []
    → AreFresh book nodes (number + 1) ss'
push_fresh book nodes number ss ss' s are is own pushed = record {
  count = let l = length-append ss (s ∷ []) in let p = ap (λ l. length l) pushed in let c = are.count in omega arith;
  each = λ k t at.
      ⊎_elim (λ (old : slice_get ss k ≡ Some t). are.each k t old)
      (λ (new : (k ≡ length ss) × (s ≡ t)).
      let c = are.count in
      let n : number ≡ k = omega (arith, new.0) in (sym new.1 ∙ (is ∙ ap (fresh book nodes) n), subst HasOwnNodes new.1 own))
      (slice_get_push ss s k t (subst (λ l. slice_get l k ≡ Some t) pushed at));
}

pub fresh_table : (book : TableId) (files nodes number : ℕ) (ss : List ShardNodes) → files ≤ nodes → number ≡ 16 → AreFresh book nodes number ss → IsTable book files nodes ss
fresh_table book files nodes number ss inodes all are = record {
  inodes = inodes;
  count = are.count ∙ all;
  each = λ k s at. let e = are.each k s at in record { book_is = ap (λ x. x.book) e.0; number = ap (λ x. x.shard) e.0; nodes_are = ap (λ x. x.nodes) e.0; own = e.1 };
}

none_taken : (ss : List ShardNodes) → ((k : ℕ) (s : ShardNodes) → slice_get ss k ≡ Some s → s.taken ≡ []) → all_taken ss ≡ []
none_taken [] none = refl
none_taken (s ∷ ss) none = ap (λ (es : List TakenNumber). es ++ all_taken ss) (none 0 s refl) ∙ none_taken ss (λ k t at. none (suc k) t at)

pub fresh_none : (book : TableId) (nodes number : ℕ) (ss : List ShardNodes) → AreFresh book nodes number ss → all_taken ss ≡ []
fresh_none book nodes number ss are = none_taken ss (λ k s at. ap (λ x. x.taken) (are.each k s at).0)

pub nothing_left : {A : Type 0} (l : List A) → length l ≡ 0 → l ≡ []
nothing_left [] h = refl
nothing_left (x ∷ xs) h = absurd (omega arith)
