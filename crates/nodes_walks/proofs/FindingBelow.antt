-- A node below one entry is a node below all of them, and one that is moved there is moved in the whole; an index's
-- last digit is the entry that names it, whatever comes before.
use Rattle.std.proofs.Common.{◌≡◌, ℕ, ◌+◌, ◌*◌, ◌/◌, ◌%◌, ◌<◌, Bool, true, false, Ok, Err, if◌then◌else◌, List, length, get_or, set, map, Option, Some, None, refl, ap, sym, ◌∙◌, inl, inr, arith}
use Rattle.std.specs.Prelude.{IfSome, IfOk, IfErr}
use Rattle.std.specs.declared.result.Result.{Result}
use Rattle.std.proofs.lemmas.Bool.{cases_lt}
use Rattle.std.proofs.lemmas.List.{get_or_past, length-map}
use Rattle.std.proofs.lemmas.Nat.{mod-mul-add}
use Rattle.std.proofs.Math.Nat.{div-one, mod-one}
use Rattle.std.proofs.Math.ListN.{get_or-map}
use Rattle.geometry.specs.Weights.{weigh}
use Rattle.geometry.proofs.Weighing.{weigh-set}
use Rattle.rights_books.specs.declared.claim.TakenNumber.{TakenNumber}
use Rattle.nodes.specs.declared.branch.Branch.{Branch}
use Rattle.nodes.specs.declared.entries.Entries.{Entries}
use Rattle.nodes.specs.Tree.{number_of, find_in, entry_at}
use Rattle.nodes.specs.Change.{TreeNode, Weighing, tree_node, each_marked}
use Rattle.nodes.specs.TreeMarks.{one_of, mark_of, AreCounted}
use Rattle.nodes_walks.specs.Writing.{IsAmong}
use Rattle.nodes_walks.proofs.Walks.{among_entries, among_below}
use Rattle.nodes_walks.specs.Moving.{MovesOne}

module _ {L C : Type 0} (weight : Weighing L → Option C → ℕ) (xs : List (Option C)) (i : ℕ) (x : Option C)
    (inside : i < length xs) (is : x ≡ get_or xs i x) where
  pub moves_entry : (y : Option C) (n : TreeNode) (token : TakenNumber) → MovesOne (λ w. weight w x) (λ w. weight w y) n token
      → MovesOne (λ w. weigh (weight w) xs) (λ w. weigh (weight w) (set xs i y)) n token
  moves_entry y n token one = record {
    among = among_entries weight xs i x inside is n one.among;
    number = one.number;
    trades = λ w. (let here = one.trades w in let all = weigh-set (weight w) xs i y x inside in let e = ap (weight w) is in omega arith);
  }

module _ {L : Type 0} (old new : Weighing L → ℕ) where
  -- the same of a node beside others that stay
  pub moves_below : (own : TreeNode) (n : TreeNode) (token : TakenNumber) → MovesOne old new n token
      → MovesOne (λ w. w.node own + old w) (λ w. w.node own + new w) n token
  moves_below own n token one = record {
    among = among_below old new own n one.among;
    number = one.number;
    trades = λ w. (let here = one.trades w in omega arith);
  }

module _ {L C : Type 0} (leaf : Bool) (number : Option C → ℕ) (weight : Weighing L → Option C → ℕ) (b : Branch C) where
  abbrev pub node_of : TreeNode
  node_of = tree_node leaf b.token (map number b.entries.slots.items) b.entries.dirty

  -- a node is one of its own tree
  pub own_among : IsAmong (λ w. w.node node_of + weigh (weight w) b.entries.slots.items) node_of
  own_among w = omega arith

  -- and is moved there
  pub own_moves : (a : Branch C) → a.token.number ≡ b.token.number → a.entries ≡ b.entries
      → MovesOne (λ w. w.node node_of + weigh (weight w) b.entries.slots.items)
      (λ w. w.node (tree_node leaf a.token (map number a.entries.slots.items) a.entries.dirty) + weigh (weight w) a.entries.slots.items) node_of a.token
  own_moves a number_is same = record {
    among = own_among;
    number = number_is;
    trades = λ w.
        (let node = ap (λ (e : Entries C). w.node (tree_node leaf a.token (map number e.slots.items) e.dirty)) same in
        let rest = ap (λ (e : Entries C). weigh (weight w) e.slots.items) same in
        omega arith);
  }

-- an entry that has an address is that of the ticket at its index
pub named_there : {C L : Type 0} (find : Option C → ℕ → Option L) (address : L → ℕ) (number : Option C → ℕ) (span : ℕ)
    → span ≡ 1 → ((s : Option C) → number s ≡ number_of address (find s 0)) → number None ≡ 0
    → (xs : List (Option C)) (at from : ℕ) → get_or (map number xs) at 0 ≡ from → number_of address (find_in find span xs at) ≡ from
named_there find address number span one leaf none xs at from named =
    let d : at / span ≡ at = ap (λ s. at / s) one ∙ div-one at in
    let m : at % span ≡ 0 = ap (λ s. at % s) one ∙ mod-one at in
    let entry : get_or (map number xs) at (number None) ≡ number (get_or xs at None) = get_or-map number xs at None in
    ap (λ k. number_of address (find (entry_at xs k) (at % span))) d
    ∙ ap (λ k. number_of address (find (entry_at xs at) k)) m
    ∙ sym (leaf (entry_at xs at)) ∙ sym entry ∙ ap (λ z. get_or (map number xs) at z) none ∙ named

-- ---- the entry that names an index is its last digit, whatever whole subtrees come before it

pub entry_beside : (span e at place index : ℕ) → ((before : ℕ) → (before * span + index) % e ≡ at) → (before : ℕ) → (before * span + (place * span + index)) % e ≡ at
entry_beside span e at place index all before =
    let same : before * span + (place * span + index) ≡ (before + place) * span + index = omega arith in
    ap (λ x. x % e) same ∙ all (before + place)

pub entry_below : (span e at index : ℕ) → ((before : ℕ) → (before * span + index) % e ≡ at) → (before : ℕ) → (before * (e * span) + index) % e ≡ at
entry_below span e at index all before =
    let same : before * (e * span) + index ≡ before * e * span + index = omega arith in
    ap (λ x. x % e) same ∙ all (before * e)

pub entry_own : (span e at : ℕ) → at < e → (before : ℕ) → (before * (e * span) + at) % e ≡ at
entry_own span e at low before =
    let same : before * (e * span) + at ≡ before * span * e + at = omega arith in
    ap (λ x. x % e) same ∙ mod-mul-add (before * span) e at low

-- an entry that names something is one of the node's
pub named_low : {C : Type 0} (number : Option C → ℕ) (xs : List (Option C)) (at from : ℕ) → 0 < from → get_or (map number xs) at 0 ≡ from → at < length xs
named_low number xs at from some named = elim (cases_lt at (length xs)) [
  | inl low ↦ low
  | inr past ↦ absurd (let none : get_or (map number xs) at 0 ≡ 0 = get_or_past (map number xs) at 0 (let all = length-map xs number in omega arith) in omega arith)
]

-- a node names each of its entries
pub names_own : (leaf : Bool) → leaf ≡ true → (number : ℕ) (nid : ℕ) → number ≡ nid → (rest : Option ℕ) → (if leaf then Some number else rest) ≡ Some nid
names_own leaf is number nid same rest = ap (λ (b : Bool). if b then Some number else rest) is ∙ ap (λ n. Some n) same

-- what a fact gives of what was found
pub if_some : {A : Type 0} {P Q : A → Type 0} (o : Option A) → IfSome o P → ((x : A) → P x → Q x) → IfSome o Q
if_some (Some x) h f = f x h
if_some None h f = tt

-- who moves a node's block marks none
pub marks_stay : {L C E : Type 0} (weight : Weighing L → Option C → ℕ) (x y : Option C) (r : Result Bool E)
    → IfOk r (λ found. found ≡ true → (n : TreeNode) × (token : TakenNumber) × MovesOne (λ w. weight w x) (λ w. weight w y) n token)
    → IfOk r (λ found. found ≡ false → y ≡ x) → IfErr r (λ e. y ≡ x) → weight each_marked y ≡ weight each_marked x
marks_stay weight x y (Ok true) moved none failed =
    let one = moved refl in
    let trades = one.2.trades each_marked in
    omega arith
marks_stay weight x y (Ok false) moved none failed = ap (weight each_marked) (none refl)
marks_stay weight x y (Err e) moved none failed = ap (weight each_marked) failed

-- so as many entries are counted
pub still_counted : {L C : Type 0} (weight : Weighing L → Option C → ℕ) (xs : List (Option C)) (i : ℕ) (x y : Option C) (count : ℕ)
    → i < length xs → x ≡ get_or xs i x → weight each_marked y ≡ weight each_marked x → AreCounted weight count xs → AreCounted weight count (set xs i y)
still_counted weight xs i x y count inside is marks counted =
    let all = weigh-set (mark_of weight) xs i y x inside in
    let e : mark_of weight y ≡ mark_of weight x = ap one_of marks in
    let was : mark_of weight x ≡ mark_of weight (get_or xs i x) = ap (mark_of weight) is in
    omega arith
