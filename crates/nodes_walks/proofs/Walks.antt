-- A node below one entry is a node below all of them, and one that is written there is written in the whole: the other
-- entries weigh before as after.
use Rattle.std.proofs.Common.{◌≡◌, ℕ, ◌+◌, ◌<◌, Bool, true, List, length, get_or, set, Option, ap, ◌∙◌, arith}
use Rattle.geometry.specs.Weights.{weigh}
use Rattle.geometry.proofs.Weighing.{weigh-at, weigh-set}
use Rattle.rights_books.specs.declared.claim.TakenNumber.{TakenNumber}
use Rattle.nodes.specs.Change.{TreeNode, Weighing, tree_node}
use Rattle.nodes_walks.specs.Writing.{IsAmong, WritesOne}

module _ {L C : Type 0} (weight : Weighing L → Option C → ℕ) (xs : List (Option C)) (i : ℕ) (x : Option C)
    (inside : i < length xs) (is : x ≡ get_or xs i x) where
  pub among_entries : (n : TreeNode) → IsAmong (λ w. weight w x) n → IsAmong (λ w. weigh (weight w) xs) n
  among_entries n among w =
      let here = among w in
      let most = weigh-at (weight w) xs i x inside in
      let e = ap (weight w) is in
      omega arith

  pub writes_entry : (y : Option C) (n : TreeNode) (token : TakenNumber) → WritesOne (λ w. weight w x) (λ w. weight w y) n token
      → WritesOne (λ w. weigh (weight w) xs) (λ w. weigh (weight w) (set xs i y)) n token
  writes_entry y n token one = record {
    marked = one.marked;
    among = among_entries n one.among;
    number = one.number;
    trades = λ w. (let here = one.trades w in let all = weigh-set (weight w) xs i y x inside in let e = ap (weight w) is in omega arith);
  }

module _ {L : Type 0} (old new : Weighing L → ℕ) where
  pub among_below : (own : TreeNode) (n : TreeNode) → IsAmong old n → IsAmong (λ w. w.node own + old w) n
  among_below own n among w = let here = among w in omega arith

  -- the same of a node beside others that stay
  pub writes_below : (own : TreeNode) (n : TreeNode) (token : TakenNumber) → WritesOne old new n token
      → WritesOne (λ w. w.node own + old w) (λ w. w.node own + new w) n token
  writes_below own n token one = record {
    marked = one.marked;
    among = among_below own n one.among;
    number = one.number;
    trades = λ w. (let here = one.trades w in omega arith);
  }

pub node_is : (token : TakenNumber) (n : TreeNode) (leaf leaf' : Bool) (numbers numbers' : List ℕ) → n ≡ tree_node leaf token numbers true → leaf ≡ leaf' → numbers ≡ numbers'
    → n ≡ tree_node leaf' token numbers' true
node_is token n leaf leaf' numbers numbers' is same all =
    is ∙ ap (λ (l : Bool). tree_node l token numbers true) same ∙ ap (λ (l : List ℕ). tree_node leaf' token l true) all
