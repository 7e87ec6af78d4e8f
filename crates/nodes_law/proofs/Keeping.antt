-- A call marks each node that it changes: so a node without a mark after it was there before it as it is, and what held
-- of its block holds still.
use Rattle.std.proofs.Common.{◌≡◌, ◌⊎◌, inl, inr, ℕ, ◌<◌, Bool, true, false, List, if◌then◌else◌, Some, None, refl, sym, ap, subst, ◌∙◌, arith}
use Rattle.geometry.specs.Weights.{weigh}
use Rattle.image_law.specs.Items.{Among}
use Rattle.image_law.proofs.Weighing.{weigh_among, among_of_weigh}
use Rattle.rights_books.specs.declared.claim.TakenNumber.{TakenNumber}
use Rattle.tickets.specs.Placed.{Placed}
use Rattle.nodes.specs.Change.{TreeNode, Weighing, Touched, come, MarksOne, Trades}
use Rattle.nodes_walks.specs.Writing.{rewritten, WritesOne}
use Rattle.nodes.specs.declared.file.FileState.{FileState}
use Rattle.nodes.specs.File.{inode_of, below_weight, weight_of}
use Rattle.nodes.specs.Marks.{MarksNode}
use Rattle.nodes_law.specs.Nodes.{of_nodes, nodes_below, nodes_of}
use Rattle.nodes_law.specs.Law.{IsSpelled, SpellsUnmarked}
use Rattle.nodes_law.proofs.Sameness.{same_node, node_eq, node_self}
use Rattle.nodes_law.proofs.Listing.{below_weighs, nodes_weigh}

-- 1 for a node that is this one
abbrev pub is_it : TreeNode → TreeNode → ℕ
is_it n m = if same_node n m then 1 else 0

pub it_is : (n : TreeNode) → is_it n n ≡ 1
it_is n = ap (λ (b : Bool). if b then 1 else 0) (node_self n)

there : (n m : TreeNode) → 0 < is_it n m → n ≡ m
there n m some = go (same_node n m) refl some
  where
    go : (b : Bool) → same_node n m ≡ b → 0 < (if b then 1 else 0) → n ≡ m
    go true e some = node_eq n m e
    go false e some = absurd (omega arith)

-- a node that is marked is no node that is not
apart : (n m : TreeNode) → n.dirty ≡ false → m.dirty ≡ true → is_it n m ≡ 0
apart n m clean marked = go (same_node n m) refl
  where
    go : (b : Bool) → same_node n m ≡ b → ◌≡◌ {A = ℕ} (if b then 1 else 0) 0
    go true e = let same = ap (λ (k : TreeNode). k.dirty) (node_eq n m e) in absurd (cc)
    go false e = refl

pub among_list : (n : TreeNode) (xs : List TreeNode) → 0 < weigh (is_it n) xs → Among n xs
among_list n xs some =
    let r = among_of_weigh (is_it n) xs some in
    subst (λ (m : TreeNode). Among m xs) (sym (there n r.0 r.2)) r.1

pub list_among : (n : TreeNode) (xs : List TreeNode) → Among n xs → 0 < weigh (is_it n) xs
list_among n xs m = let one = it_is n in let all = weigh_among (is_it n) n xs m in omega arith

-- what comes is marked
abbrev pub ComesMarked : {L : Type 0} → (Weighing L → ℕ) → Type 0
ComesMarked {L} into = (h : TreeNode → ℕ) → ((n : TreeNode) → n.dirty ≡ true → h n ≡ 0) → into (of_nodes h) ≡ 0

come_marked : (L : Type 0) (n : TreeNode) → n.dirty ≡ false → (own : Bool) (touched : Touched) → MarksOne own touched
    → come {L = L} (of_nodes (is_it n)) touched ≡ 0
come_marked L n clean true None m = refl
come_marked L n clean true (Some t) m = absurd m
come_marked L n clean false None m = absurd m
come_marked L n clean false (Some t) m = apart n t.1 clean m.1

-- a node that is not marked after a call was there before it
pub was_below : {B L : Type 0} (old new : FileState B L) (own : Bool) (out into : Weighing Placed → ℕ)
    → Trades own (below_weight old) (below_weight new) out into → ComesMarked into
    → (n : TreeNode) → n.dirty ≡ false → Among n (nodes_below new) → Among n (nodes_below old)
was_below old new own out into trades comes n clean m =
    let some = list_among n (nodes_below new) m in
    let a = below_weighs (is_it n) new in
    let b = below_weighs (is_it n) old in
    let all = trades.2 (of_nodes (is_it n)) in
    let came = come_marked Placed n clean own trades.0 trades.1 in
    let none = comes (is_it n) (λ k marked. apart n k clean marked) in
    among_list n (nodes_below old) (omega arith)

-- a change of the inode alone leaves it as it is, or marks it
abbrev pub Resizes : (TreeNode → TreeNode) → Type 0
Resizes resized = (n : TreeNode) → (resized n ≡ n) ⊎ ((resized n).dirty ≡ true)

inode_was : (resized : TreeNode → TreeNode) → Resizes resized → (before after n : TreeNode) → after ≡ resized before → after ≡ n → n.dirty ≡ false → before ≡ n
inode_was resized resizes before after n is it clean = elim (resizes before) [
  | inl same ↦ sym same ∙ (sym is ∙ it)
  | inr marked ↦ let d = ap (λ (k : TreeNode). k.dirty) (sym is ∙ it) in absurd (cc)
]

module _ {B L : Type 0} (old new : FileState B L) where
  pub was_there : (resized : TreeNode → TreeNode) → Resizes resized → (out into : Weighing Placed → ℕ) → MarksNode resized old new out into → ComesMarked into
      → (n : TreeNode) → n.dirty ≡ false → Among n (nodes_of new) → Among n (nodes_of old)
  was_there resized resizes out into change comes n clean (inr m) =
      inr (was_below old new change.own out into change.trades comes n clean m)
  was_there resized resizes out into change comes n clean (inl e) = go change.own refl
    where
      go : (b : Bool) → change.own ≡ b → Among n (nodes_of old)
      go true own = let marked = change.marked own in let d = ap (λ (k : TreeNode). k.dirty) e in absurd (cc)
      go false own = inl (inode_was resized resizes (inode_of old) (inode_of new) n (change.kept own) e clean)

  -- where the nodes that are not marked were there, their blocks spell them still
  pub spells_still : ((n : TreeNode) → n.dirty ≡ false → Among n (nodes_of new) → Among n (nodes_of old))
      → new.shape ≡ old.shape → new.token.number ≡ old.token.number → SpellsUnmarked old → SpellsUnmarked new
  spells_still was shape number spelled n m clean =
      subst (λ s. IsSpelled s new.token.number n) (sym shape)
      (subst (λ k. IsSpelled old.shape k n) (sym number) (spelled n (was n clean m) clean))

  pub spells_marked : (resized : TreeNode → TreeNode) → Resizes resized → (out into : Weighing Placed → ℕ) → MarksNode resized old new out into → ComesMarked into
      → new.shape ≡ old.shape → SpellsUnmarked old → SpellsUnmarked new
  spells_marked resized resizes out into change comes shape spelled =
      spells_still (was_there resized resizes out into change comes) shape (ap (λ (k : TakenNumber). k.number) change.token) spelled

  -- a cut that hands out nothing
  pub spells_resized : (resized : TreeNode → TreeNode) → Resizes resized → ((w : Weighing Placed) → below_weight new w ≡ below_weight old w)
      → inode_of new ≡ resized (inode_of old) → new.token ≡ old.token → new.shape ≡ old.shape → SpellsUnmarked old → SpellsUnmarked new
  spells_resized resized resizes same inode token shape spelled =
      spells_still was shape (ap (λ (k : TakenNumber). k.number) token) spelled
    where
      was : (n : TreeNode) → n.dirty ≡ false → Among n (nodes_of new) → Among n (nodes_of old)
      was n clean (inl e) = inl (inode_was resized resizes (inode_of old) (inode_of new) n inode e clean)
      was n clean (inr m) =
          let some = list_among n (nodes_below new) m in
          let a = below_weighs (is_it n) new in
          let b = below_weighs (is_it n) old in
          let all = same (of_nodes (is_it n)) in
          inr (among_list n (nodes_below old) (omega arith))

  -- a node was written: each node was there, or is the one that was written
  pub each_written : (P : TreeNode → Type 0) (n : TreeNode) (token : TakenNumber) → WritesOne (weight_of old) (weight_of new) n token
      → ((m : TreeNode) → Among m (nodes_of old) → P m) → P (rewritten token n) → (m : TreeNode) → Among m (nodes_of new) → P m
  each_written P n token one all written m there = go (same_node m (rewritten token n)) refl
    where
      go : (b : Bool) → same_node m (rewritten token n) ≡ b → P m
      go true e = subst P (sym (node_eq m (rewritten token n) e)) written
      go false e =
          let some = list_among m (nodes_of new) there in
          let a = nodes_weigh (is_it m) new in
          let b = nodes_weigh (is_it m) old in
          let all_weigh = one.trades (of_nodes (is_it m)) in
          let none : is_it m (rewritten token n) ≡ 0 = ap (λ (b : Bool). if b then 1 else 0) e in
          all m (among_list m (nodes_of old) (omega arith))

  pub spells_written : (n : TreeNode) (token : TakenNumber) → WritesOne (weight_of old) (weight_of new) n token
      → IsSpelled old.shape old.token.number (rewritten token n)
      → new.shape ≡ old.shape → new.token.number ≡ old.token.number → SpellsUnmarked old → SpellsUnmarked new
  spells_written n token one written shape number spelled m there clean =
      subst (λ s. IsSpelled s new.token.number m) (sym shape)
      (subst (λ k. IsSpelled old.shape k m) (sym number)
      (each_written (λ k. k.dirty ≡ false → IsSpelled old.shape old.token.number k) n token one spelled (λ _. written) m there clean))
