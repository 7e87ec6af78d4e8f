-- A token of another file, or of a number of inodes, weighs 1: a file that weighs none has only tokens of its own, and
-- so it has after a call that brings none.
use Rattle.std.proofs.Common.{◌≡◌, inl, inr, ℕ, ◌<◌, ◌==◌, ◌&&◌, nat_lt, Bool, true, false, if◌then◌else◌, refl, sym, ap, subst, ◌∙◌, eqb-true, arith}
use borrow.Author.Tests.{ltb-true}
use Rattle.std.proofs.lemmas.Bool.{and_parts}
use Rattle.geometry.specs.Weights.{weigh}
use Rattle.image_law.specs.Items.{Among}
use Rattle.geometry.specs.Shape.{block_bytes}
use Rattle.rights_books.specs.declared.claim.TakenNumber.{TakenNumber}
use Rattle.tickets.specs.Placed.{Placed}
use Rattle.nodes.specs.Change.{TreeNode, Weighing, of_tokens}
use Rattle.nodes.proofs.Balance.{balanced_tokens}
use Rattle.nodes.specs.declared.file.FileState.{FileState}
use Rattle.nodes.specs.File.{below_weight, weight_of}
use Rattle.nodes.specs.Marks.{MarksNode}
use Rattle.nodes_law.specs.Nodes.{nodes_below, nodes_of}
use Rattle.nodes_law.proofs.Listing.{below_weighs, none_each}
use Rattle.nodes_law.specs.Law.{strange, ragged, HasOwnTokens}

own : (files inode : ℕ) (e : TakenNumber) → strange files inode e ≡ 0 → (e.inode ≡ inode) × (files < e.number)
own files inode e none = go ((e.inode == inode) && nat_lt files e.number) refl none
  where
    go : (b : Bool) → ((e.inode == inode) && nat_lt files e.number) ≡ b → ◌≡◌ {A = ℕ} (if b then 0 else 1) 0 → (e.inode ≡ inode) × (files < e.number)
    go true t none = let both = and_parts (e.inode == inode) (nat_lt files e.number) t in (eqb-true e.inode inode both.0, ltb-true files e.number both.1)
    go false t none = absurd (omega arith)

module _ {B L : Type 0} (f : FileState B L) where
  -- each node below the inode has a number of this file's, past those of inodes
  pub own_below : (files : ℕ) → HasOwnTokens files f → (n : TreeNode) → Among n (nodes_below f)
      → (n.token.inode ≡ f.token.number) × (files < n.token.number)
  own_below files tokens n m =
      let all = below_weighs (λ n. strange files f.token.number n.token) f in
      let zero_all : weigh (λ (n : TreeNode). strange files f.token.number n.token) (nodes_below f) ≡ 0 = omega (arith, tokens.below) in
      own files f.token.number n.token (none_each (λ (n : TreeNode). strange files f.token.number n.token) (nodes_below f) zero_all n m)

  pub own_each : (files : ℕ) → HasOwnTokens files f → (n : TreeNode) → Among n (nodes_of f) → n.token.inode ≡ f.token.number
  own_each files tokens n (inl e) = ap (λ (n : TreeNode). n.token.inode) (sym e) ∙ tokens.inode
  own_each files tokens n (inr m) = (own_below files tokens n m).0

module _ {B L : Type 0} (files : ℕ) (old new : FileState B L) (tokens : HasOwnTokens files old) (shape : new.shape ≡ old.shape) where
  -- where the tokens that come are strange to nobody
  own_after : new.token ≡ old.token
      → ((h : TakenNumber → ℕ) → below_weight old (of_tokens h) ≡ 0 → h ≡ strange files old.token.number → below_weight new (of_tokens h) ≡ 0)
      → ((h : TakenNumber → ℕ) → below_weight old (of_tokens h) ≡ 0 → h ≡ ragged (block_bytes old.shape) → below_weight new (of_tokens h) ≡ 0)
      → HasOwnTokens files new
  own_after same below whole =
      let number = ap (λ (e : TakenNumber). e.number) same in
      let parts = tokens.whole in
      record {
        inode = ap (λ (e : TakenNumber). e.inode) same ∙ (tokens.inode ∙ sym number);
        below = subst (λ k. below_weight new (of_tokens (strange files k)) ≡ 0) (sym number) (below (strange files old.token.number) tokens.below refl);
        whole = subst (λ s. weight_of new (of_tokens (ragged (block_bytes s))) ≡ 0) (sym shape)
            (let rest = whole (ragged (block_bytes old.shape)) (omega arith) refl in
            let here = ap (ragged (block_bytes old.shape)) same in omega arith);
      }

  pub own_marked : (resized : TreeNode → TreeNode) (out into : Weighing Placed → ℕ) → MarksNode resized old new out into
      → into (of_tokens (strange files old.token.number)) ≡ 0 → into (of_tokens (ragged (block_bytes old.shape))) ≡ 0 → HasOwnTokens files new
  own_marked resized out into change one other =
      own_after change.token
      (λ h none is. (let all = balanced_tokens change.own (below_weight old) (below_weight new) out into change.trades h in
      let came : into (of_tokens h) ≡ 0 = ap (λ (h : TakenNumber → ℕ). into (of_tokens h)) is ∙ one in omega arith))
      (λ h none is. (let all = balanced_tokens change.own (below_weight old) (below_weight new) out into change.trades h in
      let came : into (of_tokens h) ≡ 0 = ap (λ (h : TakenNumber → ℕ). into (of_tokens h)) is ∙ other in omega arith))

  pub own_same : ((w : Weighing Placed) → below_weight new w ≡ below_weight old w) → new.token ≡ old.token → HasOwnTokens files new
  own_same same token =
      own_after token (λ h none is. same (of_tokens h) ∙ none) (λ h none is. same (of_tokens h) ∙ none)
