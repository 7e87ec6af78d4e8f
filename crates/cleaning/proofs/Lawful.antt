-- Only one token changes, which tells another address and the same bytes: each other node is as it was, so the law
-- holds of all, and a block that spelled its node spells it elsewhere.
use Rattle.std.proofs.Common.{◌≡◌, ℕ, ◌<◌, ◌==◌, ◌&&◌, ◌||◌, nat_lt, Bool, true, false, if◌then◌else◌, length, refl, sym, ap, subst, ◌∙◌, inl, inr, eq-eqb, ne_eqb, eqb-true, arith}
use Rattle.std.specs.Prelude.{◌⊎◌}
use Rattle.geometry.specs.declared.shape.Shape.{Shape}
use Rattle.geometry.specs.Shape.{block_bytes}
use Rattle.rights_books.specs.declared.claim.TakenNumber.{TakenNumber}
use Rattle.rights_books.specs.Rules.{moved_to}
use Rattle.nodes.specs.Change.{TreeNode, of_tickets, of_tokens}
use Rattle.nodes_walks.specs.Moving.{MovesOne, moved_node}
use Rattle.nodes.specs.declared.file.FileState.{FileState}
use Rattle.nodes.specs.File.{inode_of, below_weight, weight_of}
use Rattle.image_law.specs.Items.{Among}
use Rattle.nodes_law.specs.Nodes.{of_nodes, nodes_of}
use Rattle.nodes_law.specs.Law.{strange, ragged, unplaced, IsSpelled, SpellsUnmarked, HasOwnTokens, FileStateLaw}
use Rattle.nodes_law.proofs.Sameness.{same_node, node_eq}
use Rattle.nodes_law.proofs.Listing.{nodes_weigh}
use Rattle.nodes_law.proofs.Keeping.{is_it, it_is, among_list, list_among}
use Rattle.nodes_law.proofs.Owning.{own_each}

-- a token tells what it told, or that its node's block, which it has, stands elsewhere with its bytes
abbrev pub Carries : TakenNumber → TakenNumber → Type 0
Carries old new = (new ≡ old) ⊎ ((0 < old.address) × (0 < new.address) × (new ≡ moved_to new.address old.bytes old))

-- a block that is not of so many bytes is ragged
pub whole_bytes : (bytes : ℕ) (k : TakenNumber) → 0 < k.address → ragged bytes k ≡ 0 → length k.bytes ≡ bytes
whole_bytes bytes k some whole =
    fits (length k.bytes == bytes) refl (sym (ap (λ (b : Bool). if b || (length k.bytes == bytes) then 0 else 1) (ne_eqb k.address 0 (λ e. absurd (omega arith)))) ∙ whole)
  where
    fits : (b : Bool) → (length k.bytes == bytes) ≡ b → ◌≡◌ {A = ℕ} (if b then 0 else 1) 0 → length k.bytes ≡ bytes
    fits true e is = eqb-true (length k.bytes) bytes e
    fits false e is = absurd (omega arith)

module _ (old new : TakenNumber) where
  same_inode : Carries old new → new.inode ≡ old.inode
  same_inode (inl e) = ap (λ (k : TakenNumber). k.inode) e
  same_inode (inr moves) = ap (λ (k : TakenNumber). k.inode) moves.2

  still_whole : (bytes : ℕ) → Carries old new → ragged bytes old ≡ 0 → ragged bytes new ≡ 0
  still_whole bytes (inl e) whole = ap (ragged bytes) e ∙ whole
  still_whole bytes (inr moves) whole =
      let long : length new.bytes ≡ bytes = ap (λ (e : TakenNumber). length e.bytes) moves.2 ∙ whole_bytes bytes old moves.0 whole in
      ap (λ (b : Bool). if (new.address == 0) || b then 0 else 1) (eq-eqb (length new.bytes) bytes long) ∙ by_bit (new.address == 0)
    where
      by_bit : (b : Bool) → ◌≡◌ {A = ℕ} (if b || true then 0 else 1) 0
      by_bit true = refl
      by_bit false = refl

spelled_elsewhere : (shape : Shape) (inode : ℕ) (n : TreeNode) (k : TakenNumber) → Carries n.token k → IsSpelled shape inode n → IsSpelled shape inode (moved_node k n)
spelled_elsewhere shape inode n k (inl e) spelled = subst (λ (t : TakenNumber). IsSpelled shape inode (record n { token = t })) (sym e) spelled
spelled_elsewhere shape inode n k (inr moves) spelled = subst (λ (t : TakenNumber). IsSpelled shape inode (record n { token = t })) (sym moves.2) (moves.1, spelled.1)

module _ {B L : Type 0} (files : ℕ) (old new : FileState B L) (law : FileStateLaw files old) (shape : new.shape ≡ old.shape) (number : new.token.number ≡ old.token.number)
    (n : TreeNode) (k : TakenNumber) (one : MovesOne (weight_of old) (weight_of new) n k) (carries : Carries n.token k) where
  there : Among n (nodes_of old)
  there =
      let here = one.among (of_nodes (is_it n)) in
      let all = nodes_weigh (is_it n) old in
      let it = it_is n in
      among_list n (nodes_of old) (omega arith)

  -- each node was there, or is the one that was moved
  each_moved : (P : TreeNode → Type 0) → ((m : TreeNode) → Among m (nodes_of old) → P m) → P (moved_node k n) → (m : TreeNode) → Among m (nodes_of new) → P m
  each_moved P all moved m among = go (same_node m (moved_node k n)) refl
    where
      go : (b : Bool) → same_node m (moved_node k n) ≡ b → P m
      go true e = subst P (sym (node_eq m (moved_node k n) e)) moved
      go false e =
          let some = list_among m (nodes_of new) among in
          let a = nodes_weigh (is_it m) new in
          let b = nodes_weigh (is_it m) old in
          let weights = one.trades (of_nodes (is_it m)) in
          let none : is_it m (moved_node k n) ≡ 0 = ap (λ (b : Bool). if b then 1 else 0) e in
          all m (among_list m (nodes_of old) (omega arith))

  spelled_still : SpellsUnmarked new
  spelled_still m among clean =
      subst (λ s. IsSpelled s new.token.number m) (sym shape)
      (subst (λ i. IsSpelled old.shape i m) (sym number)
      (each_moved (λ (m : TreeNode). m.dirty ≡ false → IsSpelled old.shape old.token.number m) law.spelled
      (λ clean. spelled_elsewhere old.shape old.token.number n k carries (law.spelled n there clean)) m among clean))

  -- what weighs a token by its number and its inode alone
  even : (h : TakenNumber → ℕ) → h k ≡ h n.token → weight_of new (of_tokens h) ≡ weight_of old (of_tokens h)
  even h e = let all = one.trades (of_tokens h) in omega arith

  strange_same : (inode : ℕ) → strange files inode k ≡ strange files inode n.token
  strange_same inode =
      let a = same_inode n.token k carries in
      let b = one.number in
      λ i. if (a i == inode) && nat_lt files (b i) then 0 else 1

  inode_still : new.token.inode ≡ old.token.number
  inode_still =
      let each = own_each old files law.tokens in
      each_moved (λ m. m.token.inode ≡ old.token.number) each (same_inode n.token k carries ∙ each n there) (inode_of new) (inl refl)

  own_still : HasOwnTokens files new
  own_still =
      let all = even (strange files old.token.number) (strange_same old.token.number) in
      let a = inode_still in
      let b = law.tokens.inode in
      let top : strange files old.token.number new.token ≡ strange files old.token.number old.token =
      let inodes : new.token.inode ≡ old.token.inode = a ∙ sym b in
      λ i. if (inodes i == old.token.number) && nat_lt files (number i) then 0 else 1 in
      let was = law.tokens.below in
      let none : below_weight new (of_tokens (strange files old.token.number)) ≡ 0 = omega arith in
      let whole = one.trades (of_tokens (ragged (block_bytes old.shape))) in
      let whole_was = law.tokens.whole in
      let here = one.among (of_tokens (ragged (block_bytes old.shape))) in
      let now = still_whole n.token k (block_bytes old.shape) carries (omega arith) in
      record {
        inode = a ∙ sym number;
        below = subst (λ i. below_weight new (of_tokens (strange files i)) ≡ 0) (sym number) none;
        whole = subst (λ s. weight_of new (of_tokens (ragged (block_bytes s))) ≡ 0) (sym shape) (omega arith);
      }

  pub law_moved : FileStateLaw files new
  law_moved = record {
    spelled = spelled_still;
    tokens = own_still;
    placed = (let all = one.trades (of_tickets unplaced) in let was = law.placed in omega arith);
  }
