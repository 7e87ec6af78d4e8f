-- The token of each node is lodged, and where none is marked each node was written as it is: so what the tree stores is
-- what its account has, and the file keeps its law.
use Rattle.std.proofs.Common.{◌≡◌, refl, sym, ◌∙◌, ap, subst, ℕ, ◌+◌, ◌<◌, ◌≤◌, List, [], Option, Some, None, if◌then◌else◌, arith}
use Rattle.geometry.specs.declared.geometry.Geometry.{Geometry}
use Rattle.geometry.specs.declared.shape.Shape.{Shape}
use Rattle.geometry.specs.declared.owner.Mark.{Mark}
use Rattle.image.specs.Node.{Spells}
use Rattle.geometry.specs.Weights.{weigh}
use Rattle.image_law.specs.Items.{Among}
use Rattle.image_law.specs.Parts.{Token, Stored, stored_of, token_at}
use Rattle.image_law.proofs.Weighing.{weigh_among, of_among-map}
use Rattle.rights_books.specs.declared.claim.TakenNumber.{TakenNumber}
use Rattle.rights_books.specs.Accounts.{FileView}
use Rattle.rights_books.specs.Lists.{times}
use Rattle.rights_books.specs.Sameness.{same_entry}
use Rattle.rights_books.proofs.Sameness.{entry_self}
use Rattle.nodes.specs.Change.{TreeNode}
use Rattle.nodes.specs.declared.file.FileState.{FileState}
use Rattle.nodes_law.specs.Nodes.{nodes_of}
use Rattle.nodes_law.proofs.Listing.{nodes_weigh, unmarked_each, written_where_clean}
use Rattle.nodes_law.proofs.Owning.{own_each}
use Rattle.checkpoint_sync.specs.TreeOf.{tree_of, stored_at}
use Rattle.checkpoint_sync.proofs.Stored.{stored_is}
use Rattle.checkpoint_sync.proofs.TreeHeld.{tokens_weigh, tickets_weigh}
use Rattle.checkpoint_sync.proofs.Owned.{owns_tickets}
use Rattle.checkpoint_sync.proofs.FileLaws.{file_keeps_law}
use Rattle.checkpoint_image.specs.Cells.{IsFiledAt, IsWrittenIn, token_of}
use Rattle.checkpoint_sync.specs.FileParts.{filed_of, IsFlushed, IsFlushedOrNone}

abbrev one : TakenNumber → TakenNumber → ℕ
one e y = if same_entry e y then 1 else 0

one_self : (e : TakenNumber) → one e e ≡ 1
one_self e = rw (entry_self e) refl

module _ {B L : Type 0} (geometry : Geometry) (inode : ℕ) (account : FileView) (f : FileState B L) (is : IsFlushed geometry inode account f) where
  -- the token of a node is lodged
  lodged_one : (n : TreeNode) → Among n (nodes_of f) → 0 < times same_entry n.token account.tokens
  lodged_one n m =
      let a = is.lodged.tokens (one n.token) in
      let b = nodes_weigh (λ k. one n.token k.token) f in
      let c = weigh_among (λ (k : TreeNode). one n.token k.token) n (nodes_of f) m in
      let d = one_self n.token in
      omega arith

  written_one : (s : Stored) → Among s (stored_of (tree_of f)) → IsWrittenIn geometry.shape account.tokens s
  written_one s m =
      let at = of_among-map (λ n. stored_at f.token.number n) s (nodes_of f) (subst (Among s) (stored_is f is.file) m) in
      let n = at.0 in
      let own : n.token.inode ≡ f.token.number = own_each f geometry.files is.law.tokens n at.1 in
      record {
        token = n.token;
        lodged = lodged_one n at.1;
        token_is = (λ i. record { nid = n.token.number; inode = own i; address = n.token.address }) ∙ ap token_at at.2;
        spelled = subst (λ (s : Stored). Spells geometry.shape n.token.bytes s.node) at.2
            (subst (λ (shape : Shape). Spells shape n.token.bytes (stored_at f.token.number n).node) is.shape
            (is.law.spelled n at.1 (unmarked_each f is.clean n at.1)).1);
      }

  pub filed_some : IsFiledAt geometry inode (filed_of account (Some f))
  filed_some = record {
    law = file_keeps_law f is.file geometry inode is.shape is.number is.short is.law.tokens (written_where_clean f is.law.spelled is.clean);
    tickets = λ h. (let a = is.lodged.tickets h in let b = tickets_weigh h f (owns_tickets f is.file is.named is.law.placed) is.file in omega arith);
    tokens = λ h. (let a = is.lodged.tokens (λ e. h (token_of e)) in let b = tokens_weigh f geometry.files is.file is.law.tokens h in omega arith);
    written = written_one;
  }

pub filed_none : (geometry : Geometry) (inode : ℕ) (account : FileView) → account.tickets ≡ [] → account.tokens ≡ []
    → IsFiledAt geometry inode (record { tree = None; tickets = account.tickets; tokens = account.tokens })
filed_none geometry inode account no_tickets no_tokens = record {
  law = tt;
  tickets = λ h. ap (weigh h) no_tickets;
  tokens = λ h. ap (weigh (λ e. h (token_of e))) no_tokens;
  written = tt;
}

pub filed : {B L : Type 0} (geometry : Geometry) (inode : ℕ) (account : FileView) (state : Option (FileState B L))
    → IsFlushedOrNone geometry inode account state → IsFiledAt geometry inode (filed_of account state)
filed geometry inode account None is = filed_none geometry inode account is.0 is.1
filed geometry inode account (Some f) is = filed_some geometry inode account f is
