use Rattle.std.proofs.Common.{◌≡◌, ℕ, ◌+◌, length, take}
use Rattle.rights_books.specs.declared.claim.TakenNumber.{TakenNumber}
use Rattle.mount_blocks.specs.TreeGoods.{in_place}
use Rattle.geometry.specs.Weights.{weigh}
use Rattle.mount_blocks.specs.Lodging.{AreOfBook, Lodges, of_file, of_some}
use Rattle.mount_blocks.proofs.tokens_of.lodge_tokens.Given as goal

abbrev pub invariant-loop-place : goal.invariant-loop-place
invariant-loop-place l = record {
  of_book : AreOfBook l.books.book l.accounts.items;
  lodged : Lodges l.fn.accounts.items l.accounts.items (λ _ _. 0) (λ k h. weigh (in_place (λ (e : TakenNumber). of_file (k + 1) e.inode (h e))) (take l.place l.tokens));
  hand : (h : TakenNumber → ℕ) → weigh h l.hand.tokens + weigh (in_place (λ (e : TakenNumber). of_some (length l.fn.accounts.items) e.inode (h e))) (take l.place l.tokens) ≡ weigh h l.fn.hand.tokens;
  tickets : l.hand.tickets ≡ l.fn.hand.tickets;
  book : l.hand.book ≡ l.fn.hand.book;
}
