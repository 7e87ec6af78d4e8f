use Rattle.std.proofs.Common.{◌≡◌, ℕ, ◌+◌, length, take}
use Rattle.geometry.specs.declared.owner.Mark.{Mark}
use Rattle.image.specs.View.{image_view}
use Rattle.mount_blocks.specs.TreeGoods.{in_place}
use Rattle.geometry.specs.Weights.{weigh}
use Rattle.tickets.specs.Placed.{Placed}
use Rattle.mount_blocks.specs.Lodging.{AreOfBook, Lodges, file_of, of_file, of_some}
use Rattle.mount_blocks.proofs.tickets_of.lodge_tickets.Given as goal

abbrev pub invariant-loop-place : goal.invariant-loop-place
invariant-loop-place g l = record {
  same : l.tickets.items ≡ l.fn.tickets.items;
  of_book : AreOfBook l.books.book l.accounts.items;
  lodged : Lodges l.fn.accounts.items l.accounts.items (λ k h. weigh (in_place (λ (t : Placed). of_file (k + 1) (file_of (image_view l.image) t.mark.owner) (h t.mark))) (take l.place l.fn.tickets.items)) (λ _ _. 0);
  hand : (h : Mark → ℕ) → weigh h l.hand.tickets + weigh (in_place (λ (t : Placed). of_some (length l.fn.accounts.items) (file_of (image_view l.image) t.mark.owner) (h t.mark))) (take l.place l.fn.tickets.items) ≡ weigh h l.fn.hand.tickets;
  tokens : l.hand.tokens ≡ l.fn.hand.tokens;
  book : l.hand.book ≡ l.fn.hand.book;
}
