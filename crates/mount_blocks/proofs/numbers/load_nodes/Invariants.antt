use Rattle.std.proofs.Common.{◌≡◌, ℕ, ◌+◌, ◌<◌, List, length, get_or}
use Rattle.rights_books.specs.Weights.{mark_of}
use Rattle.rights_books.specs.declared.claim.TakenNumber.{TakenNumber}
use Rattle.geometry.specs.declared.owner.Mark.{Mark}
use Rattle.image.specs.View.{image_view}
use Rattle.mount_blocks.specs.TreeGoods.{in_place}
use Rattle.nat.specs.Shard.{ShardNodes}
use Rattle.nat.specs.Table.{all_taken}
use Rattle.nat.specs.Taken.{entries_of}
use Rattle.geometry.specs.Weights.{weigh}
use Rattle.tickets.specs.Placed.{Placed}
use Rattle.mount_blocks.specs.Table.{AreTicketsPast}
use Rattle.mount_blocks.specs.Goods.{AreShards}
use Rattle.mount_blocks.proofs.Passing.{ArePassed}
use Rattle.mount_blocks.proofs.numbers.load_nodes.Given as goal

abbrev pub invariant-loop-before : goal.invariant-loop-before
invariant-loop-before g l = record {
  shards : AreShards l.books.book l.geometry.nodes l.shards.items;
  free : (k : ℕ) (other : ShardNodes) → k < length l.shards.items → (number : ℕ) → l.before < number → entries_of number (get_or l.shards.items k other).taken ≡ 0;
  taken : (h : TakenNumber → ℕ) → weigh h (all_taken l.shards.items) ≡ weigh (in_place h) l.tokens.items;
  goods : (bytes : ℕ → List ℕ) → AreTicketsPast l.geometry (image_view l.image) bytes 0 l.fn.tickets.items
      → ArePassed l.geometry (image_view l.image) bytes (l.before + 1) l.tickets.items l.tokens.items;
  marks : (h : Mark → ℕ) → weigh (in_place (λ (t : Placed). h t.mark)) l.tickets.items + weigh (in_place (λ e. h (mark_of e))) l.tokens.items ≡ weigh (in_place (λ (t : Placed). h t.mark)) l.fn.tickets.items;
  hand : (h : Mark → ℕ) → weigh h l.hand.tickets + weigh (in_place (λ (t : Placed). h t.mark)) l.fn.tickets.items ≡ weigh h l.fn.hand.tickets + weigh (in_place (λ (t : Placed). h t.mark)) l.tickets.items;
  hand_tokens : (h : TakenNumber → ℕ) → weigh h l.hand.tokens ≡ weigh h l.fn.hand.tokens + weigh (in_place h) l.tokens.items;
  book : l.hand.book ≡ l.fn.hand.book;
}
