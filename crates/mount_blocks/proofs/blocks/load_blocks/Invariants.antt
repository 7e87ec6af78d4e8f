use Rattle.std.proofs.Common.{◌≡◌, ℕ, ◌+◌, ◌≤◌, List, None, length, get_or}
use Rattle.std.specs.Vec.{vec_capacity}
use Rattle.device.specs.Parts.{IsBlockRun}
use Rattle.geometry.specs.declared.owner.Mark.{Mark}
use Rattle.geometry.specs.Area.{block_count}
use Rattle.geometry.specs.Shape.{block_bytes, segment_blocks}
use Rattle.image.specs.View.{image_view}
use Rattle.mount_blocks.specs.TreeGoods.{in_place}
use Rattle.tickets.specs.Placed.{Placed}
use Rattle.geometry.specs.Weights.{weigh}
use Rattle.mount_blocks.specs.Table.{AreTicketsPast, HaveBytes}
use Rattle.mount_blocks.specs.States.{HasOwners}
use Rattle.mount_blocks.proofs.blocks.load_blocks.Given as goal

abbrev pub invariant-loop-done : goal.invariant-loop-done
invariant-loop-done g l = record {
  run : IsBlockRun g.B.Block.address_of g.B.Block.content_of (block_bytes l.geometry.shape) 1 l.blocks.items;
  so_many : length l.blocks.items + l.done ≡ length l.fn.blocks.items;
  capacity : vec_capacity l.blocks ≡ vec_capacity l.fn.blocks;
  shape : l.loading.shape ≡ l.fn.loading.shape;
  number : l.loading.number ≡ l.fn.loading.number;
  book : l.loading.book ≡ l.fn.loading.book;
  left : l.loading.left + l.done ≡ segment_blocks l.geometry.shape;
  owners : HasOwners l.geometry (image_view l.image) l.loading.number l.loading.left l.loading.summaries;
  places : length l.tickets.items ≡ block_count l.geometry + 1;
  none : (address : ℕ) → address ≤ length l.blocks.items → get_or l.tickets.items address None ≡ None;
  bytes : (bytes : ℕ → List ℕ) → HaveBytes g.B.Block.content_of bytes l.fn.blocks.items → HaveBytes g.B.Block.content_of bytes l.blocks.items;
  tickets : (bytes : ℕ → List ℕ) → HaveBytes g.B.Block.content_of bytes l.fn.blocks.items
      → AreTicketsPast l.geometry (image_view l.image) bytes (length l.fn.blocks.items) l.fn.tickets.items
      → AreTicketsPast l.geometry (image_view l.image) bytes (length l.blocks.items) l.tickets.items;
  hand : (h : Mark → ℕ) → weigh h l.hand.tickets + weigh (in_place (λ (t : Placed). h t.mark)) l.fn.tickets.items ≡ weigh h l.fn.hand.tickets + weigh (in_place (λ (t : Placed). h t.mark)) l.tickets.items;
  tokens : l.hand.tokens ≡ l.fn.hand.tokens;
  account : l.hand.book ≡ l.fn.hand.book;
}
