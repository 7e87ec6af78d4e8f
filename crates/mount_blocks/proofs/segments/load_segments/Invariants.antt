use Rattle.std.proofs.Common.{◌≡◌, ℕ, ◌+◌, ◌*◌, ◌≤◌, List, None, length, get_or, vec_len}
use Rattle.std.specs.Vec.{vec_capacity}
use Rattle.device.specs.Parts.{IsBlockRun}
use Rattle.geometry.specs.declared.owner.Mark.{Mark}
use Rattle.geometry.specs.Area.{block_count}
use Rattle.geometry.specs.Shape.{block_bytes, segment_blocks}
use Rattle.image.specs.View.{image_view}
use Rattle.mount_blocks.specs.TreeGoods.{in_place}
use Rattle.tickets.specs.Placed.{Placed}
use Rattle.geometry.specs.Weights.{weigh}
use Rattle.mount_blocks.specs.Rights.{AreRights}
use Rattle.mount_blocks.specs.Table.{AreTicketsPast, HaveBytes}
use Rattle.mount_blocks.specs.States.{AreSegmentsFrom}
use Rattle.mount_blocks.proofs.segments.load_segments.Given as goal

abbrev pub invariant-rights : goal.invariant-rights
invariant-rights g l = record {
  rights : AreRights l.geometry.shape l.books.book l.words.table l.rights.rooms.items l.rights.accounts.items l.rights.standings.items l.rights.slips.items;
  few : length l.rights.rooms.items ≤ l.geometry.segments;
  run : IsBlockRun g.B.Block.address_of g.B.Block.content_of (block_bytes l.geometry.shape) 1 l.blocks.items;
  so_many : length l.blocks.items ≡ length l.rights.rooms.items * segment_blocks l.geometry.shape;
  capacity : vec_capacity l.blocks ≡ vec_capacity l.initial.blocks;
  segments : AreSegmentsFrom l.geometry (image_view l.image) l.books.book l.words.table (length l.rights.rooms.items) l.segments.states.items l.segments.free.items l.segments.logs.items;
  states_fit : l.geometry.segments ≤ vec_capacity l.segments.states;
  free_fit : l.geometry.segments ≤ vec_capacity l.segments.free;
  places : length l.tickets.items ≡ block_count l.geometry + 1;
  none : (address : ℕ) → address ≤ length l.blocks.items → get_or l.tickets.items address None ≡ None;
  bytes : (bytes : ℕ → List ℕ) → HaveBytes g.B.Block.content_of bytes l.initial.blocks.items → HaveBytes g.B.Block.content_of bytes l.blocks.items;
  tickets : (bytes : ℕ → List ℕ) → HaveBytes g.B.Block.content_of bytes l.initial.blocks.items
      → AreTicketsPast l.geometry (image_view l.image) bytes (length l.blocks.items) l.tickets.items;
  hand : (h : Mark → ℕ) → weigh h l.hand.tickets ≡ weigh h l.initial.hand.tickets + weigh (in_place (λ (t : Placed). h t.mark)) l.tickets.items;
  tokens : l.hand.tokens ≡ l.initial.hand.tokens;
  account : l.hand.book ≡ l.initial.hand.book;
}

abbrev pub decreases-rights : goal.decreases-rights
decreases-rights g l = vec_len l.rights.rooms
