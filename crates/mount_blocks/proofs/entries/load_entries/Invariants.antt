use Rattle.std.proofs.Common.{◌≡◌, ℕ, ◌+◌, ◌<◌, ◌-◌, length, take}
use Rattle.std.specs.Prelude.{slice_index, slice_index_or}
use Rattle.geometry.specs.Weights.{weigh}
use Rattle.nodes.specs.Tree.{EmptyFrom, entry_at}
use Rattle.geometry.specs.declared.owner.Mark.{Mark}
use Rattle.rights_books.specs.declared.claim.TakenNumber.{TakenNumber}
use Rattle.image.specs.View.{image_view}
use Rattle.mount_blocks.specs.TreeGoods.{goods_weight, marks_weight}
use Rattle.mount_blocks.specs.Loaded.{weigh_from, of_rights}
use Rattle.mount_blocks.proofs.entries.load_entries.Given as goal

abbrev pub invariant-loop-place : goal.invariant-loop-place
invariant-loop-place g l = record {
  full : length l.slots.items ≡ length l.numbers;
  unused : EmptyFrom (entry_at l.slots.items) l.place;
  left : length l.below.items + l.place ≡ length l.fn.room.below.items;
  rooms : (k : ℕ) (other : g.row.C-Room.Denot) → k < length l.below.items → g.C.Load.roomy (image_view l.image) (slice_index l.numbers (length l.fn.room.below.items - 1 - k)) (slice_index_or l.below.items k other);
  all : l.stock.all ≡ l.fn.stock.all;
  loaded : (k : ℕ) → k < l.place → g.C.Load.loaded (image_view l.image) l.fn.stock.all l.parent k (slice_index l.numbers k) (entry_at l.slots.items k);
  taken : (h : Mark → ℕ) → marks_weight g.C.Load.mark_of h l.stock + weigh_from (g.C.Load.names (image_view l.image) h l.parent) 0 (take l.place l.numbers) ≡ marks_weight g.C.Load.mark_of h l.fn.stock;
  trades : (ticket : _) (token : TakenNumber → ℕ) → goods_weight ticket token l.stock + weigh (g.C.Subtree.weight (of_rights ticket token)) l.slots.items ≡ goods_weight ticket token l.fn.stock;
}
