-- No range of an inode holds anything past its width.
use Rattle.std.proofs.Common.{◌≡◌, ℕ, ◌*◌, ◌<◌, ◌≤◌, None, refl, arith, lit<}
use Rattle.geometry.specs.declared.shape.Shape.{Shape}
use Rattle.geometry.specs.declared.shape.Shape.TheVariants.{Tiny, Kernel}
use Rattle.nodes.specs.declared.file.FileState.{FileState}
use Rattle.nodes.specs.Tree.{only_at_zero}
use Rattle.geometry.specs.Path.{inode_entries, node_entries}
use Rattle.nodes.specs.File.{IsFile, in_tickets, in_direct, in_indirect, find_direct, find_indirect, shaped_direct, shaped_indirect}
use Rattle.nodes.specs.Laws.{nothing_past_in, nothing_at_zero, times_positive}

pub entries_positive : (s : Shape) → 0 < node_entries s
entries_positive Tiny = lit< tt
entries_positive Kernel = lit< tt

module _ {B L : Type 0} (f : FileState B L) (ok : IsFile f) where
  pub past_tickets : (i : ℕ) → inode_entries f.shape ≤ i → in_tickets f i ≡ None
  past_tickets i h = nothing_past_in only_at_zero (λ _. Unit {0}) 1 (lit< tt) (λ k. nothing_at_zero k) (inode_entries f.shape) f.tickets.slots.items i ok.tickets (omega arith)

  pub past_direct : (i : ℕ) → 2 * node_entries f.shape ≤ i → in_direct f i ≡ None
  past_direct i h =
      let e = node_entries f.shape in
      let p = entries_positive f.shape in
      nothing_past_in (find_direct e) (shaped_direct e) (e * 1) (omega arith) (λ k. refl) 2 f.direct.slots.items i ok.direct (omega arith)

  pub past_indirect : (i : ℕ) → 2 * (node_entries f.shape * node_entries f.shape) ≤ i → in_indirect f i ≡ None
  past_indirect i h =
      let e = node_entries f.shape in
      let p = entries_positive f.shape in
      let q : 0 < e * (e * 1) = times_positive e (e * 1) p (omega arith) in
      nothing_past_in (find_indirect e) (shaped_indirect e) (e * (e * 1)) q (λ k. refl) 2 f.indirect.slots.items i ok.indirect (omega arith)
