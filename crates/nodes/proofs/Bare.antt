-- An inode that names nothing is a file of no block.
use Rattle.std.proofs.Common.{◌≡◌, ◌*◌, ◌/◌, ◌%◌, length, ap, ◌∙◌, subst, sym}
use Rattle.nodes.specs.declared.file.FileState.{FileState}
use Rattle.nodes.specs.Tree.{only_at_zero}
use Rattle.geometry.specs.Path.{inode_entries, node_entries}
use Rattle.nodes.specs.File.{IsFile, IsBare, in_tickets, in_direct, in_indirect, in_double, find_direct, find_indirect, find_double, shaped_direct, shaped_indirect, shaped_double}
use Rattle.nodes.specs.Laws.{nothing_at_zero}
use Rattle.nodes.proofs.Four.{empty_four}

module _ {B L : Type 0} (f : FileState B L) (bare : IsBare f) where
  pub bare_file : length f.tickets.slots.items ≡ inode_entries f.shape → length f.direct.slots.items ≡ 2
      → length f.indirect.slots.items ≡ 2 → length f.double.slots.items ≡ 1 → IsFile f
  bare_file a b c x =
      let e = node_entries f.shape in
      record {
        tickets = (a, λ k. tt);
        direct = (b, λ k. subst (λ s. shaped_direct e s) (sym (bare.direct k)) tt);
        indirect = (c, λ k. subst (λ s. shaped_indirect e s) (sym (bare.indirect k)) tt);
        double = (x, λ k. subst (λ s. shaped_double e s) (sym (bare.double k)) tt);
        within = empty_four (inode_entries f.shape) (2 * e) (2 * (e * e)) (in_tickets f) (in_direct f) (in_indirect f) (in_double f) f.length
            (λ j h. ap (λ s. only_at_zero s (j % 1)) (bare.tickets (j / 1)) ∙ nothing_at_zero (j % 1))
            (λ j h. ap (λ s. find_direct e s (j % (e * 1))) (bare.direct (j / (e * 1))))
            (λ j h. ap (λ s. find_indirect e s (j % (e * (e * 1)))) (bare.indirect (j / (e * (e * 1)))))
            (λ j h. ap (λ s. find_double e s (j % (e * (e * (e * 1))))) (bare.double (j / (e * (e * (e * 1))))));
      }
