-- The indexes ascend, so the search finds the lease of an index, or shows that the file has a hole there.
use Rattle.std.proofs.Common.{◌≡◌, ◌∙◌, ◌<◌, length, get_or, replicate, ap, subst, arith, Err}
use Rattle.std.specs.List.Sorted.{IsBinarySearchResult}
use Rattle.std.specs.Ordering.{nat_cmp}
use Rattle.std.specs.declared.cmp.Ordering.TheVariants.{Equal}
use Rattle.file_cells.specs.Reader.{SnapshotOf}
use Rattle.geometry.specs.Shape.{block_bytes}
use Rattle.geometry.specs.File.{bytes_at}
use Rattle.file_cells.proofs.Searching.{equal_is, not_among}
use Rattle.file_cells.proofs.Shown.{shown_block, shown_hole}
use Rattle.file_cells.proofs.reader.Reader.block.Goals as goal

pub returns-in-Err-clause-below : goal.returns-in-Err-clause-below
returns-in-Err-clause-below g c = λ _.
    let r = c.self.inside in
    let law = c.self.invariant in
    let bytes = block_bytes g.V.Numbers.GeometryName.geometry.shape in
    let view = c.self.view_is in
    let long = ap (λ (s : SnapshotOf). s.file.length) view in
    let found = subst (λ xs. IsBinarySearchResult (λ y. nat_cmp y c.args.index) xs (Err c.in-Err.field-0)) c.as_slice.ensures.value c.in-Err.ensures.position in
    let hole = shown_hole g.B.Lease.AsSlice.items r.file.value r.indexes.items r.leases.items law.file law.lent bytes c.args.index (not_among r.indexes.items c.args.index c.in-Err.field-0 law.lent.rising found) in
    let filled : c.fill.new.self ≡ replicate bytes 0 = c.fill.ensures.after (λ y e. e) ∙ ap (λ n. replicate n 0) c.requires in (
      let a = law.long in let b = c.if-index-self.false in omega arith,
      filled ∙ (hole ∙ ap (λ (s : SnapshotOf). bytes_at bytes s.file c.args.index) view),
    )

pub returns-in-Ok-clause-below : goal.returns-in-Ok-clause-below
returns-in-Ok-clause-below g c = λ _.
    let r = c.self.inside in
    let law = c.self.invariant in
    let items = g.B.Lease.AsSlice.items in
    let bytes = block_bytes g.V.Numbers.GeometryName.geometry.shape in
    let view = c.self.view_is in
    let long = ap (λ (s : SnapshotOf). s.file.length) view in
    let k = c.in-Ok.rank in
    let value = c.as_slice.ensures.value in
    let within = subst (λ xs. k < length xs) value c.in-Ok.ensures.bound in
    let here = equal_is (get_or r.indexes.items k 0) c.args.index (subst (λ xs. nat_cmp (get_or xs k 0) c.args.index ≡ Equal) value (c.in-Ok.ensures.ok 0)) in
    let lease = c.index.result.now in
    let same = shown_block items r.file.value r.indexes.items r.leases.items law.file law.lent bytes c.args.index k lease within here in (
      let a = law.long in let b = c.if-index-self.false in omega arith,
      c.copy_from_slice.ensures.after ∙ (c.as_slice-in-Ok.ensures ∙ (ap items c.index.ensures ∙ (same ∙ ap (λ (s : SnapshotOf). bytes_at bytes s.file c.args.index) view))),
    )
