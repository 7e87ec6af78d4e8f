use Rattle.std.proofs.Common.{◌≡◌, ◌+◌, ◌-◌, [], ◌∷◌, length, length-append, ap, sym, ◌∙◌, subst, arith}
use Rattle.std.specs.Vec.Iter.{into_iter_items}
use Rattle.geometry.proofs.Indexing.{each_front, each_last}
use Rattle.rights_books.specs.PartRow.{name_of}
use Rattle.area.specs.Opening.{PartsFall}
use Rattle.nat.specs.Table.{IsShardAt}
use Rattle.mount.proofs.Rest.{EachFrom, first_of, rest_of}
use Rattle.mount.proofs.mounted_area.lock_loaded_shards.Goals as goal

pub new-requires-clause-shard : goal.new-requires-clause-shard
new-requires-clause-shard g c =
    let book = g.V.Books.BooksName.books.book in
    let nodes = g.V.Numbers.GeometryName.geometry.nodes in
    let at = c.shards in
    subst (λ n. IsShardAt book nodes n c.in-Some.shard) (sym c.len-number.ensures)
    (first_of (IsShardAt book nodes) _ (into_iter_items at.shard-iterator) (into_iter_items c.next.new.self) c.in-Some.shard c.in-Some.ensures.steps.0 at.invariant.2)

-- the account that is taken is of the shard that comes into its lock
pub new-requires-clause-row : goal.new-requires-clause-row
new-requires-clause-row g c =
    let n = g.V.Numbers.GeometryName.geometry.segments in
    let book = g.V.Books.BooksName.rows in
    let i = c.shards.invariant in
    let taken = c.take_row-row in
    let fall = subst (PartsFall book (n + 16)) taken.ensures i.4 in
    let here = each_last (λ k v. name_of v ≡ record { book = book; number = n + 16 - 1 - k }) taken.new.rows.items taken.result fall in
    let many = i.5 in
    let rows = c.shards.rows.ok.0 in
    let long = ap length taken.ensures ∙ length-append taken.new.rows.items (taken.result ∷ []) in
    let at = c.len-number.ensures in
    let number : n + 16 - 1 - length taken.new.rows.items ≡ n + c.len-number.result = omega arith in
    subst (λ m. name_of taken.result ≡ record { book = book; number = m }) number here

pub shards-preserved : goal.shards-preserved
shards-preserved g c =
    let book = g.V.Books.BooksName.books.book in
    let nodes = g.V.Numbers.GeometryName.geometry.nodes in
    let at = c.shards in
    let i = at.invariant in
    let steps = c.in-Some.ensures.steps in
    let short = ap (λ l. length l) steps.0 in
    let gone = steps.1 in
    let more = c.push_reserved.ensures.len in
    let room = c.push_reserved.ensures.capacity in
    let n = g.V.Numbers.GeometryName.geometry.segments in
    let taken = c.take_row-row in
    let fall = subst (PartsFall g.V.Books.BooksName.rows (n + 16)) taken.ensures i.4 in
    let long = ap length taken.ensures ∙ length-append taken.new.rows.items (taken.result ∷ []) in
    let rows = c.shards.rows.ok.0 in
    let left = taken.new.rows.ok.0 in (
      omega arith,
      omega arith,
      subst (λ n. EachFrom (IsShardAt book nodes) n (into_iter_items c.next.new.self)) (sym more)
          (rest_of (IsShardAt book nodes) _ (into_iter_items at.shard-iterator) (into_iter_items c.next.new.self) c.in-Some.shard steps.0 i.2),
      omega (arith, i.3),
      each_front (λ k v. name_of v ≡ record { book = g.V.Books.BooksName.rows; number = n + 16 - 1 - k }) taken.new.rows.items (taken.result ∷ []) fall,
      omega (arith, i.5),
    )
