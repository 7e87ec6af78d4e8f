use Rattle.std.proofs.Common.{◌≡◌, ◌<◌, ◌≤◌, ◌+◌, suc, List, [], ◌∷◌, ◌++◌, length, take, map, ap, sym, subst, ◌∙◌, arith}
use Rattle.std.specs.Option.{option_map}
use Rattle.std.proofs.lemmas.List.{length-take-le, take_all}
use Rattle.std.proofs.lemmas.Option.{slice_get-map}
use Rattle.std.proofs.Math.Seq.{take-suc}
use Rattle.checkpoint_image.proofs.Turning.{got}
use Rattle.checkpoint_sync.specs.WrittenFiles.{AreWritten}
use Rattle.checkpoint_sync.proofs.Seen.{one_more}
use Rattle.file_cells.specs.Cell.{CellView}
use Rattle.close_area.proofs.telling.tell_written.Goals as goal

pub loop-k-preserved : goal.loop-k-preserved
loop-k-preserved g c =
    let book = g.V.Books.BooksName.books.book in
    let geometry = g.V.Numbers.GeometryName.geometry in
    let items : List (CellView g.row.B.Denot g.row.B-Lease.Denot) = c.args.files.now.items in
    let long = c.args.files.now.ok.0 in
    let end = c.len-k-end.ensures in
    let test = c.loop-k-test.true in
    let low : c.loop-k.k < length items = omega arith in
    let cell : CellView g.row.B.Denot g.row.B-Lease.Denot = c.index.result.now in
    let there = got items c.loop-k.k cell low c.index.ensures in
    let account = c.requires c.loop-k.k cell.account (slice_get-map (λ (x : CellView g.row.B.Denot g.row.B-Lease.Denot). x.account) items c.loop-k.k ∙ ap (option_map (λ (x : CellView g.row.B.Denot g.row.B-Lease.Denot). x.account)) there) in
    let count : length (take c.loop-k.k items) ≡ c.loop-k.k = length-take-le c.loop-k.k items (omega arith) in
    let number : cell.number ≡ length (take c.loop-k.k items) + 1 = sym c.law.ensures.lawful.inode_is ∙ (account.0 ∙ ap (λ n. n + 1) (sym count)) in
    let next : suc c.loop-k.k ≡ c.loop-k.k + 1 = omega arith in
    subst (λ n. AreWritten book geometry (take n items)) next
    (subst (AreWritten book geometry) (sym (take-suc items c.loop-k.k cell low))
    (subst (λ (x : CellView g.row.B.Denot g.row.B-Lease.Denot). AreWritten book geometry (take c.loop-k.k items ++ x ∷ [])) c.index.ensures
    (one_more book geometry (take c.loop-k.k items) cell c.loop-k.invariant number c.law.ensures)))

pub returns : goal.returns
returns g c =
    let items : List (CellView g.row.B.Denot g.row.B-Lease.Denot) = c.args.files.now.items in
    let long = c.args.files.now.ok.0 in
    let end = c.len-k-end.ensures in
    let past = c.loop-k-test.false in
    let all : length items ≤ c.loop-k.k = omega arith in
    subst (AreWritten g.V.Books.BooksName.books.book g.V.Numbers.GeometryName.geometry) (take_all c.loop-k.k items all) c.loop-k.invariant
