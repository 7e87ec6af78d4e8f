use Rattle.std.proofs.Common.{◌≡◌, ◌+◌, ◌-◌, ◌<◌, length, sym, subst, ◌∙◌, arith}
use Rattle.checkpoint_image.proofs.Turning.{got}
use Rattle.checkpoint_image.specs.View.{taken_view}
use Rattle.checkpoint.specs.Files.{IsStateOf}
use Rattle.checkpoint_sync.proofs.Laws.{number_is, state_is}
use Rattle.checkpoint_sync.proofs.lent.add_files.Goals as goal

pub find-requires-clause-number : goal.find-requires-clause-number
find-requires-clause-number g c =
    let book = g.V.Books.BooksName.books.book in
    let geometry = g.V.Numbers.GeometryName.geometry in
    let files = c.args.files.now.items in
    let file = c.index-file.result.now in
    let n = c.number.ensures in
    let some = n.some in
    let within = n.within in
    let every = c.requires.every in
    let long = c.args.files.now.ok.0 in
    let low : c.number.result - 1 < length files = omega arith in
    let back : c.number.result - 1 + 1 ≡ c.number.result = omega arith in
    number_is book geometry files (c.number.result - 1) file c.requires.accounts (got files (c.number.result - 1) file low c.index-file.ensures) c.law.ensures ∙ (back ∙ n.number)

pub add-requires : goal.add-requires
add-requires g c =
    let book = g.V.Books.BooksName.books.book in
    let geometry = g.V.Numbers.GeometryName.geometry in
    let files = c.args.files.now.items in
    let file = c.index-file.result.now in
    let some = c.number.ensures.some in
    let within = c.number.ensures.within in
    let every = c.requires.every in
    let long = c.args.files.now.ok.0 in
    let low : c.number.result - 1 < length files = omega arith in
    subst (λ i. IsStateOf (taken_view i) c.find.result.now) (sym c.loop-k.invariant.1)
    (state_is book geometry (taken_view c.args.image) files (c.number.result - 1) file c.find.result.now c.requires.trees (got files (c.number.result - 1) file low c.index-file.ensures) c.law.ensures
    c.find.ensures.state)
