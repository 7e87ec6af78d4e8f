-- The tables that were made for the image have the names of the books and the words.
use Rattle.std.proofs.Common.{◌≡◌, ℕ, List, ap, subst, ◌∙◌}
use Rattle.atomic_table.specs.Seated.{TableId}
use Rattle.rights_books.specs.ClaimRules.{Ruled}
use Rattle.rights_books.specs.declared.claim.Layout.{Layout}
use Rattle.image.specs.Files.{files as image_files}
use Rattle.image.specs.View.{image_view}
use Rattle.image_codec.specs.Blocks.{bytes_at}
use Rattle.mount.specs.Made.{IsMemory}
use Rattle.mount.specs.Mounted.{MountView}
use Rattle.mount.proofs.mounted.MountedQueues.name.Goals as goal

pub put_together-requires-clause-memory : goal.put_together-requires-clause-memory
put_together-requires-clause-memory g c =
    let device = c.mounted.inside.device in
    let memory = c.mounted.inside.tables.memory in
    let books = ap (λ (v : MountView g.row.M.Denot g.row.B.Denot). v.books) c.mounted.view_is ∙ c.args.self.named.of_books in
    let words = ap (λ (v : MountView g.row.M.Denot g.row.B.Denot). v.words) c.mounted.view_is ∙ c.args.self.named.of_words in
    subst (λ (w : TableId). IsMemory device.packs.geometry (image_view device.image) g.L.BooksName.books.book w memory) words
    (subst (λ (b : Ruled Layout). IsMemory device.packs.geometry (image_view device.image) b.book c.mounted.inside.tables.words.table memory) books c.mounted.invariant.made.memory)

pub put_together-requires-clause-of_rows : goal.put_together-requires-clause-of_rows
put_together-requires-clause-of_rows g c =
    ap (λ (v : MountView g.row.M.Denot g.row.B.Denot). v.rows) c.mounted.view_is ∙ c.args.self.named.of_rows

pub put_together-requires-clause-rows : goal.put_together-requires-clause-rows
put_together-requires-clause-rows g c = c.mounted.invariant.made.rows

pub returns-clause-passes : goal.returns-clause-passes
returns-clause-passes g c =
    c.put_together.ensures.passes
    ∙ ap (λ (v : MountView g.row.M.Denot g.row.B.Denot). image_files v.geometry v.image (bytes_at g.B.Block.content_of v.parts.blocks.items)) c.mounted.view_is
