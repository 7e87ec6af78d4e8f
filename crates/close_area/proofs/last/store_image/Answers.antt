-- The image that is taken is lawful, so packs may store it. Of their cell only the kept body has changed before, in touched pages.
use Rattle.std.proofs.Common.{◌≡◌, ap, sym, subst, ◌∙◌}
use Rattle.image.specs.Pack.{body_bytes}
use Rattle.pack_tables.specs.Holding.{HoldsTables}
use Rattle.device.specs.Disk.{Leaves}
use Rattle.checkpoint.specs.Holding.{IsWrittenOver, counting_body}
use Rattle.rights_books.specs.Accounts.{AreFiles}
use Rattle.checkpoint_image.proofs.Touching.{changes_on}
use Rattle.checkpoint_image.specs.View.{taken_view}
use Rattle.checkpoint_sync.proofs.Laws.{accounts_are, held_are}
use Rattle.close_area.proofs.last.store_image.Goals as goal

pub take_image-image-requires-clause-accounts : goal.take_image-image-requires-clause-accounts
take_image-image-requires-clause-accounts g c = accounts_are g.V.Books.BooksName.books.book g.V.Numbers.GeometryName.geometry c.args.files.now.items c.requires.files

pub take_image-image-requires-clause-files : goal.take_image-image-requires-clause-files
take_image-image-requires-clause-files g c = held_are g.V.Books.BooksName.books.book g.V.Numbers.GeometryName.geometry c.args.files.now.items c.requires.files

pub invariant_of-packs-clause-of_rows : goal.invariant_of-packs-clause-of_rows
invariant_of-packs-clause-of_rows g c = c.take_image-image.ensures.kept.1 ∙ c.args.packs.now.of_rows

pub invariant_of-packs-clause-of_numbers : goal.invariant_of-packs-clause-of_numbers
invariant_of-packs-clause-of_numbers g c = c.take_image-image.ensures.kept.0 ∙ c.args.packs.now.of_numbers

pub invariant_of-packs-clause-touched : goal.invariant_of-packs-clause-touched
invariant_of-packs-clause-touched g c = λ sound.
    let old = c.args.packs.now in
    changes_on (body_bytes g.V.Numbers.GeometryName.geometry) old.body.body c.take_image-image.new.kept.body (counting_body g.M.Meta.seen old.packs) c.take_image-image.ensures.touched (old.touched sound)

pub tell_written-requires : goal.tell_written-requires
tell_written-requires g c =
    let book = g.V.Books.BooksName.books.book in
    subst (AreFiles book) (sym c.take_image-image.ensures.accounts) (accounts_are book g.V.Numbers.GeometryName.geometry c.args.files.now.items c.requires.files)

pub returns-in-Ok-clause-tables : goal.returns-in-Ok-clause-tables
returns-in-Ok-clause-tables g c =
    let written : c.into_image.result ≡ c.of.result.recorded.image = c.into_image.ensures ∙ ap (λ t. t.image) c.in-Ok.ensures.taken in
    subst (λ image. Leaves g.M.Meta.may_leave c.store.new.self.packs.area.meta (HoldsTables g.V.Numbers.GeometryName.geometry (taken_view image))) (sym written) c.in-Ok.ensures.held

pub returns-in-Ok-clause-any_moment : goal.returns-in-Ok-clause-any_moment
returns-in-Ok-clause-any_moment g c =
    let old = c.args.packs.now in
    let meta = g.M.Meta in
    let written : c.into_image.result ≡ c.of.result.recorded.image = c.into_image.ensures ∙ ap (λ t. t.image) c.in-Ok.ensures.taken in (
      old.packs,
      old.whole c.requires.sound,
      old.numbers,
      subst (λ image. IsWrittenOver meta.seen meta.moment meta.left_since old.packs c.store.new.self.packs.area.meta (taken_view image)) (sym written) c.store.ensures.any_moment,
    )
