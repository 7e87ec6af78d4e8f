use Rattle.std.proofs.Common.{List, IfOk, map, sym, subst}
use Rattle.rights_books.specs.Accounts.{AreFiles}
use Rattle.checkpoint_image.specs.View.{taken_view}
use Rattle.checkpoint_image.specs.Cells.{Filed}
use Rattle.checkpoint_sync.specs.FileParts.{filed_of}
use Rattle.checkpoint_sync.specs.LocksHeld.{HasTrees}
use Rattle.checkpoint_sync.proofs.Laws.{accounts_are, held_are}
use Rattle.checkpoint_sync.proofs.volume.take_volume.Goals as goal

pub take_image-requires-clause-accounts : goal.take_image-requires-clause-accounts
take_image-requires-clause-accounts g c = accounts_are g.V.Books.BooksName.books.book g.V.Numbers.GeometryName.geometry c.args.files.items c.requires.files

pub take_image-requires-clause-files : goal.take_image-requires-clause-files
take_image-requires-clause-files g c = held_are g.V.Books.BooksName.books.book g.V.Numbers.GeometryName.geometry c.args.files.items c.requires.files

pub add_files-requires-clause-accounts : goal.add_files-requires-clause-accounts
add_files-requires-clause-accounts g c =
    let book = g.V.Books.BooksName.books.book in
    subst (AreFiles book) (sym c.take_image.ensures.accounts) (accounts_are book g.V.Numbers.GeometryName.geometry c.args.files.items c.requires.files)

pub add_files-requires-clause-trees : goal.add_files-requires-clause-trees
add_files-requires-clause-trees g c =
    let trees = subst (λ (shown : List Filed). IfOk c.take_image.result (λ image. HasTrees (taken_view image) shown)) (sym c.take_image.ensures.files) c.take_image.ensures.trees in
    subst (λ r. IfOk r (λ image. HasTrees (taken_view image) (map (λ file. filed_of file.account file.state) c.take_image.new.files.items))) c.in-Ok.is trees
