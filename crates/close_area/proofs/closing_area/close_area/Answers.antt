use Rattle.std.proofs.Common.{◌≡◌, ◌+◌, length, ap, sym, subst, ◌∙◌, arith}
use Rattle.image_law.specs.Items.{Among}
use Rattle.checkpoint_image.specs.View.{taken_view}
use Rattle.checkpoint.specs.Files.{HoldContents}
use Rattle.close_area.specs.HeldTokens.{HoldTokens}
use Rattle.nodes.specs.File.{file_of}
use Rattle.image_codec.specs.Blocks.{bytes_at}
use Rattle.close_area.specs.Returned.{living}
use Rattle.close_area.proofs.Giving.{all_left}
use Rattle.close_area.proofs.Mounting.{nodes_are, files_shown}
use Rattle.close_area.proofs.closing_area.close_area.Given as given
use Rattle.close_area.proofs.closing_area.close_area.Goals as goal

-- no file is left
none_left : (g : given.Over) (c : goal.After-empty g) → living c.return_files.new.files.items ≡ 0
none_left g c =
    let count = c.return_files.ensures.count in
    let enough = c.requires.enough in
    omega arith

pub into_accounts-requires-clause-none : goal.into_accounts-requires-clause-none
into_accounts-requires-clause-none g c =
    let count = c.return_files.ensures.count in
    let enough = c.requires.enough in
    omega arith

pub returns-clause-nodes : goal.returns-clause-nodes
returns-clause-nodes g c =
    let bytes = bytes_at g.B.Block.content_of c.empty.result.items in
    let none = none_left g c in
    let home = c.return_files.ensures.home bytes c.empty.ensures.home in
    let hold = all_left (λ k d f. HoldContents bytes f × HoldTokens bytes d.account.tokens) c.args.files.items c.return_files.new.files.items none home.1 in
    nodes_are g.V.Books.BooksName.books.book g.V.Numbers.GeometryName.geometry c.args.files.items (taken_view c.args.image.now) bytes c.args.passes.items c.requires.files c.requires.taken hold

pub returns-clause-files : goal.returns-clause-files
returns-clause-files g c =
    let bytes = bytes_at g.B.Block.content_of c.empty.result.items in
    let none = none_left g c in
    let home = c.return_files.ensures.home bytes c.empty.ensures.home in
    let hold = all_left (λ k d f. HoldContents bytes f × HoldTokens bytes d.account.tokens) c.args.files.items c.return_files.new.files.items none home.1 in
    let given = all_left (λ k d f. Among (record { number = k + 1; file = file_of f }) c.args.passes.items) c.args.files.items c.return_files.new.files.items none c.return_files.ensures.given in
    let long = c.args.files.ok.0 in
    files_shown g.V.Books.BooksName.books.book g.V.Numbers.GeometryName.geometry c.args.files.items (taken_view c.args.image.now) bytes c.args.passes.items c.requires.files c.requires.taken hold given c.return_files.ensures.shown
    (sym long ∙ c.requires.every)
