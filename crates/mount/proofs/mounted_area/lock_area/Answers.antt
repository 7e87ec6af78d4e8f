use Rattle.std.proofs.Common.{◌+◌, length, ap, subst, arith}
use Rattle.geometry.specs.declared.geometry.Geometry.{Geometry}
use Rattle.image.specs.View.{image_view}
use Rattle.pool.specs.declared.law.Account.{Account}
use Rattle.mount.specs.Logs.{EachStands}
use Rattle.area.specs.Opening.{SegmentsFall, PartsFall}
use Rattle.mount.proofs.Slips.{loaded_slips, few_free, loaded_fall, loaded_logs}
use Rattle.mount.proofs.Pooled.{has_put}
use Rattle.mount.proofs.mounted_area.lock_area.Goals as goal

pub put_slips-requires-clause-words : goal.put_slips-requires-clause-words
put_slips-requires-clause-words g c =
    loaded_slips c.args.geometry (image_view c.args.image.now) g.V.Books.BooksName.books.book g.V.Words.WordsName.words _ _ _ c.requires.segments

pub put_slips-requires-clause-room : goal.put_slips-requires-clause-room
put_slips-requires-clause-room g c =
    let few = few_free c.args.geometry (image_view c.args.image.now) g.V.Books.BooksName.books.book g.V.Words.WordsName.words _ _ _ c.requires.segments in
    let long = c.args.loaded.segments.free.ok.0 in
    let none = ap (λ (a : Account). length a.ordinary.put) c.requires.pass in
    let slots = c.requires.pool in
    let same = ap (λ (x : Geometry). x.segments) c.requires.geometry in
    omega arith

pub lock_segments-segments-requires-clause-states : goal.lock_segments-segments-requires-clause-states
lock_segments-segments-requires-clause-states g c =
    let book = g.V.Books.BooksName.books.book in
    let table = g.V.Words.WordsName.words in
    subst (λ (x : Geometry). SegmentsFall x book table x.segments c.args.loaded.segments.states.items) c.requires.geometry
    (loaded_fall c.args.geometry (image_view c.args.image.now) book table _ _ _ c.requires.segments)

pub lock_segments-segments-requires-clause-rows : goal.lock_segments-segments-requires-clause-rows
lock_segments-segments-requires-clause-rows g c =
    subst (λ (x : Geometry). PartsFall g.V.Books.BooksName.rows (x.segments + 16) c.args.tables.parts.items) c.requires.geometry c.requires.parts

pub lock_segments-segments-requires-clause-every_row : goal.lock_segments-segments-requires-clause-every_row
lock_segments-segments-requires-clause-every_row g c =
    let long = c.args.tables.parts.ok.0 in
    let all = c.requires.every_part in
    let same = ap (λ (x : Geometry). x.segments) c.requires.geometry in omega arith

pub lock_loaded_logs-logs-requires-clause-slips : goal.lock_loaded_logs-logs-requires-clause-slips
lock_loaded_logs-logs-requires-clause-slips g c =
    let table = g.V.Words.WordsName.words in
    subst (λ (x : Geometry). EachStands table x.segments c.args.loaded.segments.logs.items) c.requires.geometry
    (loaded_logs c.args.geometry (image_view c.args.image.now) g.V.Books.BooksName.books.book table _ _ _ c.requires.segments c.requires.lawful)

pub returns-clause-free : goal.returns-clause-free
returns-clause-free g c =
    has_put c.args.geometry (image_view c.args.image.now) g.V.Books.BooksName.books.book g.V.Words.WordsName.words _ _ _ c.requires.segments
    c.args.tables.pass c.put_slips.new.pass c.lock_loaded_logs-logs.new.pass c.requires.pass c.put_slips.ensures.put c.lock_loaded_logs-logs.ensures.lists
