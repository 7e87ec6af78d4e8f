-- The ticket's owner is that of the index, so it may be put there; the one that comes out is given back, and file and hand
-- change by the same two.
use Rattle.std.proofs.Common.{◌<◌, ap, sym, subst, ◌∙◌, Some, None}
use Rattle.geometry.specs.Mark.{same_mark}
use Rattle.geometry.specs.Shape.{block_bytes}
use Rattle.rights_books.specs.Accounts.{HandView}
use Rattle.rights_books.specs.Lists.{times}
use Rattle.nodes.specs.File.{file_of}
use Rattle.nodes.proofs.Files.{shows_file_of}
use Rattle.nodes_law.proofs.Lasting.{law_put}
use Rattle.nodes_law.proofs.Serving.{less_ticket, over_there, serves_put, serves_over, put_file}
use Rattle.file_cells.proofs.write.put_ticket.Goals as goal

pub put-requires-clause-file : goal.put-requires-clause-file
put-requires-clause-file g c = c.requires.stored.file

pub release-requires-clause-held : goal.release-requires-clause-held
release-requires-clause-held g c =
    let b = c.in-Some.before in
    let held = c.requires.held in
    subst (λ (h : HandView). 0 < times same_mark b.mark h.tickets) (sym held.2)
    (over_there c.args.file.now c.put.new.self held.0 c.args.index c.args.ticket b held.3 c.in-Some.ensures.change)

pub release-requires-clause-bytes : goal.release-requires-clause-bytes
release-requires-clause-bytes g c = c.requires.stored.whole c.args.index c.in-Some.before (sym c.in-Some.ensures.old) ∙ ap block_bytes c.requires.shape

pub returns-in-Some-clause-serves : goal.returns-in-Some-clause-serves
returns-in-Some-clause-serves g c = λ x there.
    (let put = c.in-Some.ensures in
    let b = c.in-Some.before in
    let old = c.args.file.now in
    let is = c.requires in
    serves_over old c.put.new.self x c.release.new.hand c.args.index c.args.ticket is.stored put.file put.shape is.inside put.length put.sets
    (put.written (file_of old) (shows_file_of old is.stored.file)) is.bytes put.namer is.owner b put.old put.change (c.release.ensures.hand ∙ ap (less_ticket b.mark) there))

pub returns-in-Some-clause-law : goal.returns-in-Some-clause-law
returns-in-Some-clause-law g c = λ files law.
    (let put = c.in-Some.ensures in
    law_put files c.args.file.now c.put.new.self law put.shape c.args.index (Some c.in-Some.before) c.args.ticket put.change c.requires.address)

pub returns-in-Some-clause-file : goal.returns-in-Some-clause-file
returns-in-Some-clause-file g c =
    let put = c.in-Some.ensures in
    let old = c.args.file.now in
    let is = c.requires in
    put_file old c.put.new.self c.args.hand.now c.release.new.hand c.args.index c.args.ticket is.stored put.file put.shape is.inside put.length put.sets
    (put.written (file_of old) (shows_file_of old is.stored.file)) is.bytes

pub returns-in-Some-clause-useful : goal.returns-in-Some-clause-useful
returns-in-Some-clause-useful g c = c.in-Some.ensures.useful

pub returns-in_default-clause-serves : goal.returns-in_default-clause-serves
returns-in_default-clause-serves g c = λ x there.
    (let put = c.in_default.ensures in
    let old = c.args.file.now in
    let is = c.requires in
    serves_put old c.put.new.self x c.args.hand.now c.args.index c.args.ticket is.stored put.file put.shape is.inside put.length put.sets
    (put.written (file_of old) (shows_file_of old is.stored.file)) is.bytes put.namer is.owner put.old put.change there)

pub returns-in_default-clause-law : goal.returns-in_default-clause-law
returns-in_default-clause-law g c = λ files law.
    (let put = c.in_default.ensures in
    law_put files c.args.file.now c.put.new.self law put.shape c.args.index None c.args.ticket put.change c.requires.address)

pub returns-in_default-clause-file : goal.returns-in_default-clause-file
returns-in_default-clause-file g c =
    let put = c.in_default.ensures in
    let old = c.args.file.now in
    let is = c.requires in
    put_file old c.put.new.self c.args.hand.now c.args.hand.now c.args.index c.args.ticket is.stored put.file put.shape is.inside put.length put.sets
    (put.written (file_of old) (shows_file_of old is.stored.file)) is.bytes

pub returns-in_default-clause-useful : goal.returns-in_default-clause-useful
returns-in_default-clause-useful g c = c.in_default.ensures.useful
