-- The new ticket's owner is that of the index once its path is planted, so it may be put there.
use Rattle.std.proofs.Common.{ℕ, ◌<◌, List, length, ap, sym, subst, ◌∙◌, Some}
use Rattle.geometry.specs.declared.owner.Owner.{Owner}
use Rattle.geometry.specs.declared.shape.Shape.{Shape}
use Rattle.rights_books.specs.Accounts.{HandView}
use Rattle.geometry.specs.Path.{largest_length}
use Rattle.geometry.specs.Shape.{block_bytes}
use Rattle.geometry.specs.File.{written}
use Rattle.nodes.specs.File.{file_of}
use Rattle.nodes.specs.Useful.{is_off}
use Rattle.nodes.specs.Held.{with_spares}
use Rattle.nodes.proofs.Useful.{useful_some}
use Rattle.nodes.specs.Lacking.{end_number}
use Rattle.nodes_law.proofs.Names.{planted_owner}
use Rattle.file_cells.proofs.Beside.{beside_both, beside_serves}
use Rattle.file_cells.proofs.Lawful.{lawful_served}
use Rattle.file_cells.proofs.write.append_at.Goals as goal

pub append-requires-clause-bytes : goal.append-requires-clause-bytes
append-requires-clause-bytes g c = c.requires.file.whole ∙ ap block_bytes c.requires.file.shape_is

pub put_ticket-requires-clause-book : goal.put_ticket-requires-clause-book
put_ticket-requires-clause-book g c = ap (λ (h : HandView). h.book) c.in_ok-ticket.ensures.appended.hand ∙ c.requires.file.book_is

pub put_ticket-requires-clause-shape : goal.put_ticket-requires-clause-shape
put_ticket-requires-clause-shape g c = (c.plant_path.ensures.serves c.args.hand.now).shape ∙ c.requires.file.shape_is

pub put_ticket-requires-clause-inside : goal.put_ticket-requires-clause-inside
put_ticket-requires-clause-inside g c =
    subst (λ (s : Shape). c.args.block.now.index < largest_length s) (sym (c.plant_path.ensures.serves c.args.hand.now).shape) c.requires.file.inside

pub put_ticket-requires-clause-stored : goal.put_ticket-requires-clause-stored
put_ticket-requires-clause-stored g c = (c.plant_path.ensures.serves c.args.hand.now).stored

pub put_ticket-requires-clause-owner : goal.put_ticket-requires-clause-owner
put_ticket-requires-clause-owner g c =
    let shape = (c.plant_path.ensures.serves c.args.hand.now).shape in
    let inside = subst (λ (s : Shape). c.args.block.now.index < largest_length s) (sym shape) c.requires.file.inside in
    planted_owner c.args.file.now c.plant_path.new.file shape c.args.block.now.index inside c.plant_path.ensures.names (end_number c.args.spares.now) c.plant_path.ensures.end
    c.owner_with-owner.result c.owner_with-owner.ensures.owner ∙ ap (λ (o : Owner). Some o) (sym c.in_ok-ticket.ensures.appended.owner_is)

pub put_ticket-requires-clause-bytes : goal.put_ticket-requires-clause-bytes
put_ticket-requires-clause-bytes g c =
    ap (λ (bytes : List ℕ). length bytes) c.in_ok-ticket.ensures.appended.content
    ∙ (c.requires.file.whole ∙ ap block_bytes (sym (c.plant_path.ensures.serves c.args.hand.now).shape))

pub put_ticket-requires-clause-address : goal.put_ticket-requires-clause-address
put_ticket-requires-clause-address g c = c.in_ok-ticket.ensures.appended.low

pub put_ticket-requires-clause-held : goal.put_ticket-requires-clause-held
put_ticket-requires-clause-held g c =
    let held = c.requires.file.held in (
      c.args.hand.now,
      with_spares c.plant_path.new.spares held.0,
      c.in_ok-ticket.ensures.appended.hand,
      (c.plant_path.ensures.serves c.args.hand.now).others held.0 held.1,
    )

pub returns-clause-serves : goal.returns-clause-serves
returns-clause-serves g c =
    let hand = c.args.hand.now in
    let after = c.put_ticket.new.hand in
    let new = c.plant_path.new.file in
    let put = c.put_ticket.new.file in
    let spares = c.plant_path.new.spares in
    let planted = c.plant_path.ensures.serves hand in
    beside_both c.args.file.now new put c.args.spares.now spares spares hand hand after planted
    (beside_serves new put spares hand after planted.spare (c.put_ticket.ensures.serves hand c.in_ok-ticket.ensures.appended.hand))

pub returns-clause-law : goal.returns-clause-law
returns-clause-law g c =
    let files = g.V.Numbers.GeometryName.geometry.files in
    let law = c.plant_path.ensures.law files c.requires.file.law in
    let served = c.put_ticket.ensures.serves c.args.hand.now c.in_ok-ticket.ensures.appended.hand in
    lawful_served files c.plant_path.new.file c.put_ticket.new.file c.plant_path.new.spares c.plant_path.new.spares law served.shape
    (c.put_ticket.ensures.law files law.law) served.number

pub returns-clause-file : goal.returns-clause-file
returns-clause-file g c =
    c.put_ticket.ensures.file
    ∙ (ap (written (file_of c.plant_path.new.file) c.args.block.now.index) c.in_ok-ticket.ensures.appended.content
    ∙ ap (λ f. written f c.args.block.now.index c.args.block.now.bytes.now) c.plant_path.ensures.file)

pub returns-clause-useful : goal.returns-clause-useful
returns-clause-useful g c = λ all.
    c.put_ticket.ensures.useful (c.plant_path.ensures.useful (useful_some c.args.file.now c.requires.file.stored.file (is_off c.args.block.now.index) all))
