-- What was read off the old block is appended and put at the same index, so the file stays as it was; the ticket that
-- comes out, which was there, names the old block and is given back.
use Rattle.std.proofs.Common.{◌≡◌, ◌<◌, Some, refl, ap, sym, ◌∙◌, subst, length, arith}
use Rattle.geometry.specs.Path.{path}
use Rattle.geometry.specs.Shape.{block_bytes}
use Rattle.nodes.specs.File.{file_of, ticket_at, address_of}
use Rattle.nodes.specs.Owners.{owner_at}
use Rattle.nodes.specs.Useful.{IsUseful, each_node, is_off}
use Rattle.nodes.proofs.Files.{shows_file_of}
use Rattle.nodes.proofs.Useful.{useful_some}
use Rattle.nodes_law.specs.Law.{FileStateLaw}
use Rattle.nodes_law.proofs.Lasting.{law_put}
use Rattle.nodes_law.specs.Contents.{IsStored, InHand, Serves}
use Rattle.cleaning.specs.Moves.{MovesAt}
use Rattle.cleaning.proofs.Served.{served_stays}
use Rattle.cleaning.proofs.Moving.{block_serves, block_file, block_there, block_moved, read_there, some_ticket, way_there, valid_owner}
use Rattle.cleaning.proofs.block.move_block.Given as given
use Rattle.cleaning.proofs.block.move_block.Goals as goal
use Rattle.cleaning.proofs.block.move_block.Goals.{After-release}

pub returns-in_err-read-clause-served : goal.returns-in_err-read-clause-served
returns-in_err-read-clause-served g c =
    served_stays g.V.Numbers.GeometryName.geometry.files c.args.file.now c.read.new.self c.args.hand.now c.args.hand.now c.requires.file.stored c.requires.file.law c.read.ensures.same refl

pub returns-in_err-ticket-clause-served : goal.returns-in_err-ticket-clause-served
returns-in_err-ticket-clause-served g c =
    served_stays g.V.Numbers.GeometryName.geometry.files c.args.file.now c.read.new.self c.args.hand.now c.append_elsewhere.new.hand c.requires.file.stored c.requires.file.law c.read.ensures.same
    c.in_err-ticket.ensures.err

pub release-requires-clause-held : goal.release-requires-clause-held
release-requires-clause-held g c =
    let same = c.read.ensures.same in
    let old = c.read.new.self in
    let put = c.in-Some.ensures in
    let got = c.in_ok-ticket.ensures in
    let at = ap (λ f. ticket_at f c.args.index) (sym same) ∙ sym put.old in
    let is = subst (λ f. IsStored f) (sym same) c.requires.file.stored in
    block_there old c.put.new.self c.args.hand.now c.append_elsewhere.new.hand c.append_elsewhere.new.hand c.args.index c.in_ok-ticket.ticket c.in-Some.before is put.file put.shape put.kind
    (subst (λ f. c.args.index < f.length) (sym same) c.requires.inside) put.length put.old put.sets (put.written (file_of old) (shows_file_of old is.file)) put.change
    (got.appended.content ∙ read_there (ticket_at c.args.file.now c.args.index) c.in-Some.before (length c.args.bytes.now) c.read.new.out c.in_ok-read.ensures.bytes at) got.appended.hand
    c.requires.file.held.0 (subst (λ f. InHand c.requires.file.held.0 f c.args.hand.now) (sym same) c.requires.file.held.1)

-- The file, which the read leaves as it was; and the bytes that were read, which are those of the new ticket.
module _ (g : given.Over) (c : After-release g) where
  stored : IsStored c.read.new.self
  stored = subst (λ f. IsStored f) (sym c.read.ensures.same) c.requires.file.stored

  within : c.args.index < c.read.new.self.length
  within = subst (λ f. c.args.index < f.length) (sym c.read.ensures.same) c.requires.inside

  named : owner_at c.read.new.self (path c.read.new.self.shape c.args.index) ≡ Some c.args.mark.owner
  named = subst (λ f. owner_at f (path f.shape c.args.index) ≡ Some c.args.mark.owner) (sym c.read.ensures.same) c.requires.owner

  copied : c.in_ok-ticket.ticket.content ≡ c.in-Some.before.content
  copied =
      let at = ap (λ f. ticket_at f c.args.index) (sym c.read.ensures.same) ∙ sym c.in-Some.ensures.old in
      c.in_ok-ticket.ensures.appended.content ∙ read_there (ticket_at c.args.file.now c.args.index) c.in-Some.before (length c.args.bytes.now) c.read.new.out c.in_ok-read.ensures.bytes at

  serves : Serves c.args.file.now c.put.new.self c.args.hand.now c.release.new.hand
  serves =
      subst (λ f. Serves f c.put.new.self c.args.hand.now c.release.new.hand) c.read.ensures.same
      (block_serves c.read.new.self c.put.new.self c.args.hand.now c.append_elsewhere.new.hand c.release.new.hand c.args.index c.in_ok-ticket.ticket c.in-Some.before stored c.in-Some.ensures.file c.in-Some.ensures.shape c.in-Some.ensures.kind
      within c.in-Some.ensures.length c.in-Some.ensures.old c.in-Some.ensures.sets (c.in-Some.ensures.written (file_of c.read.new.self) (shows_file_of c.read.new.self stored.file)) c.in-Some.ensures.change
      copied c.in_ok-ticket.ensures.appended.hand
      c.in-Some.ensures.namer (named ∙ ap (λ o. Some o) (sym c.in_ok-ticket.ensures.appended.owner_is)) c.release.ensures.hand)

  same : file_of c.put.new.self ≡ file_of c.args.file.now
  same =
      block_file c.read.new.self c.put.new.self c.args.hand.now c.append_elsewhere.new.hand c.release.new.hand c.args.index c.in_ok-ticket.ticket c.in-Some.before stored c.in-Some.ensures.file c.in-Some.ensures.shape c.in-Some.ensures.kind
      within c.in-Some.ensures.length c.in-Some.ensures.old c.in-Some.ensures.sets (c.in-Some.ensures.written (file_of c.read.new.self) (shows_file_of c.read.new.self stored.file)) c.in-Some.ensures.change
      copied c.in_ok-ticket.ensures.appended.hand
      ∙ ap (λ f. file_of f) c.read.ensures.same

  law : FileStateLaw g.V.Numbers.GeometryName.geometry.files c.put.new.self
  law =
      let files = g.V.Numbers.GeometryName.geometry.files in
      let put = c.in-Some.ensures in
      let some = c.in_ok-ticket.ensures.appended.low in
      law_put files c.read.new.self c.put.new.self (subst (λ f. FileStateLaw files f) (sym c.read.ensures.same) c.requires.file.law) put.shape
      c.args.index (Some c.in-Some.before) c.in_ok-ticket.ticket put.change (omega arith)

  useful : IsUseful each_node c.args.file.now → IsUseful each_node c.put.new.self
  useful all =
      let was = subst (λ f. IsUseful each_node f) (sym c.read.ensures.same) all in
      c.in-Some.ensures.useful (useful_some c.read.new.self stored.file (is_off c.args.index) was)

pub returns-clause-served : goal.returns-clause-served
returns-clause-served g c = record { serves = serves g c; law = law g c; useful = useful g c; file = same g c }

pub returns-clause-moved : goal.returns-clause-moved
returns-clause-moved g c =
    let there = subst (λ f. address_of (ticket_at f c.args.index) ≡ c.args.mark.address) (sym c.read.ensures.same) c.requires.there in
    let moved = block_moved c.read.new.self c.put.new.self c.args.hand.now c.append_elsewhere.new.hand c.release.new.hand c.args.index c.in_ok-ticket.ticket c.in-Some.before (stored g c) c.in-Some.ensures.file c.in-Some.ensures.shape c.in-Some.ensures.kind
    (within g c) c.in-Some.ensures.length c.in-Some.ensures.old c.in-Some.ensures.sets (c.in-Some.ensures.written (file_of c.read.new.self) (shows_file_of c.read.new.self (stored g c).file)) c.in-Some.ensures.change
    (copied g c) c.in_ok-ticket.ensures.appended.hand
    c.args.mark there (named g c) c.in_ok-ticket.ensures.elsewhere c.in_ok-ticket.ensures.appended.owner_is in
    (moved.0, moved.1, subst (λ f. MovesAt c.args.mark f c.put.new.self c.args.index moved.0 moved.1) c.read.ensures.same moved.2)

pub append_elsewhere-requires-clause-owner : goal.append_elsewhere-requires-clause-owner
append_elsewhere-requires-clause-owner g c = valid_owner c.args.file.now c.requires.file.stored.numbered c.args.index c.args.mark.owner c.requires.owner

pub put-requires-clause-path : goal.put-requires-clause-path
put-requires-clause-path g c =
    let there = subst (λ f. address_of (ticket_at f c.args.index) ≡ c.args.mark.address) (sym c.read.ensures.same) c.requires.there in
    let some = c.requires.file.some in
    let one = some_ticket (ticket_at c.read.new.self c.args.index) (omega arith) in
    way_there c.read.new.self c.args.index one.0 one.1

pub release-requires-clause-bytes : goal.release-requires-clause-bytes
release-requires-clause-bytes g c =
    c.requires.file.stored.whole c.args.index c.in-Some.before (ap (λ f. ticket_at f c.args.index) (sym c.read.ensures.same) ∙ sym c.in-Some.ensures.old)
    ∙ ap block_bytes c.requires.file.shape_is

pub unreachable-requires : goal.unreachable-requires
unreachable-requires g c =
    let there = subst (λ f. address_of (ticket_at f c.args.index) ≡ c.args.mark.address) (sym c.read.ensures.same) c.requires.there in
    let none = ap address_of c.in-None.ensures.old in
    let some = c.requires.file.some in
    omega arith
