-- The last right, the last blocks and the highest number left are of one segment: it is filled and settled, and when
-- none is left each block has come and its ticket stands in the table.
use Rattle.std.proofs.Common.{◌≡◌, ◌+◌, ◌*◌, [], Option, None, length, get_or, refl, sym, ap, subst, ◌∙◌, arith}
use Rattle.std.proofs.lemmas.List.{length-replicate}
use Rattle.geometry.specs.declared.owner.Owner.{Owner}
use Rattle.geometry.specs.Address.{address_of}
use Rattle.geometry.specs.Area.{block_count}
use Rattle.geometry.specs.Shape.{segment_blocks}
use Rattle.image.specs.View.{image_view}
use Rattle.mount_blocks.specs.TreeGoods.{in_place}
use Rattle.tickets.specs.Placed.{Placed}
use Rattle.geometry.specs.Weights.{weigh}
use Rattle.rights_books.specs.Accounts.{SegmentView}
use Rattle.words.specs.Tokens.{fresh_post, fresh_slip}
use Rattle.sit.specs.Room.{RoomOf}
use Rattle.sit.specs.Loading.{Loaded}
use Rattle.mount_blocks.specs.Table.{AreTicketsPast}
use Rattle.mount_blocks.specs.States.{HasOwners, AreSegmentsFrom}
use Rattle.mount_blocks.proofs.Tables.{all_none, table_begins, table_weighs, nothing_weighs}
use Rattle.mount_blocks.proofs.Rights.{begun_is, all_come, bytes_of, have_own, segments_begin}
use Rattle.mount_blocks.proofs.segments.load_segments.Goals as goal

pub rights-init : goal.rights-init
rights-init g c =
    let geometry = c.args.geometry.now in
    let image = image_view c.args.image.now in
    let book = c.args.books.now.book in
    let table = c.args.words.now.table in
    let segments = c.args.memory.room in
    let count = c.requires.count in
    let none = c.requires.none in
    let tickets = c.args.tickets.now.items in
    record {
      rights = c.requires.rights;
      few = omega arith;
      run = c.requires.run;
      so_many = c.requires.blocks ∙ ap (λ n. n * segment_blocks geometry.shape) (sym count);
      capacity = refl;
      segments = subst (λ n. AreSegmentsFrom geometry image book table n segments.states.items segments.free.items segments.logs.items) (sym count)
          (segments_begin geometry image c.requires.lawful book table segments.states.items segments.free.items segments.logs.items none.0 none.1 none.2);
      states_fit = c.requires.states;
      free_fit = c.requires.free;
      places = ap length c.requires.tickets ∙ length-replicate (block_count geometry + 1) None;
      none = λ a low. ap (λ ts. get_or ts a None) c.requires.tickets ∙ all_none (block_count geometry + 1) a;
      bytes = λ bytes have. have;
      tickets = λ bytes have. subst (λ n. AreTicketsPast geometry image bytes n tickets) (sym c.requires.blocks) (table_begins geometry image bytes tickets c.requires.tickets);
      hand = λ h. (let nothing : weigh (in_place (λ (t : Placed). h t.mark)) tickets ≡ 0 = ap (weigh (in_place (λ (t : Placed). h t.mark))) c.requires.tickets ∙ nothing_weighs (λ (t : Placed). h t.mark) (block_count geometry + 1) in omega arith);
      tokens = refl;
      account = refl;
    }

pub load-loading-requires : goal.load-loading-requires
load-loading-requires g c =
    let right = c.in-Some.ensures.right in
    record { account = right.account_is ∙ (λ i. record { book = sym (ap (λ (a : SegmentView). a.book) right.account_is) i; segment = sym (ap (λ (r : RoomOf). r.number) right.room_is) i; marks = [] }) }

pub load_blocks-requires-clause-books : goal.load_blocks-requires-clause-books
load_blocks-requires-clause-books g c =
    let begun = c.load-loading.ensures ∙ begun_is c.in-Some.ensures.right in
    (sym (ap (λ (l : Loaded). l.book) begun), c.requires.layout ∙ ap (λ (l : Loaded). segment_blocks l.shape) (sym begun))

pub load_blocks-requires-clause-hand : goal.load_blocks-requires-clause-hand
load_blocks-requires-clause-hand g c =
    let begun = c.load-loading.ensures ∙ begun_is c.in-Some.ensures.right in
    c.rights.invariant.account ∙ (c.requires.hand ∙ ap (λ (l : Loaded). l.book) (sym begun))

pub load_blocks-requires-clause-shape : goal.load_blocks-requires-clause-shape
load_blocks-requires-clause-shape g c =
    let begun = c.load-loading.ensures ∙ begun_is c.in-Some.ensures.right in
    ap (λ (l : Loaded). l.shape) begun

pub load_blocks-requires-clause-number : goal.load_blocks-requires-clause-number
load_blocks-requires-clause-number g c =
    let begun = c.load-loading.ensures ∙ begun_is c.in-Some.ensures.right in
    let number = ap (λ (l : Loaded). l.number) begun in
    let count = c.in-Some.ensures.count in
    let few = c.rights.invariant.few in
    omega arith

pub load_blocks-requires-clause-sized : goal.load_blocks-requires-clause-sized
load_blocks-requires-clause-sized g c =
    let begun = c.load-loading.ensures ∙ begun_is c.in-Some.ensures.right in
    ap (λ (l : Loaded). length l.summaries) begun ∙ length-replicate {A = Option Owner} (segment_blocks c.args.geometry.now.shape) None

pub load_blocks-requires-clause-left : goal.load_blocks-requires-clause-left
load_blocks-requires-clause-left g c =
    let begun = c.load-loading.ensures ∙ begun_is c.in-Some.ensures.right in
    ap (λ (l : Loaded). l.left) begun

pub load_blocks-requires-clause-last : goal.load_blocks-requires-clause-last
load_blocks-requires-clause-last g c =
    let begun = c.load-loading.ensures ∙ begun_is c.in-Some.ensures.right in
    let rest = length c.take_last.new.self.rooms.items in
    let count = c.in-Some.ensures.count in
    let blocks = c.rights.invariant.so_many in
    let shape = c.args.geometry.now.shape in
    let n = segment_blocks shape in
    let many : length c.rights.rights.rooms.items * n ≡ rest * n + n = ap (λ k. k * n) count ∙ omega arith in
    let place : address_of shape rest n ≡ 1 + length c.rights.blocks.items = omega arith in
    ap (λ (l : Loaded). address_of shape l.number n) begun ∙ place

pub settle-requires-clause-whose : goal.settle-requires-clause-whose
settle-requires-clause-whose g c =
    let begun = c.load-loading.ensures ∙ begun_is c.in-Some.ensures.right in
    let rest = length c.take_last.new.self.rooms.items in
    let whose = c.load_blocks.ensures.whose in
    let number : c.len-number.result ≡ rest = let long = c.take_last.new.self.rooms.ok.0 in let count = c.len-number.ensures in omega arith in
    (whose.0 ∙ ap (λ (l : Loaded). l.shape) begun, whose.1 ∙ (ap (λ (l : Loaded). l.number) begun ∙ sym number), whose.2 ∙ ap (λ (l : Loaded). l.book) begun)

pub settle-requires-clause-owners : goal.settle-requires-clause-owners
settle-requires-clause-owners g c =
    let begun = c.load-loading.ensures ∙ begun_is c.in-Some.ensures.right in
    let rest = length c.take_last.new.self.rooms.items in
    let number : c.len-number.result ≡ rest = let long = c.take_last.new.self.rooms.ok.0 in let count = c.len-number.ensures in omega arith in
    subst (λ k. HasOwners c.args.geometry.now (image_view c.args.image.now) k 0 c.load_blocks.new.loading.summaries) (c.load_blocks.ensures.whose.1 ∙ (ap (λ (l : Loaded). l.number) begun ∙ sym number)) c.load_blocks.ensures.owners

pub settle-requires-clause-standing : goal.settle-requires-clause-standing
settle-requires-clause-standing g c =
    let rest = length c.take_last.new.self.rooms.items in
    let number : c.len-number.result ≡ rest = let long = c.take_last.new.self.rooms.ok.0 in let count = c.len-number.ensures in omega arith in
    c.in-Some.ensures.right.standing_is ∙ ap (fresh_post c.args.words.now.table) (sym number)

pub settle-requires-clause-slip : goal.settle-requires-clause-slip
settle-requires-clause-slip g c =
    let rest = length c.take_last.new.self.rooms.items in
    let number : c.len-number.result ≡ rest = let long = c.take_last.new.self.rooms.ok.0 in let count = c.len-number.ensures in omega arith in
    c.in-Some.ensures.right.slip_is ∙ ap (fresh_slip c.args.words.now.table) (sym number)

pub rights-preserved : goal.rights-preserved
rights-preserved g c =
    let shape = c.args.geometry.now.shape in
    let before = c.rights.invariant in
    let rest = length c.take_last.new.self.rooms.items in
    let begun = c.load-loading.ensures ∙ begun_is c.in-Some.ensures.right in
    let number : c.len-number.result ≡ rest = let long = c.take_last.new.self.rooms.ok.0 in let count = c.len-number.ensures in omega arith in
    let here = c.load_blocks.ensures in
    let first : address_of shape rest 0 ≡ 1 + length c.load_blocks.new.blocks.items = ap (λ k. address_of shape k 0) (sym (here.whose.1 ∙ ap (λ (l : Loaded). l.number) begun)) ∙ here.rest in
    let settled = c.settle.ensures in
    let states_same = settled.states in
    let free_same = settled.free in
    let states_fit = before.states_fit in
    let free_fit = before.free_fit in
    let count = c.in-Some.ensures.count in
    let few = before.few in
    record {
      rights = c.in-Some.ensures.others;
      few = omega arith;
      run = here.run;
      so_many = omega arith;
      capacity = here.capacity ∙ before.capacity;
      segments = subst (λ k. AreSegmentsFrom c.args.geometry.now (image_view c.args.image.now) c.args.books.now.book c.args.words.now.table k c.settle.new.self.states.items c.settle.new.self.free.items c.settle.new.self.logs.items) number settled.segments;
      states_fit = omega arith;
      free_fit = omega arith;
      places = here.places;
      none = here.none;
      bytes = λ bytes have. here.bytes bytes (before.bytes bytes have);
      tickets = λ bytes have. here.tickets bytes (before.bytes bytes have) (before.tickets bytes have);
      hand = λ h. (let so_far = before.hand h in let more = here.hand h in omega arith);
      tokens = here.tokens ∙ before.tokens;
      account = here.book ∙ before.account;
    }

pub returns-clause-tickets : goal.returns-clause-tickets
returns-clause-tickets g c =
    let before = c.rights.invariant in
    λ bytes have. all_come c.args.geometry.now (image_view c.args.image.now) bytes c.rights.tickets.items _ _ c.in_default.ensures.count before.so_many (before.tickets bytes have)

pub returns-clause-named : goal.returns-clause-named
returns-clause-named g c =
    let before = c.rights.invariant in
    let geometry = c.args.geometry.now in
    let image = image_view c.args.image.now in
    let bytes = bytes_of g.B.Block.content_of c.args.blocks.now.items in
    let have = have_own g.B.Block.content_of c.args.blocks.now.items in
    λ h. table_weighs geometry image bytes c.rights.tickets.items h c.requires.lawful (all_come geometry image bytes c.rights.tickets.items _ _ c.in_default.ensures.count before.so_many (before.tickets bytes have))

pub returns-clause-hand : goal.returns-clause-hand
returns-clause-hand g c =
    let before = c.rights.invariant in
    let bytes = bytes_of g.B.Block.content_of c.args.blocks.now.items in
    let have = have_own g.B.Block.content_of c.args.blocks.now.items in
    let geometry = c.args.geometry.now in
    let image = image_view c.args.image.now in
    let all = all_come geometry image bytes c.rights.tickets.items _ _ c.in_default.ensures.count before.so_many (before.tickets bytes have) in
    λ h. (let so_far = before.hand h in let named = table_weighs geometry image bytes c.rights.tickets.items h c.requires.lawful all in omega arith)
