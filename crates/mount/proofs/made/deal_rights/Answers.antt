-- There are as many accounts, rooms, standings and slips as segments, in one order: the slips come in falling order, and are
-- turned round into it.
use Rattle.std.proofs.Common.{◌≡◌, ap, sym, subst, ◌∙◌, length, vec_len, arith}
use Rattle.words.specs.Tokens.{fresh_slips}
use Rattle.area.specs.Rooms.{SlipsFallFrom}
use Rattle.area.proofs.RoomLemmas.{slips_long}
use Rattle.mount.proofs.Tables.{rights_made}
use Rattle.mount.proofs.made.deal_rights.Goals as goal

pub store_slips-slips-requires-clause-slips : goal.store_slips-slips-requires-clause-slips
store_slips-slips-requires-clause-slips g c =
    let dealt = c.in_ok-words.field-0 in
    let n = c.args.geometry.now.segments in
    let long : vec_len dealt.slips ≡ n = dealt.slips.ok.0 ∙ (ap length c.in_ok-words.ensures.slips ∙ slips_long dealt.words.table 0 n) in
    c.in_ok-words.ensures.slips ∙ ap (fresh_slips dealt.words.table 0) (sym long)

pub store_slips-slips-requires-clause-room : goal.store_slips-slips-requires-clause-room
store_slips-slips-requires-clause-room g c =
    let dealt = c.in_ok-words.field-0 in
    let n = c.args.geometry.now.segments in
    let long : vec_len dealt.slips ≡ n = dealt.slips.ok.0 ∙ (ap length c.in_ok-words.ensures.slips ∙ slips_long dealt.words.table 0 n) in
    let room = c.in_ok-slips.ensures.exact in omega arith

pub returns-clause-every_segment : goal.returns-clause-every_segment
returns-clause-every_segment g c = sym c.in_ok-rooms.rooms.ok.0 ∙ c.in_ok-rooms.ensures.count

pub returns-clause-rights : goal.returns-clause-rights
returns-clause-rights g c =
    let geometry = c.args.geometry.now in
    let n = geometry.segments in
    let dealt = c.in_ok-words.field-0 in
    let table = dealt.words.table in
    let stored = c.store_slips-slips.result in
    let long : vec_len dealt.slips ≡ n = dealt.slips.ok.0 ∙ (ap length c.in_ok-words.ensures.slips ∙ slips_long table 0 n) in
    let count : length stored.items ≡ n = sym stored.ok.0 ∙ (c.store_slips-slips.ensures.all ∙ long) in
    let fall : SlipsFallFrom table n stored.items = subst (λ m. SlipsFallFrom table m stored.items) long c.store_slips-slips.ensures.slips in
    let rooms : length c.in_ok-rooms.rooms.items ≡ n = sym c.in_ok-rooms.rooms.ok.0 ∙ c.in_ok-rooms.ensures.count in
    let accounts : length c.args.accounts.items ≡ n = sym c.args.accounts.ok.0 ∙ c.requires.every_account in
    λ book empty. rights_made geometry.shape book table n c.in_ok-rooms.rooms.items c.args.accounts.items dealt.standings.items stored.items c.reverse.new.self.items
    c.in_ok-rooms.ensures.ok rooms empty accounts c.in_ok-words.ensures.standings fall count c.reverse.ensures.items
