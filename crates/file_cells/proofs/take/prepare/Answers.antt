-- The next block's ticket is lodged in the account, so it lies in a segment, which is noted; the walk goes on past its index,
-- and ends where no block is left.
use Rattle.std.proofs.Common.{◌≡◌, ◌∙◌, ◌+◌, ◌<◌, ◌≤◌, ℕ, List, length, get_or, set, Some, true, false, sym, ap, subst, arith}
use Rattle.std.specs.Prelude.{MatchOption}
use Rattle.std.proofs.lemmas.List.{get_or-set_same, length-set}
use Rattle.geometry.specs.Address.{segment_of}
use Rattle.geometry.specs.Area.{block_count}
use Rattle.geometry.specs.Path.{largest_length}
use Rattle.geometry.specs.declared.geometry.Geometry.{Geometry}
use Rattle.rights_books.specs.ClaimRules.{Ruled}
use Rattle.rights_books.specs.declared.claim.Layout.{Layout}
use Rattle.nodes.specs.Tree.{EmptyFrom}
use Rattle.nodes.specs.File.{ticket_at, address_of}
use Rattle.tickets.specs.Placed.{Placed}
use Rattle.nodes_walks.specs.Lent.{IsNextLent}
use Rattle.file_cells.proofs.Lending.{AreLentBelow, below_length, lent_address, lent_all, lent_bytes, lent_more}
use Rattle.file_cells.proofs.Pinning.{covered_all, covered_more, covered_set, largest_small, occupied_more, placed}
use Rattle.file_cells.proofs.take.prepare.Goals as goal

pub segment_of-segment-requires : goal.segment_of-segment-requires
segment_of-segment-requires g c =
    let same = c.loop-leases.invariant.same in
    let found = subst (λ x. IsNextLent (λ (t : Placed). t.mark.address) (λ (t : Placed). t.content) g.B.Lease.AsSlice.items (ticket_at x) c.loop-leases.from (Some c.in-Some.lent)) same (rw c.in-Some.is at c.in_ok-lent.ensures.next) in
    let next = found.0 in
    let slot = lent_address g.B.Lease.AsSlice.items c.in-Some.lent (ticket_at c.args.file.now c.in-Some.lent.index) found.1 in
    let laid = ap (λ (b : Ruled Layout). b.key) c.books.ensures.books ∙ c.books.ensures.layout in
    let at = placed g.V.Numbers.GeometryName.geometry c.args.file.now c.args.account.now.tickets c.args.account.now.tokens c.requires.lodged c.books.result.now.key laid
    c.show_within.ensures.within c.loop-leases.from c.in-Some.lent.index c.in-Some.lent.address next slot in
    (at.some, subst (λ (x : Geometry). c.in-Some.lent.address ≤ block_count x) (sym c.geometry.ensures) at.most)

pub overflow_add-from : goal.overflow_add-from
overflow_add-from g c =
    let same = c.loop-leases.invariant.same in
    let found = subst (λ x. IsNextLent (λ (t : Placed). t.mark.address) (λ (t : Placed). t.content) g.B.Lease.AsSlice.items (ticket_at x) c.loop-leases.from (Some c.in-Some.lent)) same (rw c.in-Some.is at c.in_ok-lent.ensures.next) in
    let next = found.0 in
    let low = below_length c.args.file.now c.requires.file c.loop-leases.from c.in-Some.lent.index next in
    let small = largest_small c.args.file.now.shape in
    let short = c.requires.short in omega arith

pub loop-leases-smaller : goal.loop-leases-smaller
loop-leases-smaller g c =
    let same = c.loop-leases.invariant.same in
    let found = subst (λ x. IsNextLent (λ (t : Placed). t.mark.address) (λ (t : Placed). t.content) g.B.Lease.AsSlice.items (ticket_at x) c.loop-leases.from (Some c.in-Some.lent)) same (rw c.in-Some.is at c.in_ok-lent.ensures.next) in
    let next = found.0 in
    let low = below_length c.args.file.now c.requires.file c.loop-leases.from c.in-Some.lent.index next in
    let least = next.0 in omega arith

pub loop-leases-preserved : goal.loop-leases-preserved
loop-leases-preserved g c =
    let f = c.args.file.now in
    let geometry = g.V.Numbers.GeometryName.geometry in
    let n : ℕ = geometry.segments in
    let items = g.B.Lease.AsSlice.items in
    let from = c.loop-leases.from in
    let index = c.in-Some.lent.index in
    let noted = c.loop-leases.noted.items in
    let s = c.segment_of-segment.result in
    let address = c.in-Some.lent.address in
    let same = c.loop-leases.invariant.same in
    let found = subst (λ x. IsNextLent (λ (t : Placed). t.mark.address) (λ (t : Placed). t.content) g.B.Lease.AsSlice.items (ticket_at x) c.loop-leases.from (Some c.in-Some.lent)) same (rw c.in-Some.is at c.in_ok-lent.ensures.next) in
    let next = found.0 in
    let slot = lent_address items c.in-Some.lent (ticket_at f index) found.1 in
    let low = below_length f c.requires.file from index next in
    let laid = ap (λ (b : Ruled Layout). b.key) c.books.ensures.books ∙ c.books.ensures.layout in
    let at = placed geometry f c.args.account.now.tickets c.args.account.now.tokens c.requires.lodged c.books.result.now.key laid c.show_within.ensures.within from index address next slot in
    let bytes = lent_bytes items c.in-Some.lent (ticket_at f index) found.1 in
    let number : s ≡ segment_of geometry.shape address = c.segment_of-segment.ensures.number ∙ ap (λ (x : Geometry). segment_of x.shape address) c.geometry.ensures in
    let place : s ≡ segment_of f.shape address = number ∙ ap (λ x. segment_of x address) (sym c.requires.shape) in
    let inside : s < n = subst (λ (x : Geometry). s < x.segments) c.geometry.ensures c.segment_of-segment.ensures.within in
    let sized = c.loop-leases.invariant.sized in
    let within : s < length noted = omega arith in
    let more = lent_more items f from index c.loop-leases.indexes.items c.loop-leases.leases.items c.in-Some.lent.lease c.loop-leases.invariant.lent next bytes in
    record {
      same = c.lend_next.ensures.same ∙ same;
      account = c.show_within.ensures.kept;
      bound = omega arith;
      sized = length-set noted s true ∙ sized;
      lent = subst (λ (p : List ℕ × _). AreLentBelow items f (index + 1) p.0 p.1) (λ k. (sym c.in_ok-push.ensures.items k, sym c.in_ok-push-2.ensures.items k)) more;
      covered = covered_more f from index address (set noted s true) (covered_set f from s noted within c.loop-leases.invariant.covered) next slot
          (ap (λ z. get_or (set noted s true) z false) (sym place) ∙ get_or-set_same noted s true false within);
      occupied = occupied_more geometry.shape c.args.account.now.tickets noted s c.loop-leases.invariant.occupied (at.ticket.0, at.ticket.1 ∙ sym number, at.ticket.2);
    }

pub returns-clause-lent : goal.returns-clause-lent
returns-clause-lent g c =
    let empty = subst (λ x. EmptyFrom (ticket_at x) c.loop-leases.from) c.loop-leases.invariant.same (rw c.in_default.is at c.in_ok-lent.ensures.next) in
    lent_all g.B.Lease.AsSlice.items c.args.file.now c.loop-leases.from c.loop-leases.indexes.items c.loop-leases.leases.items c.loop-leases.invariant.lent empty

pub returns-clause-covered : goal.returns-clause-covered
returns-clause-covered g c =
    let empty = subst (λ x. EmptyFrom (ticket_at x) c.loop-leases.from) c.loop-leases.invariant.same (rw c.in_default.is at c.in_ok-lent.ensures.next) in
    covered_all c.args.file.now c.loop-leases.from c.loop-leases.noted.items c.loop-leases.invariant.covered empty
