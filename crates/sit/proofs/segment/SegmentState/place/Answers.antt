-- The slip shows the segment to be open, so its next place is clear and within: the block there becomes valid with its
-- mark, or the device failed, and then only its bytes are others.
use Rattle.std.proofs.Common.{◌≡◌, ◌<◌, ℕ, List, [], ◌∷◌, length, get_or, ap, sym, ◌∙◌, subst, arith}
use Rattle.geometry.specs.declared.owner.Mark.{Mark}
use Rattle.geometry.specs.declared.state.State.{State}
use Rattle.geometry.specs.Address.{address_of}
use Rattle.geometry.specs.Weights.{SameItems}
use Rattle.words.specs.Tokens.{Post}
use Rattle.rights_books.proofs.PartRows.{unnoted}
use Rattle.sit.specs.Noted.{segment_row}
use Rattle.sit.specs.Registered.{HasLivedOn}
use Rattle.sit.specs.Segment.{Segment, marks_of}
use Rattle.geometry.specs.Blocks.{changed}
use Rattle.sit.specs.ShownBlocks.{FollowsBlocks}
use Rattle.sit.proofs.ShownBlocks.{on_err, placed_blocks, spoiled_blocks}
use Rattle.sit.proofs.Registry.{placed_marks, placed-registered}
use Rattle.sit.proofs.segment.SegmentState.place.Given as given
use Rattle.sit.proofs.segment.SegmentState.place.Goals as goal

module _ (g : given.Over) (c : goal.After-new g) where
  -- the block comes to the next place of the segment, where there is room,
  room_left : c.self.inside.body.next < length c.self.inside.body.summaries
  room_left = let r = c.in_ok-block.ensures.room in let e = c.in_ok-block.ensures.sized in omega arith

  -- and has the address of that place
  placed_at : c.address-address.result ≡ address_of c.self.inside.body.shape c.self.inside.body.number c.self.inside.body.next
  placed_at = c.address-address.ensures ∙ c.in_ok-block.ensures.address

  -- the segment's marks are those that it had and the block's
  marked : SameItems (record { address = c.address-address.result; owner = c.args.owner } ∷ marks_of c.self.inside.body) (marks_of c.place.new.self)
  marked =
      let body = c.self.inside.body in
      let done = c.in_ok-block.ensures in
      placed_marks body c.place.new.self c.args.owner c.args.now c.place.new.self.failed (record { address = c.address-address.result; owner = c.args.owner }) done.segment room_left
      done.clear (λ i. record { address = placed_at i; owner = c.args.owner })

pub invariant_of-self-2 : goal.invariant_of-self-2
invariant_of-self-2 g c =
    let s = c.self.inside in
    let done = c.in_ok-block.ensures in
    let m : Mark = record { address = c.address-address.result; owner = c.args.owner } in (
      placed-registered s.body c.place.new.self s.account c.mark-claimed.new.segment s.standing c.seal_full.new.standing c.self.invariant.0 c.args.owner c.args.now c.place.new.self.failed m
          (c.self.invariant.0.state ∙ c.show_open.ensures.state) done.segment
          (subst (λ (p : State × Post). HasLivedOn p.0 p.1 c.seal_full.new.standing) (λ i. (c.state.ensures i, c.show_open.ensures.standing i)) c.seal_full.ensures.standing)
          c.mark-claimed.ensures.segment (marked g c),
      unnoted c.change.new.self s.row.part (segment_row c.place.new.self) c.change.ensures,
    )

pub returns-clause-marks : goal.returns-clause-marks
returns-clause-marks g c =
    subst (λ (p : Mark × Segment). SameItems (p.0 ∷ marks_of p.1) (marks_of c.place.new.self)) (λ i. (sym (c.new.ensures.mark ∙ c.mark-claimed.ensures.ticket) i, (c.self.view_is i).segment)) (marked g c)

pub returns-clause-blocks : goal.returns-clause-blocks
returns-clause-blocks g c =
    let s = c.self.inside in
    let at = ap (λ (x : Mark). x.address) (c.new.ensures.mark ∙ c.mark-claimed.ensures.ticket) ∙ placed_at g c in
    subst (λ (p : ℕ × Segment). FollowsBlocks (λ blocks. changed blocks p.0 c.new.result.content) p.1 c.place.new.self) (λ i. (sym at i, (c.self.view_is i).segment))
    (placed_blocks s.body c.place.new.self c.args.owner c.args.now c.place.new.self.failed c.new.result.content c.in_ok-block.ensures.segment (room_left g c))

pub returns-in_err-block-clause-err_blocks : goal.returns-in_err-block-clause-err_blocks
returns-in_err-block-clause-err_blocks g c =
    let s = c.self.inside in
    let done = c.in_err-block.ensures in
    let bytes = get_or c.place.new.self.contents s.body.next [] in
    let now = c.args.self.now.segment in
    let follows : FollowsBlocks (λ blocks. changed blocks (address_of now.shape now.number now.next) bytes) now c.place.new.self =
    subst (λ (p : Segment). FollowsBlocks (λ blocks. changed blocks (address_of p.shape p.number p.next) bytes) p c.place.new.self) (λ i. (c.self.view_is i).segment)
    (spoiled_blocks s.body c.place.new.self s.body.next done.err.0 c.place.new.self.failed done.err.2) in
    let spoiled : (b : List ℕ) × FollowsBlocks (λ blocks. changed blocks (address_of now.shape now.number now.next) b) now c.place.new.self = (bytes, follows) in on_err _ _ spoiled
