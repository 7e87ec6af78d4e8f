use Rattle.std.proofs.Common.{◌≡◌, ◌<◌, ◌∷◌, length, refl, sym, ◌∙◌, subst, arith}
use Rattle.geometry.specs.declared.owner.Mark.{Mark}
use Rattle.geometry.specs.Address.{address_of}
use Rattle.geometry.specs.Weights.{SameItems}
use Rattle.rights_books.proofs.PartRows.{unnoted}
use Rattle.sit.specs.Noted.{segment_row}
use Rattle.sit.specs.Segment.{Segment, marks_of}
use Rattle.sit.proofs.Registry.{threaded_marks, threaded-registered}
use Rattle.sit.proofs.segment.SegmentState.fill.Given as given
use Rattle.sit.proofs.segment.SegmentState.fill.Goals as goal

module _ (g : given.Over) (c : goal.After-new g) where
  -- the hole is one of the segment's places,
  within : c.args.offset < length c.self.inside.body.summaries
  within = let r = c.in_ok-block.ensures.within in let e = c.in_ok-block.ensures.sized in omega arith

  -- and the block has the address of that place
  placed_at : c.address-address.result ≡ address_of c.self.inside.body.shape c.self.inside.body.number c.args.offset
  placed_at = c.address-address.ensures ∙ c.in_ok-block.ensures.address

  -- the segment's marks are those that it had and the block's
  marked : SameItems (record { address = c.address-address.result; owner = c.args.owner } ∷ marks_of c.self.inside.body) (marks_of c.fill.new.self)
  marked =
      let body = c.self.inside.body in
      let done = c.in_ok-block.ensures in
      threaded_marks body c.fill.new.self c.args.offset c.args.owner c.args.now c.fill.new.self.failed (record { address = c.address-address.result; owner = c.args.owner }) done.segment within
      done.hole.0 (λ i. record { address = placed_at i; owner = c.args.owner })

pub invariant_of-self-2 : goal.invariant_of-self-2
invariant_of-self-2 g c =
    let s = c.self.inside in
    let m : Mark = record { address = c.address-address.result; owner = c.args.owner } in (
      threaded-registered s.body c.fill.new.self s.account c.mark-claimed.new.segment s.standing s.standing c.self.invariant.0 c.args.offset c.args.owner c.args.now c.fill.new.self.failed m
          c.in_ok-block.ensures.segment refl c.mark-claimed.ensures.segment (marked g c),
      unnoted c.change.new.self s.row.part (segment_row c.fill.new.self) c.change.ensures,
    )

pub returns-clause-marks : goal.returns-clause-marks
returns-clause-marks g c =
    subst (λ (p : Mark × Segment). SameItems (p.0 ∷ marks_of p.1) (marks_of c.fill.new.self)) (λ i. (sym (c.new.ensures.mark ∙ c.mark-claimed.ensures.ticket) i, (c.self.view_is i).segment)) (marked g c)
