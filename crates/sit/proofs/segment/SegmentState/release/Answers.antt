-- The ticket in hand is a mark of the segment's account, so the block is valid and named by its owner: block, mark and
-- ticket go together, and what is left is in step.
use Rattle.std.proofs.Common.{◌≡◌, ◌+◌, ℕ, List, ◌∷◌, Some, None, get_or, ap, sym, ◌∙◌, subst}
use Rattle.geometry.specs.declared.owner.Mark.{Mark}
use Rattle.geometry.specs.Address.{address_of, segment_of, offset_of}
use Rattle.geometry.specs.Weights.{SameItems}
use Rattle.rights_books.proofs.PartRows.{unnoted}
use Rattle.sit.specs.Noted.{segment_row}
use Rattle.sit.specs.Registered.{Registered}
use Rattle.sit.specs.Segment.{Segment, marks_of, cleared}
use Rattle.sit.specs.Released.{HasReleased}
use Rattle.geometry.proofs.Addresses.{address_of-parts}
use Rattle.sit.specs.ShownBlocks.{ShowsBlocks}
use Rattle.sit.proofs.ShownBlocks.{cleared_blocks}
use Rattle.sit.proofs.Registry.{released_failed, lost-positive, lost-valid, lost-some, lost-marks, lost-registered}
use Rattle.sit.proofs.segment.SegmentState.release.Goals as goal

pub release-released-requires-clause-address : goal.release-released-requires-clause-address
release-released-requires-clause-address g c =
    let s = c.self.inside in
    let parts = c.into_parts-claimed in
    let block_at : g.B.Block.address_of parts.result.1 ≡ parts.result.0.address = parts.ensures.address ∙ sym (ap (λ (x : Mark). x.address) parts.ensures.mark) in
    lost-positive s.body s.account s.standing c.self.invariant.0 parts.result.0 (g.B.Block.address_of parts.result.1) block_at c.clear.ensures.marked

pub release-released-requires-clause-valid : goal.release-released-requires-clause-valid
release-released-requires-clause-valid g c =
    let s = c.self.inside in
    let parts = c.into_parts-claimed in
    let block_at : g.B.Block.address_of parts.result.1 ≡ parts.result.0.address = parts.ensures.address ∙ sym (ap (λ (x : Mark). x.address) parts.ensures.mark) in
    let home : segment_of s.body.shape parts.result.0.address ≡ s.body.number = ap (λ (x : Mark). segment_of s.body.shape x.address) parts.ensures.mark ∙ ap (λ (x : Registered). segment_of x.segment.shape c.args.ticket.mark.address) c.self.view_is ∙ c.requires.home ∙ sym (ap (λ (x : Registered). x.segment.number) c.self.view_is) in
    lost-some s.body s.account s.standing c.self.invariant.0 parts.result.0 (g.B.Block.address_of parts.result.1) block_at c.clear.ensures.marked home

pub invariant_of-self : goal.invariant_of-self
invariant_of-self g c =
    let s = c.self.inside in
    let parts = c.into_parts-claimed in
    let block_at : g.B.Block.address_of parts.result.1 ≡ parts.result.0.address = parts.ensures.address ∙ sym (ap (λ (x : Mark). x.address) parts.ensures.mark) in
    let home : segment_of s.body.shape parts.result.0.address ≡ s.body.number = ap (λ (x : Mark). segment_of s.body.shape x.address) parts.ensures.mark ∙ ap (λ (x : Registered). segment_of x.segment.shape c.args.ticket.mark.address) c.self.view_is ∙ c.requires.home ∙ sym (ap (λ (x : Registered). x.segment.number) c.self.view_is) in (
      lost-registered s.body s.account s.standing c.self.invariant.0 parts.result.0 (g.B.Block.address_of parts.result.1) block_at c.clear.ensures.marked home c.release-released.new.self (g.B.Block.content_of parts.result.1) (s.body.failed + g.B.Block.failed parts.result.1)
          c.release-released.result c.release-released.ensures.segment c.clear.new.segment c.retire_empty.new.standing c.retire_empty.ensures c.clear.ensures.segment,
      unnoted c.change.new.self s.row.part (segment_row c.release-released.new.self) c.change.ensures,
    )

pub returns-clause-valid : goal.returns-clause-valid
returns-clause-valid g c =
    let s = c.self.inside in
    let parts = c.into_parts-claimed in
    let block_at : g.B.Block.address_of parts.result.1 ≡ parts.result.0.address = parts.ensures.address ∙ sym (ap (λ (x : Mark). x.address) parts.ensures.mark) in
    let home : segment_of s.body.shape parts.result.0.address ≡ s.body.number = ap (λ (x : Mark). segment_of s.body.shape x.address) parts.ensures.mark ∙ ap (λ (x : Registered). segment_of x.segment.shape c.args.ticket.mark.address) c.self.view_is ∙ c.requires.home ∙ sym (ap (λ (x : Registered). x.segment.number) c.self.view_is) in
    sym (ap (λ (x : Registered). get_or x.segment.summaries (offset_of x.segment.shape c.args.ticket.mark.address) None) c.self.view_is)
    ∙ (ap (λ a. get_or s.body.summaries (offset_of s.body.shape a) None) (sym parts.ensures.address)
    ∙ (lost-valid s.body s.account s.standing c.self.invariant.0 parts.result.0 (g.B.Block.address_of parts.result.1) block_at c.clear.ensures.marked home ∙ ap (λ (x : Mark). Some x.owner) parts.ensures.mark))

pub returns-clause-marks : goal.returns-clause-marks
returns-clause-marks g c =
    let s = c.self.inside in
    let parts = c.into_parts-claimed in
    let block_at : g.B.Block.address_of parts.result.1 ≡ parts.result.0.address = parts.ensures.address ∙ sym (ap (λ (x : Mark). x.address) parts.ensures.mark) in
    let home : segment_of s.body.shape parts.result.0.address ≡ s.body.number = ap (λ (x : Mark). segment_of s.body.shape x.address) parts.ensures.mark ∙ ap (λ (x : Registered). segment_of x.segment.shape c.args.ticket.mark.address) c.self.view_is ∙ c.requires.home ∙ sym (ap (λ (x : Registered). x.segment.number) c.self.view_is) in
    subst (λ (p : Mark × Segment). SameItems (p.0 ∷ marks_of c.release-released.new.self) (marks_of p.1)) (λ i. (parts.ensures.mark i, (c.self.view_is i).segment))
    (lost-marks s.body s.account s.standing c.self.invariant.0 parts.result.0 (g.B.Block.address_of parts.result.1) block_at c.clear.ensures.marked home c.release-released.new.self (g.B.Block.content_of parts.result.1) (s.body.failed + g.B.Block.failed parts.result.1)
    c.release-released.result c.release-released.ensures.segment)

pub returns-clause-segment : goal.returns-clause-segment
returns-clause-segment g c =
    let s = c.self.inside in
    let parts = c.into_parts-claimed in
    let failed = released_failed s.body c.release-released.new.self (offset_of s.body.shape (g.B.Block.address_of parts.result.1)) (g.B.Block.content_of parts.result.1) (s.body.failed + g.B.Block.failed parts.result.1)
    c.release-released.result c.release-released.ensures.segment in
    subst (λ (p : Segment × (ℕ × (List ℕ × ℕ))). HasReleased (cleared p.0 (offset_of p.0.shape p.1.0) p.1.1.0 p.1.1.1) c.release-released.result c.release-released.new.self)
    (λ i. ((c.self.view_is i).segment, (parts.ensures.address i, (parts.ensures.content i, failed i)))) c.release-released.ensures.segment

pub returns-clause-blocks : goal.returns-clause-blocks
returns-clause-blocks g c blocks there shows =
    let s = c.self.inside in
    let parts = c.into_parts-claimed in
    let a = g.B.Block.address_of parts.result.1 in
    let block_at : a ≡ parts.result.0.address = parts.ensures.address ∙ sym (ap (λ (x : Mark). x.address) parts.ensures.mark) in
    let home : segment_of s.body.shape parts.result.0.address ≡ s.body.number = ap (λ (x : Mark). segment_of s.body.shape x.address) parts.ensures.mark ∙ ap (λ (x : Registered). segment_of x.segment.shape c.args.ticket.mark.address) c.self.view_is ∙ c.requires.home ∙ sym (ap (λ (x : Registered). x.segment.number) c.self.view_is) in
    let some = lost-positive s.body s.account s.standing c.self.invariant.0 parts.result.0 a block_at c.clear.ensures.marked in
    let here : address_of s.body.shape s.body.number (offset_of s.body.shape a) ≡ a =
    ap (λ n. address_of s.body.shape n (offset_of s.body.shape a)) (sym (ap (segment_of s.body.shape) block_at ∙ home)) ∙ address_of-parts s.body.shape a some in
    cleared_blocks s.body c.release-released.new.self (offset_of s.body.shape a) (g.B.Block.content_of parts.result.1) (s.body.failed + g.B.Block.failed parts.result.1) c.release-released.result
    c.release-released.ensures.segment c.release-released.ensures.content blocks (ap blocks (here ∙ parts.ensures.address) ∙ (there ∙ sym parts.ensures.content))
    (subst (λ (x : Registered). ShowsBlocks x.segment blocks) (sym c.self.view_is) shows)
