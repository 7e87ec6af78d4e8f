use Rattle.std.proofs.Common.{◌≡◌, ◌-◌, ◌<◌, ◌≤◌, [], None, true, ap, sym, ◌∙◌, subst, get_or, IsSome, arith}
use Rattle.geometry.specs.Shape.{segment_blocks}
use Rattle.geometry.specs.Address.{segment_of, offset_of}
use Rattle.geometry.proofs.Addresses.{offset_of-lt}
use Rattle.sit.specs.Segment.{Segment}
use Rattle.sit.specs.Summaries.{is_set}
use Rattle.sit.proofs.Laws.{offset_is, cleared-law, some-set}
use Rattle.sit.specs.Released.{IsFate}
use Rattle.sit.proofs.body.Body.release.Given as given
use Rattle.sit.proofs.body.Body.release.Goals as goal

-- where the block is that is put back: as far from the segment's first block as its address says
place_of : (g : given.Over) (c : goal.After-end_retired g) → (c.first.result ≤ c.address.result) × (c.address.result - c.first.result ≡ offset_of c.self.inside.shape c.address.result)
place_of g c =
    let s = c.self.inside in
    let view = c.self.view_is in
    let a = c.address.result in
    let address : a ≡ g.B.Block.address_of c.args.block = c.address.ensures in
    let some : 0 < a = let r = c.requires.address in omega arith in
    let home : segment_of s.shape a ≡ s.number = ap (segment_of s.shape) address ∙ ap (λ (x : Segment). segment_of x.shape (g.B.Block.address_of c.args.block)) view ∙ c.requires.home ∙ sym (ap (λ (x : Segment). x.number) view) in
    offset_is s.shape s.number a c.first.result some home (c.first.ensures ∙ ap (λ h. h.first) c.self.invariant.home_is)

pub invariant_of-self : goal.invariant_of-self
invariant_of-self g c =
    let s = c.self.inside in
    let a = c.address.result in
    let at = place_of g c in
    let within : a - c.first.result < segment_blocks s.shape = let lt = offset_of-lt s.shape a in let e = at.1 in omega arith in
    let valid : is_set (get_or s.valid (a - c.first.result) None) ≡ true = some-set _ (subst IsSome
    (sym (ap (λ o. get_or s.valid o None) (at.1 ∙ ap (offset_of s.shape) c.address.ensures) ∙ ap (λ (x : Segment). get_or x.summaries (offset_of x.shape (g.B.Block.address_of c.args.block)) None) c.self.view_is)) c.requires.valid) in
    cleared-law _ s.blocks c.self.invariant (a - c.first.result) c.put.new.self.failed (g.B.Block.content_of c.args.block) c.clear.new.self c.put.new.self c.end_retired.new.thread c.fate_of-state.result.0 c.fate_of-state.result.1 within valid c.clear.ensures c.put.ensures.home
    (subst (λ n. IsFate s.state n c.fate_of-state.result.0 c.fate_of-state.result.1) c.count.ensures c.fate_of-state.ensures) c.end_retired.ensures

pub returns-clause-content : goal.returns-clause-content
returns-clause-content g c =
    let shape = c.self.inside.shape in
    ap (λ o. get_or c.put.new.self.contents o [])
    (sym ((place_of g c).1 ∙ (ap (offset_of shape) c.address.ensures ∙ ap (λ (x : Segment). offset_of x.shape (g.B.Block.address_of c.args.block)) c.self.view_is)))
    ∙ c.put.ensures.content
