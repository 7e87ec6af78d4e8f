use Rattle.std.proofs.Common.{◌≡◌, ◌-◌, None, ap, sym, set, ◌∙◌, suc, arith}
use Rattle.geometry.specs.declared.owner.Mark.{Mark}
use Rattle.geometry.specs.Address.{address_of}
use Rattle.sit.specs.Loading.{Loaded, contents_put}
use Rattle.sit.proofs.Loads.{is_marked, set_none}
use Rattle.sit.proofs.loading.Loading.put.Goals as goal

pub invariant_of-self-in-Some : goal.invariant_of-self-in-Some
invariant_of-self-in-Some g c =
    let s = c.self.inside in
    let some = c.requires.left in
    let left = ap (λ (v : Loaded). v.left) c.self.view_is in
    let before : s.left ≡ suc (s.left - 1) = omega arith in
    let m : Mark = record { address = c.address-address.result; owner = c.in-Some.owner } in
    let at = c.requires.address ∙ sym (ap (λ (v : Loaded). address_of v.shape v.number v.left) c.self.view_is) in
    let address = c.address-address.ensures in
    is_marked s.shape s.number s.left (s.left - 1) s.blocks s.valid s.thread s.account c.self.invariant before m c.set.new.self c.mark-claimed.new.segment c.set.ensures.set (omega arith) c.mark-claimed.ensures.segment

pub returns-in-None-clause-segment : goal.returns-in-None-clause-segment
returns-in-None-clause-segment g c =
    let s = c.self.inside in
    let at = s.left - 1 in
    let some = c.requires.left in
    let left = ap (λ (v : Loaded). v.left) c.self.view_is in
    let same = sym (set_none s.valid at (c.self.invariant.unnamed at (omega arith)))
    ∙ ap (λ (v : Loaded). set v.summaries at None) c.self.view_is ∙ ap (λ o. set c.args.self.now.summaries at o) (sym c.in-None.is) in
    let bytes = g.B.Block.content_of c.args.block in
    let contents = ap (λ h. h.contents) c.put.ensures.home ∙ ap (λ (v : Loaded). set v.contents at bytes) c.self.view_is
    ∙ ap (contents_put c.args.self.now.contents at bytes) (sym c.in-None.is) in
    λ k. record {
      shape = (c.self.view_is k).shape;
      number = (c.self.view_is k).number;
      book = (c.self.view_is k).book;
      left = at;
      summaries = same k;
      contents = contents k;
      failed = c.put.new.self.failed;
    }
