use Rattle.std.proofs.Common.{◌≡◌, ◌-◌, ◌/◌, sym, ap, ◌∙◌}
use Rattle.sit.specs.Registered.{Registered}
use Rattle.sit.proofs.Pinning.{pinnable}
use Rattle.sit.proofs.segment.SegmentState.pin.Goals as goal

pub pin-requires-clause-state : goal.pin-requires-clause-state
pin-requires-clause-state g c =
    let s = c.self.inside in
    let m = c.requires.lodged.0 in
    let number : c.args.self.now.segment.number ≡ s.account.segment =
    sym (ap (λ (x : Registered). x.segment.number) c.self.view_is) ∙ (c.self.invariant.0.number ∙ sym c.self.invariant.0.account_number) in
    let here : (m.address - 1) / c.args.books.now.key.blocks ≡ s.account.segment =
    ap (λ n. (m.address - 1) / n) c.requires.books.1 ∙ (c.requires.lodged.1 ∙ number) in
    pinnable s.body s.account s.standing.life c.self.invariant.0 m (c.show_marked.ensures.marked m here c.requires.lodged.2) c.show_state.ensures
