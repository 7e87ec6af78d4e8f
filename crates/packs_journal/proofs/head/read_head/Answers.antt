use Rattle.std.proofs.Common.{◌∙◌, ap, ℕ}
use Rattle.packs_journal.specs.Places.{head_bytes}
use Rattle.device.specs.Disk.{part}
use Rattle.packs_journal.proofs.head.read_head.Goals as goal

pub returns-clause-head : goal.returns-clause-head
returns-clause-head g c =
    let seen = g.M.Meta.seen c.args.meta.now in
    c.in_ok-read.ensures.bytes ∙ ap (λ (n : ℕ). part c.head_at.result n seen) c.told-head ∙ ap (λ (a : ℕ). part a head_bytes seen) c.head_at.ensures
