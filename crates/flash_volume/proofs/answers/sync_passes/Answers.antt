use Rattle.std.proofs.Common.{◌∙◌}
use Rattle.checkpoint_sync.specs.Lent.{shown_by}
use Rattle.flash_volume.proofs.Lending.{all_lent}
use Rattle.flash_volume.proofs.Results.{ok_then}
use Rattle.flash_volume.proofs.answers.sync_passes.Goals as goal

pub returns-clause-files : goal.returns-clause-files
returns-clause-files g c =
    ok_then c.sync.result _ _
    (λ stored is. is ∙ all_lent shown_by (λ pass. pass.now) c.loop-pass.lent.items c.as_slice.result.now c.args.passes.now c.loop-pass.pass-index c.loop-pass-test.false c.loop-pass.invariant c.as_slice.ensures.value)
    c.sync.ensures.files
