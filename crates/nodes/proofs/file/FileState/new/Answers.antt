use Rattle.std.proofs.Common.{length, ap, ◌∙◌}
use Rattle.std.proofs.Math.ListN.{length-replicate}
use Rattle.nodes.proofs.Bare.{bare_file}
use Rattle.nodes.proofs.file.FileState.new.Goals as goal

pub returns-clause-bare : goal.returns-clause-bare
returns-clause-bare g c = record {
  tickets = c.in-Ok.ensures.nothing;
  direct = c.in-Ok-empty.ensures.nothing;
  indirect = c.in-Ok-empty-2.ensures.nothing;
  double = c.in-Ok-empty-3.ensures.nothing;
}

pub returns-clause-file : goal.returns-clause-file
returns-clause-file g c =
    bare_file _
    (returns-clause-bare g c)
    (ap length c.in-Ok.ensures.slots ∙ simp length-replicate c.inode_entries.ensures)
    (ap length c.in-Ok-empty.ensures.slots ∙ simp length-replicate)
    (ap length c.in-Ok-empty-2.ensures.slots ∙ simp length-replicate)
    (ap length c.in-Ok-empty-3.ensures.slots ∙ simp length-replicate)
