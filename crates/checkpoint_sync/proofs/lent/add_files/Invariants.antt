use Rattle.std.proofs.Common.{◌≡◌, map, reverse, take}
use Rattle.checkpoint.specs.Files.{files_of}
use Rattle.checkpoint_sync.specs.Lent.{shown_by}
use Rattle.checkpoint_sync.proofs.lent.add_files.Given as goal

abbrev pub invariant-loop-k : goal.invariant-loop-k
invariant-loop-k g l = (l.taken.audit.now ≡ l.fn.audit) × (l.taken.recorded.image ≡ l.fn.image) × (files_of l.taken.recorded.added.items ≡ reverse (map (λ pass. shown_by pass.now) (take l.k l.fn.passes)))
