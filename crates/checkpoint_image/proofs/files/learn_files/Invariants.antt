use Rattle.std.proofs.Common.{◌≡◌, ◌+◌, take, map}
use Rattle.geometry.specs.Weights.{weigh}
use Rattle.rights_books.specs.Weights.{file_copy, past}
use Rattle.checkpoint_image.specs.Learning.{HaveLearnedFiles}
use Rattle.checkpoint_image.proofs.files.learn_files.Given as goal

abbrev pub invariant-loop-i : goal.invariant-loop-i
invariant-loop-i g l = record {
  kept : map g.S.HoldsFile.shown l.files.items ≡ map g.S.HoldsFile.shown l.initial.files.items;
  same : map g.S.AuditedFile.account l.files.items ≡ map g.S.AuditedFile.account l.initial.files.items;
  fresh : weigh (file_copy (past (l.i + 1))) l.audit.copies ≡ 0;
  learned : HaveLearnedFiles (take l.i (map g.S.AuditedFile.account l.initial.files.items)) l.initial.audit l.audit;
}
