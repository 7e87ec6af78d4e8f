use Rattle.std.proofs.Common.{[]}
use Rattle.named_files.proofs.Kept.{put_named, run_keeps, run_orderly}
use Rattle.named_files.proofs.Shown.{named_got, named_next, orderly_next}
use Rattle.named_files.proofs.law.put_kept_law.Goals as goal

pub returns-clause-put : goal.returns-clause-put
returns-clause-put c = put_named

pub returns-clause-kept : goal.returns-clause-kept
returns-clause-kept c = run_keeps

pub returns-clause-next : goal.returns-clause-next
returns-clause-next c = λ size name bytes geometry image blocks left begun same are has. named_next geometry image blocks left begun same are size name bytes has

pub returns-clause-got : goal.returns-clause-got
returns-clause-got c = λ size name bytes geometry image blocks passes got has shown file. named_got geometry image blocks size name bytes passes got has shown file

pub returns-clause-orderly_new : goal.returns-clause-orderly_new
returns-clause-orderly_new c = λ size passes folder. record { rows = []; folder = folder; own = tt }

pub returns-clause-orderly_kept : goal.returns-clause-orderly_kept
returns-clause-orderly_kept c = run_orderly

pub returns-clause-orderly_next : goal.returns-clause-orderly_next
returns-clause-orderly_next c = λ size geometry image blocks left begun same are orderly. orderly_next geometry image blocks left begun same are size orderly
