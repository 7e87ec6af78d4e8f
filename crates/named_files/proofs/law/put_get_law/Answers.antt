-- The put left what is got.
use Rattle.named_files.proofs.Kept.{put_named}
use Rattle.named_files.proofs.Shown.{named_got}
use Rattle.named_files.proofs.law.put_get_law.Goals as goal

pub returns : goal.returns
returns c = λ size name bytes number before after geometry image blocks got put shown has.
    named_got geometry image blocks size name bytes after got (put_named size name bytes number before after put) shown has
