use Rattle.std.proofs.Common.{◌≡◌, ℕ, ◌<◌, get_or, vec_len, vec_capacity}
use Rattle.checkpoint_image.specs.Cells.{OpenApart}
use Rattle.checkpoint_sync.specs.LocksHeld.{LogView, open_in}
use Rattle.checkpoint_sync.proofs.apart.show_one_apart.Given as goal

abbrev pub invariant-loop-k : goal.invariant-loop-k
invariant-loop-k g l = record {
  same : l.others.items ≡ l.initial.others.items;
  count : vec_len l.others ≡ vec_len l.initial.others;
  capacity : vec_capacity l.others ≡ vec_capacity l.initial.others;
  log : l.log ≡ l.initial.log;
  apart : (i : ℕ) (d : LogView) → i < l.k → OpenApart (open_in (get_or l.initial.others.items i d)) (open_in l.initial.log);
}
