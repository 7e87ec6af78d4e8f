use Rattle.std.proofs.Common.{◌≡◌, ℕ, ◌<◌, Option, map, get_or, vec_len}
use Rattle.std.specs.Prelude.{IfSome}
use Rattle.sit.specs.Registered.{Registered}
use Rattle.checkpoint_image.specs.Cells.{IsOpenAt}
use Rattle.checkpoint_sync.specs.LocksHeld.{open_in}
use Rattle.checkpoint_sync.proofs.opened.show_open.Given as goal

abbrev pub invariant-loop-k : goal.invariant-loop-k
invariant-loop-k g l = record {
  segments : l.segments.items ≡ l.initial.segments.items;
  logs : l.logs.items ≡ l.initial.logs.items;
  count : vec_len l.logs ≡ vec_len l.initial.logs;
  there : (i : ℕ) (d : Option ℕ) → i < l.k → IfSome (get_or (map open_in l.initial.logs.items) i d) (IsOpenAt (map (λ (r : Registered). r.segment) l.initial.segments.items));
}
