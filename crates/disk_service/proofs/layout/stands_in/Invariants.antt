use Rattle.std.proofs.Common.{◌≡◌, ℕ, ◌<◌, get_or}
use Rattle.disk_service.proofs.layout.stands_in.Given as goal

-- none that was looked at is the wanted one
abbrev pub invariant-loop-number : goal.invariant-loop-number
invariant-loop-number l = (k : ℕ) → k < l.number-index → get_or l.numbers k 0 ≡ l.wanted → ⊥
