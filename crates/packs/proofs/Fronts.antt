-- The length and the front of an area, through writes to its slots.
use Rattle.std.proofs.Common.{◌≡◌, ℕ, ◌≤◌, List, length, take, sym, ap, subst}
use Rattle.device.specs.Disk.{Torn, Follows, Elapses, IsQuiet, LeavesOnly, Leaves}
use Rattle.device.proofs.Moments.{torn_leaves, torn_moments, quiet_moments}
use Rattle.packs.specs.Device.{IsSameArea, KeepsArea}
use Rattle.packs.proofs.Keeping.{torn_area, area_joined}

pub same_area : (area c : List ℕ) → c ≡ area → IsSameArea area c
same_area area c is = record { long = ap length is; front = ap (λ (l : List ℕ). take 32 l) is }

-- what is settled is one area
pub kept_alone : (P : List ℕ → Type 0) (area c : List ℕ) → c ≡ area → P c → KeepsArea area P c
kept_alone P area c is has = record { packs = has; same = same_area area c is }

pub kept_weaker : (P Q : List ℕ → Type 0) (area c : List ℕ) → (P c → Q c) → KeepsArea area P c → KeepsArea area Q c
kept_weaker P Q area c from kept = record { packs = from kept.packs; same = kept.same }

pub kept_torn : (P Q : List ℕ → Type 0) (area c d : List ℕ) (at n : ℕ) → 32 ≤ at → (P c → Torn at n c d → Q d) → KeepsArea area P c → Torn at n c d → KeepsArea area Q d
kept_torn P Q area c d at n behind step kept torn = record { packs = step kept.packs torn; same = area_joined area c d kept.same (torn_area at n c d behind torn) }

-- of an area that is the same as another
pub kept_from : (P : List ℕ → Type 0) (area mid c : List ℕ) → IsSameArea area mid → KeepsArea mid P c → KeepsArea area P c
kept_from P area mid c same kept = record { packs = kept.packs; same = area_joined area mid c same kept.same }

-- what is the same area still after a write behind the superblock and a call that changes no byte
pub written_same : (area c d e : List ℕ) (at n : ℕ) → IsSameArea area c → 32 ≤ at → Torn at n c d → e ≡ d → IsSameArea area e
written_same area c d e at n same behind torn is = subst (IsSameArea area) (sym is) (area_joined area c d same (torn_area at n c d behind torn))

-- a write and a sync behind it, and what they make of each outcome
pub written_moments : {D : Type 0} (moment : D → ℕ) (left_since : D → ℕ → List ℕ → Type 0) (seen : D → List ℕ) (may_leave : D → List ℕ → Type 0)
    → ((d : D) (c : List ℕ) → left_since d (moment d) c → may_leave d c) → (old mid new : D) (at n : ℕ) (P Q : List ℕ → Type 0)
    → Leaves may_leave old P → Follows (Torn at n) (may_leave old) (may_leave mid) → Elapses (moment old) (moment mid) (left_since old) (left_since mid) (may_leave mid)
    → ((c : List ℕ) → P c → Q c) → ((c d : List ℕ) → P c → Torn at n c d → Q d) → IsQuiet seen may_leave moment left_since mid new → LeavesOnly moment left_since old new Q
written_moments moment left_since seen may_leave only_now old mid new at n P Q had follows time weak step =
    quiet_moments moment left_since seen may_leave old mid new Q
    (torn_moments moment left_since may_leave only_now old mid at n P Q had follows time weak step)
    (torn_leaves moment left_since may_leave old mid at n P Q had follows step)
