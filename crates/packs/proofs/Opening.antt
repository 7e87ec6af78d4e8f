-- What opening makes of an area, on a device.
use Rattle.std.proofs.Common.{⊎_elim, ℕ, ◌≤◌, List, sym, subst}
use Rattle.device.specs.Disk.{Leaves, LeavesOnly, IsQuiet}
use Rattle.device.proofs.Moments.{started, quiet_moments, joined, weaker}
use Rattle.packs.specs.Pack.{Reading, Between, IsPicked, MayClear}
use Rattle.packs.specs.Device.{KeepsArea}
use Rattle.packs.proofs.Fronts.{same_area, kept_weaker, kept_from}
use Rattle.packs.proofs.Picking.{between_clearing}

module _ {D : Type 0} (seen : D → List ℕ) (may_leave : D → List ℕ → Type 0) (moment : D → ℕ) (left_since : D → ℕ → List ℕ → Type 0)
    (seen_is_left : (d : D) → may_leave d (seen d)) (counts_now : (d : D) (t : ℕ) (c : List ℕ) → t ≤ moment d → may_leave d c → left_since d t c) (only_now : (d : D) (c : List ℕ) → left_since d (moment d) c → may_leave d c) where
  pub looked : (old mid : D) (P : List ℕ → Type 0) → Leaves may_leave old P → IsQuiet seen may_leave moment left_since old mid → LeavesOnly moment left_since old mid P
  looked old mid P had quiet = quiet_moments moment left_since seen may_leave old old mid P (started moment left_since old P (λ c left. had c (only_now old c left))) had quiet

  pub opened : (r : Reading) (slot : ℕ) (old mid new : D) (before after : List ℕ) → Leaves may_leave old (KeepsArea (seen old) (Between r before after)) → IsQuiet seen may_leave moment left_since old mid
      → IsPicked r slot (seen mid) → LeavesOnly moment left_since mid new (KeepsArea (seen mid) (MayClear r slot (seen mid))) → LeavesOnly moment left_since old new (KeepsArea (seen old) (Between r before after))
  opened r slot old mid new before after had quiet picked cleared =
      let B = Between r before after in
      let P = KeepsArea (seen old) B in
      let here : B (seen mid) = subst B (sym quiet.same) (had (seen old) (seen_is_left old)).packs in
      let there : (d : List ℕ) → MayClear r slot (seen mid) d → B d =
      λ d may. ⊎_elim (λ same. subst B (sym same) here) (λ clear. between_clearing r (seen mid) before after slot d here picked clear.0 clear.1) may in
      joined moment left_since old mid new P (looked old mid P had quiet)
      (weaker moment left_since mid new (KeepsArea (seen mid) (MayClear r slot (seen mid))) P
      (λ d may. kept_from B (seen old) (seen mid) d (same_area (seen old) (seen mid) quiet.same) (kept_weaker (MayClear r slot (seen mid)) B (seen mid) d (there d) may)) cleared)

  -- and then some bytes are read
  pub opened_read : (r : Reading) (slot : ℕ) (old mid new end : D) (before after : List ℕ) → Leaves may_leave old (KeepsArea (seen old) (Between r before after)) → IsQuiet seen may_leave moment left_since old mid
      → IsPicked r slot (seen mid) → LeavesOnly moment left_since mid new (KeepsArea (seen mid) (MayClear r slot (seen mid))) → IsQuiet seen may_leave moment left_since new end → LeavesOnly moment left_since old end (KeepsArea (seen old) (Between r before after))
  opened_read r slot old mid new end before after had quiet picked cleared last =
      let P = KeepsArea (seen old) (Between r before after) in
      let run = opened r slot old mid new before after had quiet picked cleared in
      quiet_moments moment left_since seen may_leave old new end P run (λ c left. run.each c (counts_now new (moment old) c run.later left)) last
