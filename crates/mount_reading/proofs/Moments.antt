-- A read changes no byte, so all that an opening may change is what opening the packs changes: that leaves the pack that
-- counts where it is not refused, and one pack or the next at each moment.
use Rattle.std.proofs.Common.{◌≡◌, ℕ, ◌≤◌, List, Some, sym, ap, subst, ◌∙◌}
use Rattle.device.specs.Disk.{Leaves, LeavesOnly, IsQuiet}
use Rattle.device.proofs.Moments.{started, joined, quiet_moments}
use Rattle.geometry.specs.declared.geometry.Geometry.{Geometry}
use Rattle.image.specs.Image.{Image}
use Rattle.image.proofs.Picking.{settled_picks}
use Rattle.pack_tables.proofs.Same.{one_geometry}
use Rattle.packs.specs.Area.{reading_of}
use Rattle.packs.specs.Device.{KeepsArea}
use Rattle.packs.specs.Pack.{slots_in, picked, Between}
use Rattle.pack_tables.specs.Grammar.{HasSuper}
use Rattle.pack_tables.specs.Holding.{HoldsTables}
use Rattle.checkpoint.specs.Holding.{AreWhole, counting_body}
use Rattle.checkpoint.specs.declared.image_packs.ImagePacks.{ImagePacks}
use Rattle.mount_reading.specs.Held.{KeepsPack, KeepsBetween}

module _ {M : Type 0} (seen : M → List ℕ) where
  pub kept_same : (old new : M) → seen new ≡ seen old → KeepsPack seen old new
  kept_same old new same geometry front = ap (λ (l : List ℕ). picked (reading_of geometry) l) same

  -- whole packs that were opened pick what was picked
  pub kept_picked : (may_leave : M → List ℕ → Type 0) (seen_is_left : (d : M) → may_leave d (seen d)) (old new : M) (found : Geometry) (packs : ImagePacks M)
      → HasSuper found (seen old) → packs.geometry ≡ found → AreWhole seen may_leave packs
      → picked (reading_of found) (seen old) ≡ Some (counting_body seen packs) → seen new ≡ seen packs.area.meta → KeepsPack seen old new
  kept_picked may_leave seen_is_left old new found packs has is whole was same geometry front =
      let area = seen packs.area.meta in
      let body = counting_body seen packs in
      let reading = reading_of packs.area.geometry in
      let here : picked reading area ≡ Some body = settled_picks (slots_in reading area) body (whole.settled.left area (seen_is_left packs.area.meta)).packs in
      let there : picked (reading_of found) (seen new) ≡ Some body
      = subst (λ (l : List ℕ). picked (reading_of found) l ≡ Some body) (sym same)
      (subst (λ (x : Geometry). picked (reading_of x) area ≡ Some body) (whole.size ∙ is) here) in
      subst (λ (x : Geometry). picked (reading_of x) (seen new) ≡ picked (reading_of x) (seen old)) (one_geometry found geometry (seen old) has front) (there ∙ sym was)

  -- where both spell one image, they pick one body
  pub kept_held : (old new : M) (found : Geometry) (image : Image) → HasSuper found (seen old)
      → HoldsTables found image (seen old) → HoldsTables found image (seen new) → KeepsPack seen old new
  kept_held old new found image has was now geometry front =
      let same : now.body ≡ was.body = now.spelled.1 ∙ sym was.spelled.1 in
      subst (λ (x : Geometry). picked (reading_of x) (seen new) ≡ picked (reading_of x) (seen old)) (one_geometry found geometry (seen old) has front)
      (now.picked ∙ (ap (λ (l : List ℕ). Some l) same ∙ sym was.picked))

module _ {M : Type 0} (seen : M → List ℕ) (may_leave : M → List ℕ → Type 0) (moment : M → ℕ) (left_since : M → ℕ → List ℕ → Type 0) where
  abbrev Keeps : M → M → Type 0
  Keeps = KeepsBetween seen may_leave moment left_since

  abbrev Quiet : M → M → Type 0
  Quiet = IsQuiet seen may_leave moment left_since

  pub between_quiet : (only_now : (d : M) (c : List ℕ) → left_since d (moment d) c → may_leave d c) (old new : M) → Quiet old new → Keeps old new
  between_quiet only_now old new quiet geometry one next front had =
      let P = KeepsArea (seen old) (Between (reading_of geometry) one next) in
      quiet_moments moment left_since seen may_leave old old new P (started moment left_since old P (λ c left. had c (only_now old c left))) had quiet

  -- the superblock was read, and then the packs were opened
  pub between_opened : (only_now : (d : M) (c : List ℕ) → left_since d (moment d) c → may_leave d c) (old mid new : M) (found : Geometry) → HasSuper found (seen old) → Quiet old mid
      → ((one next : List ℕ) → Leaves may_leave mid (KeepsArea (seen mid) (Between (reading_of found) one next))
      → LeavesOnly moment left_since mid new (KeepsArea (seen mid) (Between (reading_of found) one next))) → Keeps old new
  between_opened only_now old mid new found has quiet opened geometry one next front had =
      let P : List ℕ → Geometry → List ℕ → Type 0 = λ area numbers. KeepsArea area (Between (reading_of numbers) one next) in
      let numbers = one_geometry found geometry (seen old) has front in
      let there : Leaves may_leave mid (P (seen mid) found)
      = subst (λ (x : Geometry). Leaves may_leave mid (P (seen mid) x)) (sym numbers)
      (subst (λ (l : List ℕ). Leaves may_leave mid (P l geometry)) (sym quiet.same) (λ c left. had c (quiet.fewer c left))) in
      let run : LeavesOnly moment left_since mid new (P (seen old) geometry)
      = subst (λ (x : Geometry). LeavesOnly moment left_since mid new (P (seen old) x)) numbers
      (subst (λ (l : List ℕ). LeavesOnly moment left_since mid new (P l found)) quiet.same (opened one next there)) in
      joined moment left_since old mid new (P (seen old) geometry) (between_quiet only_now old mid quiet geometry one next front had) run

  -- and then they were read
  pub between_read : (counts_now : (d : M) (t : ℕ) (c : List ℕ) → t ≤ moment d → may_leave d c → left_since d t c) (old mid new : M) → Keeps old mid → Quiet mid new → Keeps old new
  between_read counts_now old mid new kept quiet geometry one next front had =
      let P = KeepsArea (seen old) (Between (reading_of geometry) one next) in
      let run = kept geometry one next front had in
      quiet_moments moment left_since seen may_leave old mid new P run (λ c left. run.each c (counts_now mid (moment old) c run.later left)) quiet
