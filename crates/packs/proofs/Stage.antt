-- Planning only reads, putting keeps the settled pack at every moment, and a sync leaves only what was put: so a pack
-- is staged beside the old one, which counts all the while.
use Rattle.std.proofs.Common.{◌≡◌, sym, ◌∙◌, ap, subst, ℕ, ◌+◌, ◌-◌, ◌≤◌, Bool, true, List, length, arith}
use Rattle.std.specs.Prelude.{Some}
use Rattle.device.specs.Disk.{LeavesOnly, Leaves, IsQuiet, Only}
use Rattle.device.proofs.Moments.{joined, weaker, quiet_moments}
use Rattle.geometry.specs.declared.geometry.Geometry.{Geometry}
use Rattle.image.specs.Slots.{version_of, slot_of}
use Rattle.packs.specs.declared.packs.Packs.{Packs}
use Rattle.packs.specs.declared.packs.Known.{Known}
use Rattle.packs.specs.Pack.{IsSettled, IsStaged}
use Rattle.packs.specs.Area.{slots_reading}
use Rattle.packs.specs.Device.{IsSameArea, KeepsArea, KeepsMapped, AreSettled, AreStaged}
use Rattle.packs.specs.Parts.{map_in, known_sides, assembled}
use Rattle.packs.specs.Staging.{IsPut, SameEnds}
use Rattle.geometry.specs.declared.packing.Packing.TheVariants.{Slots}
use Rattle.packs.proofs.Knowing.{slots_known, known_slots}
use Rattle.packs.proofs.Fronts.{kept_alone}
use Rattle.packs.proofs.Opening.{looked}
use Rattle.packs.proofs.Putting.{KeepOn}
use Rattle.packs.proofs.Steps.{area_stays}

-- what is put after a plan
module _ {D : Type 0} (seen : D → List ℕ) (packs planned : Packs D) (same : seen planned.meta ≡ seen packs.meta) (rest : planned ≡ record packs { meta = planned.meta }) where
  pub put_ends : (after : List ℕ) → SameEnds planned.geometry (seen planned.meta) after → SameEnds packs.geometry (seen packs.meta) after
  put_ends after ends = subst (λ (l : List ℕ). SameEnds packs.geometry l after) same (subst (λ (q : Packs D). SameEnds q.geometry (seen planned.meta) after) rest ends)

  pub put_there : (sides : List Bool) (body after : List ℕ) → IsPut planned.geometry (slot_of planned.version) (known_sides planned.known.map) sides body 66 (seen planned.meta) after
      → IsPut packs.geometry (slot_of packs.version) (known_sides packs.known.map) sides body 66 (seen packs.meta) after
  put_there sides body after put = subst (λ (l : List ℕ). IsPut packs.geometry (slot_of packs.version) (known_sides packs.known.map) sides body 66 l after) same
      (subst (λ (q : Packs D). IsPut q.geometry (slot_of q.version) (known_sides q.known.map) sides body 66 (seen planned.meta) after) rest put)

module _ {D : Type 0} (seen : D → List ℕ) (may_leave : D → List ℕ → Type 0) (moment : D → ℕ) (left_since : D → ℕ → List ℕ → Type 0)
    (seen_is_left : (d : D) → may_leave d (seen d)) (counts_now : (d : D) (t : ℕ) (c : List ℕ) → t ≤ moment d → may_leave d c → left_since d t c)
    (only_now : (d : D) (c : List ℕ) → left_since d (moment d) c → may_leave d c) (packs : Packs D) (start old : List ℕ)
    (had : Leaves may_leave packs.meta (KeepsMapped packs.geometry (slot_of packs.version) packs.known.map start old)) (slot : slot_of packs.version ≡ slot_of (version_of old)) where
  abbrev K : List ℕ → Type 0
  K = KeepsMapped packs.geometry (slot_of packs.version) packs.known.map start old

  -- the plan reads alone
  pub planned_moments : (planned : D) → IsQuiet seen may_leave moment left_since packs.meta planned → LeavesOnly moment left_since packs.meta planned K
  planned_moments planned quiet = looked seen may_leave moment left_since seen_is_left counts_now only_now packs.meta planned K had quiet

  -- what is put is not settled yet
  pub put_moments : (planned : Packs D) (after : D) → IsQuiet seen may_leave moment left_since packs.meta planned.meta → planned ≡ record packs { meta = planned.meta }
      → KeepOn moment left_since may_leave planned after → LeavesOnly moment left_since packs.meta after K
  put_moments planned after quiet rest on =
      let first = planned_moments planned.meta quiet in
      let here : Leaves may_leave planned.meta K = λ c left. had c (quiet.fewer c left) in
      let next : KeepOn moment left_since may_leave (record packs { meta = planned.meta }) after = subst (λ (p : Packs D). KeepOn moment left_since may_leave (record p { meta = planned.meta }) after) rest on in
      joined moment left_since packs.meta planned.meta after K first (next start old here slot)

  -- and a sync comes behind it
  pub synced_moments : (planned : Packs D) (after last : D) → IsQuiet seen may_leave moment left_since packs.meta planned.meta → planned ≡ record packs { meta = planned.meta }
      → KeepOn moment left_since may_leave planned after → IsQuiet seen may_leave moment left_since after last → LeavesOnly moment left_since packs.meta last K
  synced_moments planned after last quiet rest on end =
      let so_far = put_moments planned after quiet rest on in
      quiet_moments moment left_since seen may_leave packs.meta after last K so_far (λ c left. so_far.each c (counts_now after (moment packs.meta) c so_far.later left)) end

module _ {D : Type 0} (seen : D → List ℕ) (may_leave : D → List ℕ → Type 0) (packs : Packs D) (old : List ℕ) (slots : packs.geometry.packing ≡ Slots) (settled : AreSettled (slots_reading packs.geometry) seen may_leave packs old) where
  abbrev Kept : List ℕ → Type 0
  Kept = KeepsMapped packs.geometry (slot_of packs.version) packs.known.map (seen packs.meta) old

  -- what counts stands in each area that may be left, with its map
  pub parts_had : Leaves may_leave packs.meta Kept
  parts_had c left = record { kept = settled.left c left; mapped = slots_known packs.geometry (slot_of packs.version) packs.known c slots (settled.known c left) }

  pub parts_at : slot_of packs.version ≡ slot_of (version_of old)
  parts_at = ap slot_of settled.version

  pub parts_moments : (moment : D → ℕ) (left_since : D → ℕ → List ℕ → Type 0) (after : D) → LeavesOnly moment left_since packs.meta after Kept
      → LeavesOnly moment left_since packs.meta after (KeepsArea (seen packs.meta) (IsSettled (slots_reading packs.geometry) old))
  parts_moments moment left_since after run = weaker moment left_since packs.meta after Kept (KeepsArea (seen packs.meta) (IsSettled (slots_reading packs.geometry) old)) (λ c k. k.kept) run

  -- once it is settled the pack is staged
  pub parts_staged : (after : D) (body : List ℕ) (next : Known) → Kept (seen after) → IsSameArea (seen packs.meta) (seen after) → assembled packs.geometry (1 - slot_of packs.version) (seen after) ≡ body
      → map_in packs.geometry (1 - slot_of packs.version) (seen after) ≡ next.map → Only (seen after) (may_leave after) → AreStaged (slots_reading packs.geometry) seen may_leave (record packs { meta = after }) old body next
  parts_staged after body next now same is mapped only =
      let r = slots_reading packs.geometry in
      let staged : IsStaged r old body (seen after) = record { settled = now.kept.packs; body = ap (λ (k : ℕ). assembled packs.geometry (1 - k) (seen after)) (sym parts_at) ∙ is } in
      record {
        area = area_stays packs.geometry (seen packs.meta) _ settled.area same.long;
        version = settled.version;
        left = λ d left. kept_alone (IsStaged r old body) (seen after) d (only d left) (subst (IsStaged r old body) (sym (only d left)) staged);
        known = λ d left. known_slots packs.geometry (1 - slot_of packs.version) next d slots (ap (map_in packs.geometry (1 - slot_of packs.version)) (only d left) ∙ mapped);
      }
