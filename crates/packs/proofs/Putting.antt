-- Each call writes the next map or one part, which keeps the picked pack whatever a crash leaves of it: so does a run
-- of such calls, and when all parts are put the pack is the body.
use Rattle.std.proofs.Common.{◌≡◌, refl, sym, ◌∙◌, ap, subst, ℕ, suc, ◌+◌, ◌-◌, ◌*◌, ◌<◌, ◌≤◌, Bool, List, length, arith}
use Rattle.std.specs.Prelude.{Option, Some, true}
use Rattle.std.proofs.Common.{inl}
use Rattle.device.specs.Disk.{Torn, LeavesOnly, Leaves}
use Rattle.device.proofs.Moments.{started, joined}
use Rattle.image.specs.Slots.{version_of, slot_of}
use Rattle.packs.specs.declared.map.Map.{Map}
use Rattle.packs.specs.declared.packs.Packs.{Packs}
use Rattle.packs.specs.Pack.{IsSettled, SameButBody}
use Rattle.packs.specs.Area.{slots_reading, area_bytes}
use Rattle.packs.specs.Device.{IsSameArea, KeepsArea, KeepsMapped}
use Rattle.packs.specs.Parts.{body_bytes, slot_at, place, side, lies, map_at, map_in, read_map, known_sides, assembled}
use Rattle.packs.specs.Staging.{IsPut, SameEnds, IsPlan}
use Rattle.geometry.specs.declared.geometry.Geometry.{Geometry}
use Rattle.packs.proofs.Crash.{settled_staging}
use Rattle.packs.proofs.Gathering.{assembled_whole}
use Rattle.packs.proofs.Keeping.{Keeps, map_kept, part_kept, area_joined}
use Rattle.packs.proofs.Maps.{spelled_reads}

module _ (g : Geometry) (version : ℕ) (map : Option Map) (start old : List ℕ) (slot : slot_of version ≡ slot_of (version_of old)) where
  step : (c d : List ℕ) → KeepsMapped g (slot_of version) map start old c → Keeps g (slot_of version) map c d → KeepsMapped g (slot_of version) map start old d
  step c d was keeps = record {
    kept = record {
      packs = settled_staging (slots_reading g) old c d was.kept.packs (subst (λ (k : ℕ). SameButBody (slots_reading g) k c d) slot keeps.packs);
      same = area_joined start c d was.kept.same keeps.area;
    };
    mapped = keeps.mapped;
  }

  -- the map
  pub map_step : (at n : ℕ) → at ≡ map_at (1 - slot_of version) → n ≡ 16 → (c d : List ℕ) → KeepsMapped g (slot_of version) map start old c → Torn at n c d → KeepsMapped g (slot_of version) map start old d
  map_step at n at_is n_is c d was torn =
      step c d was (map_kept g (slot_of version) map c d (omega arith) was.mapped
      (subst (λ (a : ℕ). Torn a 16 c d) at_is (subst (λ (m : ℕ). Torn at m c d) n_is torn)))

  -- a part
  pub part_step : (at n k : ℕ) (way : Bool) → k < 66 → way ≡ side (known_sides map) k
      → at ≡ slot_at (body_bytes g) (lies (1 - slot_of version) way) + place g k → n ≡ place g (suc k) - place g k
      → (c d : List ℕ) → KeepsMapped g (slot_of version) map start old c → Torn at n c d → KeepsMapped g (slot_of version) map start old d
  part_step at n k way below is at_is n_is c d was torn =
      step c d was (part_kept g (slot_of version) map c d (omega arith) was.mapped k way below is
      (subst (λ (a : ℕ). Torn a (place g (suc k) - place g k) c d) at_is (subst (λ (m : ℕ). Torn at m c d) n_is torn)))

-- a run of calls that keep it, and one more
module _ {D : Type 0} (moment : D → ℕ) (left_since : D → ℕ → List ℕ → Type 0) (may_leave : D → List ℕ → Type 0) where
  abbrev pub KeepOn : Packs D → D → Type 0
  KeepOn packs after =
      (start old : List ℕ) → Leaves may_leave packs.meta (KeepsMapped packs.geometry (slot_of packs.version) packs.known.map start old) → slot_of packs.version ≡ slot_of (version_of old)
      → LeavesOnly moment left_since packs.meta after (KeepsMapped packs.geometry (slot_of packs.version) packs.known.map start old)

  pub keep_more : ((d : D) (t : ℕ) (c : List ℕ) → t ≤ moment d → may_leave d c → left_since d t c) → (packs now : Packs D) (after : D) → now ≡ record packs { meta = now.meta } → KeepOn packs now.meta → KeepOn now after → KeepOn packs after
  keep_more counts_now packs now after rest first second start old had slot =
      let P = KeepsMapped packs.geometry (slot_of packs.version) packs.known.map start old in
      let so_far = first start old had slot in
      let here : Leaves may_leave now.meta P = λ c left. so_far.each c (counts_now now.meta (moment packs.meta) c so_far.later left) in
      let next : KeepOn (record packs { meta = now.meta }) after = subst (λ p. KeepOn (record p { meta = now.meta }) after) rest second in
      joined moment left_since packs.meta now.meta after P so_far (next start old here slot)

-- a pack whose parts are all put is the body, by its map
pub put_whole : (g : Geometry) (slot : ℕ) (old sides : List Bool) (body start area : List ℕ) → length body ≡ body_bytes g → IsPlan g slot old sides body start → IsPut g slot old sides body 66 start area
    → (assembled g (1 - slot) area ≡ body) × (map_in g (1 - slot) area ≡ Some (record { in_parts = true; sides = sides }))
put_whole g slot old sides body start area long plan put =
    let map = ap (read_map g) put.map ∙ spelled_reads g sides plan.many plan.named in
    (assembled_whole g (1 - slot) area body (record { in_parts = true; sides = sides }) long map (λ k below. put.there k below (inl below)), map)
