-- What is beside the pack that counts leaves it settled: so a body in pages is staged while the old pack counts all the while.
use Rattle.std.proofs.Common.{◌≡◌, sym, ◌∙◌, ap, subst, ℕ, ◌+◌, ◌-◌, ◌<◌, ◌≤◌, true, List, length, take, arith}
use Rattle.std.proofs.lemmas.List.{take-take}
use Rattle.device.specs.Disk.{Leaves, LeavesOnly, Only}
use Rattle.device.proofs.Moments.{weaker}
use Rattle.geometry.specs.declared.geometry.Geometry.{Geometry}
use Rattle.geometry.specs.declared.packing.Packing.TheVariants.{Pages}
use Rattle.image.specs.Slots.{version_of, slot_of}
use Rattle.packs.specs.declared.packs.Packs.{Packs}
use Rattle.packs.specs.declared.packs.Known.{Known}
use Rattle.packs.specs.Pack.{IsSettled, IsStaged, SameButBody}
use Rattle.packs.specs.Area.{pages_reading}
use Rattle.packs.specs.Parts.{body_bytes}
use Rattle.packs.specs.Device.{IsSameArea, KeepsArea, AreSettled, AreStaged}
use Rattle.packs.proofs.Crash.{settled_staging}
use Rattle.packs.proofs.Fronts.{kept_alone}
use Rattle.packs.proofs.Keeping.{area_joined}
use Rattle.packs.proofs.Knowing.{known_pages}
use Rattle.packs_journal.specs.Places.{page_count, map_pages}
use Rattle.packs_journal.specs.Journal.{map_of, names_pages, is_head}
use Rattle.packs_journal.specs.Reading.{head_in, assembled as paged}
use Rattle.packs_journal.specs.Staging.{IsMapOf, IsBeside, IsBesideOne}
use Rattle.packs_journal.specs.Pages.{DiffersIn}

same_front : (c d : List ℕ) → take 4096 d ≡ take 4096 c → take 32 d ≡ take 32 c
same_front c d same = sym (take-take 32 4096 d (omega arith)) ∙ ap (take 32) same ∙ take-take 32 4096 c (omega arith)

pub beside_area : (len slot : ℕ) (c d : List ℕ) → IsBeside len slot c d → IsSameArea c d
beside_area len slot c d beside = record { long = beside.long; front = same_front c d beside.front }

module _ (g : Geometry) (slot : ℕ) (le : slot ≤ 1) where
  beside_but : (c d : List ℕ) → IsBeside (body_bytes g) slot c d → SameButBody (pages_reading g) slot c d
  beside_but c d beside = record { body = beside.body; footer = beside.footers slot (omega (arith, le)); other = beside.footers (1 - slot) (omega arith) }

  pub beside_settled : (old c d : List ℕ) → slot ≡ slot_of (version_of old) → IsSettled (pages_reading g) old c → IsBeside (body_bytes g) slot c d → IsSettled (pages_reading g) old d
  beside_settled old c d at settled beside = settled_staging (pages_reading g) old c d settled (subst (λ (k : ℕ). SameButBody (pages_reading g) k c d) at (beside_but c d beside))

module _ {D : Type 0} (seen : D → List ℕ) (may_leave : D → List ℕ → Type 0) (moment : D → ℕ) (left_since : D → ℕ → List ℕ → Type 0) (seen_is_left : (d : D) → may_leave d (seen d))
    (packs : Packs D) (old : List ℕ) (pages : packs.geometry.packing ≡ Pages) (settled : AreSettled (pages_reading packs.geometry) seen may_leave packs old) where
  abbrev S : List ℕ → Type 0
  S = KeepsArea (seen packs.meta) (IsSettled (pages_reading packs.geometry) old)

  at : slot_of packs.version ≡ slot_of (version_of old)
  at = ap slot_of settled.version

  kept_beside : (c d : List ℕ) → S c → IsBeside (body_bytes packs.geometry) (slot_of packs.version) c d → S d
  kept_beside c d kept beside = record {
    packs = beside_settled packs.geometry (slot_of packs.version) (omega arith) old c d at kept.packs beside;
    same = area_joined (seen packs.meta) c d kept.same (beside_area (body_bytes packs.geometry) (slot_of packs.version) c d beside);
  }

  -- the map that the packs know is that of the pack that counts
  pub known_map : Leaves may_leave packs.meta (IsMapOf (body_bytes packs.geometry) (slot_of packs.version) packs.known.pages.map)
  known_map c left = (settled.known c left).pages pages

  pub known_names : names_pages (page_count (body_bytes packs.geometry)) packs.known.pages.map map_pages ≡ true
  known_names = (settled.known (seen packs.meta) (seen_is_left packs.meta)).names pages

  -- and so are the pages in which the body that counts may differ
  pub known_noted : DiffersIn packs.known.pages.noted (body_bytes packs.geometry) packs.known.pages.map (paged (body_bytes packs.geometry) (slot_of packs.version) (seen packs.meta)) (seen packs.meta)
  known_noted = (settled.known (seen packs.meta) (seen_is_left packs.meta)).noted pages

  pub paged_moments : (after : D) → LeavesOnly moment left_since packs.meta after (IsBesideOne may_leave (body_bytes packs.geometry) (slot_of packs.version) packs.meta) → LeavesOnly moment left_since packs.meta after S
  paged_moments after run = weaker moment left_since packs.meta after (IsBesideOne may_leave (body_bytes packs.geometry) (slot_of packs.version) packs.meta) S (λ d is. kept_beside is.0 d (settled.left is.0 is.1) is.2) run

  pub paged_staged : (after : D) (body : List ℕ) (next : Known) → IsBeside (body_bytes packs.geometry) (slot_of packs.version) (seen packs.meta) (seen after) → Only (seen after) (may_leave after)
      → paged (body_bytes packs.geometry) (1 - slot_of packs.version) (seen after) ≡ body → map_of (head_in (1 - slot_of packs.version) (seen after)) ≡ next.pages.map → names_pages (page_count (body_bytes packs.geometry)) next.pages.map map_pages ≡ true
      → DiffersIn next.pages.noted (body_bytes packs.geometry) next.pages.map body (seen after) → AreStaged (pages_reading packs.geometry) seen may_leave (record packs { meta = after }) old body next
  paged_staged after body next beside only is mapped named noted =
      let here = kept_beside (seen packs.meta) (seen after) (settled.left (seen packs.meta) (seen_is_left packs.meta)) beside in
      let other : 1 - slot_of (version_of old) ≡ 1 - slot_of packs.version = ap (λ (k : ℕ). 1 - k) (sym at) in
      let staged : IsStaged (pages_reading packs.geometry) old body (seen after) = record { settled = here.packs; body = ap (λ (k : ℕ). paged (body_bytes packs.geometry) k (seen after)) other ∙ is } in
      let len = body_bytes packs.geometry in
      let next_in = 1 - slot_of packs.version in
      let differs : DiffersIn next.pages.noted len next.pages.map (paged len next_in (seen after)) (seen after) = subst (λ (b : List ℕ). DiffersIn next.pages.noted len next.pages.map b (seen after)) (sym is) noted in
      record {
        area = beside.long ∙ settled.area;
        version = settled.version;
        left = λ d left. kept_alone (IsStaged (pages_reading packs.geometry) old body) (seen after) d (only d left) (subst (IsStaged (pages_reading packs.geometry) old body) (sym (only d left)) staged);
        known = λ d left. known_pages packs.geometry next_in next d pages (λ _. ap (λ (l : List ℕ). map_of (head_in next_in l)) (only d left) ∙ mapped) named
            (subst (λ (l : List ℕ). DiffersIn next.pages.noted len next.pages.map (paged len next_in l) l) (sym (only d left)) differs);
      }
