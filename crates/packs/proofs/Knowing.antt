-- What is known of a pack's parts, by its packing.
use Rattle.std.proofs.Common.{◌≡◌, sym, ◌∙◌, ap, ℕ, ◌<◌, true, false, List, arith}
use Rattle.std.proofs.lemmas.Bool.{true≢false}
use Rattle.geometry.specs.declared.geometry.Geometry.{Geometry}
use Rattle.geometry.specs.declared.packing.Packing.{Packing}
use Rattle.geometry.specs.declared.packing.Packing.TheVariants.{Slots, Pages}
use Rattle.packs.specs.Pack.{Reading}
use Rattle.packs.specs.Parts.{body_bytes, map_in}
use Rattle.packs.specs.Area.{slots_reading, pages_reading, reading_by, reading_of}
use Rattle.packs.specs.Device.{IsKnown}
use Rattle.packs_journal.specs.Places.{page_count, map_pages}
use Rattle.packs_journal.specs.Journal.{names_pages}
use Rattle.packs_journal.specs.Reading.{assembled as paged}
use Rattle.packs_journal.specs.Staging.{IsMapOf}
use Rattle.packs_journal.specs.Pages.{has_page, DiffersIn}
use Rattle.packs_journal.specs.declared.page_set.PageSet.{PageSet}
use Rattle.packs.specs.declared.packs.Known.{Known}
use Rattle.packs.proofs.Sizes.{is_body}

pub of_slots : (g : Geometry) → g.packing ≡ Slots → reading_of g ≡ slots_reading g
of_slots g is = ap (λ p. reading_by p g) is

pub of_pages : (g : Geometry) → g.packing ≡ Pages → reading_of g ≡ pages_reading g
of_pages g is = ap (λ p. reading_by p g) is

-- no page is out of a set of all
pub none_out : (g : Geometry) (pages : PageSet) → ((k : ℕ) → k < map_pages → has_page pages k ≡ true) → (k : ℕ) → k < page_count (body_bytes g) → has_page pages k ≡ false → ⊥
none_out g pages all k below out = let few = (is_body g).mapped in true≢false (sym (all k (omega (arith, below, few))) ∙ out)

module _ (g : Geometry) (slot : ℕ) (known : Known) (area : List ℕ) where
  pub slots_known : g.packing ≡ Slots → IsKnown g slot known area → map_in g slot area ≡ known.map
  slots_known is has = has.map is

  pub known_slots : g.packing ≡ Slots → map_in g slot area ≡ known.map → IsKnown g slot known area
  known_slots is has = record { map = λ _. has; pages = λ other. absurd (apart g.packing is other); names = λ other. absurd (apart g.packing is other); noted = λ other. absurd (apart g.packing is other) }
    where
      apart : (p : Packing) → p ≡ Slots → p ≡ Pages → ⊥
      apart Slots is other = cc
      apart Pages is other = cc

  pub known_pages : g.packing ≡ Pages → IsMapOf (body_bytes g) slot known.pages.map area → names_pages (page_count (body_bytes g)) known.pages.map map_pages ≡ true
      → DiffersIn known.pages.noted (body_bytes g) known.pages.map (paged (body_bytes g) slot area) area → IsKnown g slot known area
  known_pages is map names noted = record { map = λ other. absurd (apart g.packing is other); pages = λ _. map; names = λ _. names; noted = λ _. noted }
    where
      apart : (p : Packing) → p ≡ Pages → p ≡ Slots → ⊥
      apart Slots is other = cc
      apart Pages is other = cc
