-- Blocks of the same addresses and contents are the same run, and parts of them have the same size. So what a fault hands back can be
-- mounted again: at the mount it is what was handed in, and later what a volume that was given up leaves.
use Rattle.std.proofs.Common.{◌≡◌, ◌≢◌, ◌∙◌, ℕ, ◌<◌, ap, sym, subst, List, length, map, get_or, inl, inr}
use Rattle.std.proofs.Math.ListN.{get_or-map}
use Rattle.std.proofs.lemmas.List.{length-map}
use Rattle.device.specs.declared.parts.Parts.{Parts}
use Rattle.device.specs.Parts.{HasSize, IsBlockRun}
use Rattle.geometry.specs.declared.geometry.Geometry.{Geometry}
use Rattle.flash_volume.proofs.Results.{at_mount}
use Rattle.flash_volume.specs.Worked.{AreGivenUp}
use Rattle.flash_volume.specs.declared.leave.Stage.{Stage}
use Rattle.flash_volume.specs.declared.leave.Stage.TheVariants.{Mount}
use Rattle.pack_tables.proofs.Same.{one_geometry}
use Rattle.mount_reading.specs.Held.{AreSameParts}
use Rattle.pack_tables.specs.Grammar.{HasSuper}

module _ {B : Type 0} (address_of : B → ℕ) (content_of : B → List ℕ) where
  same_count : (old new : List B) → map address_of new ≡ map address_of old → length new ≡ length old
  same_count old new addresses = sym (length-map new address_of) ∙ ap length addresses ∙ length-map old address_of

  pub same_run : (bytes : ℕ) (old new : List B) → map address_of new ≡ map address_of old → map content_of new ≡ map content_of old
      → IsBlockRun address_of content_of bytes 1 old → IsBlockRun address_of content_of bytes 1 new
  same_run bytes old new addresses contents run = record {
    addresses = λ k other low.
        sym (get_or-map address_of new k other) ∙ ap (λ xs. get_or xs k (address_of other)) addresses ∙ get_or-map address_of old k other ∙ run.addresses k other (still k low);
    lengths = λ k other low.
        ap length (sym (get_or-map content_of new k other) ∙ ap (λ xs. get_or xs k (content_of other)) contents ∙ get_or-map content_of old k other) ∙ run.lengths k other (still k low);
  }
    where
      still : (k : ℕ) → k < length new → k < length old
      still k low = subst (λ n. k < n) (same_count old new addresses) low

module _ {M B : Type 0} (seen : M → List ℕ) (address_of : B → ℕ) (content_of : B → List ℕ) where
  pub same_size : (geometry : Geometry) (old new : Parts M B) → AreSameParts seen address_of content_of old new → HasSize seen address_of content_of geometry old
      → HasSize seen address_of content_of geometry new
  same_size geometry old new same size = record {
    area = same.area.long ∙ size.area;
    count = same_count address_of content_of old.blocks.items new.blocks.items same.addresses ∙ size.count;
    run = same_run address_of content_of _ old.blocks.items new.blocks.items same.addresses same.contents size.run;
  }

  -- a superblock tells one geometry, so the parts of a volume that was given up have the size of the one that was made
  pub size_given_up : (may_leave : M → List ℕ → Type 0) (geometry : Geometry) (made left : Parts M B) → HasSuper geometry (seen made.meta)
      → (other : Geometry) × HasSuper other (seen made.meta) × AreGivenUp seen may_leave address_of content_of other left → HasSize seen address_of content_of geometry left
  size_given_up may_leave geometry made left front (other, there, given_up) =
      subst (λ (numbers : Geometry). HasSize seen address_of content_of numbers left) (one_geometry other geometry (seen made.meta) there front) given_up.size

module _ {M B : Type 0} (seen : M → List ℕ) (may_leave : M → List ℕ → Type 0) (address_of : B → ℕ) (content_of : B → List ℕ) where
  pub refused_run : (old back left : Parts M B) → AreSameParts seen address_of content_of old back → (bytes : ℕ) × IsBlockRun address_of content_of bytes 1 old.blocks.items
      → left ≡ back → (bytes : ℕ) × IsBlockRun address_of content_of bytes 1 left.blocks.items
  refused_run old back left same (bytes, run) is = (
    bytes,
    subst (λ (parts : Parts M B). IsBlockRun address_of content_of bytes 1 parts.blocks.items) (sym is)
        (same_run address_of content_of bytes old.blocks.items back.blocks.items same.addresses same.contents run),
  )

  pub size_back : (geometry : Geometry) (made left : Parts M B) (stage : Stage) → HasSuper geometry (seen made.meta) → HasSize seen address_of content_of geometry made
      → (stage ≡ Mount → AreSameParts seen address_of content_of made left)
      → (stage ≢ Mount → (other : Geometry) × HasSuper other (seen made.meta) × AreGivenUp seen may_leave address_of content_of other left) → HasSize seen address_of content_of geometry left
  size_back geometry made left stage front size same given_up = elim (at_mount stage) [
    | inl is ↦ same_size seen address_of content_of geometry made left (same is) size
    | inr later ↦ size_given_up seen address_of content_of may_leave geometry made left front (given_up later)
  ]
