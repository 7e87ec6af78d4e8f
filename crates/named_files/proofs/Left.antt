-- A closed volume stands in the file in which its parts are kept. The bytes hold one image, so whoever reads one out of them finds its files.
use Rattle.std.proofs.Common.{◌≡◌, ◌∙◌, ℕ, List, length, min, take, sym, subst, arith}
use Rattle.std.proofs.lemmas.List.{length-take, take-take}
use Rattle.close_area.specs.Shown.{AreShown}
use Rattle.device.specs.declared.parts.Parts.{Parts}
use Rattle.file_cells.specs.Pass.{Pass}
use Rattle.flash_volume.specs.Worked.{AreClosed}
use Rattle.geometry.specs.Area.{meta_bytes}
use Rattle.geometry.specs.File.{File}
use Rattle.geometry.specs.declared.geometry.Geometry.{Geometry}
use Rattle.image.specs.Image.{Image}
use Rattle.image_reading.specs.Held.{HoldsVolume, area_in, files_in}
use Rattle.pack_tables.proofs.Same.{law_holds, one_geometry}
use Rattle.pack_tables.specs.File.{block_in}
use Rattle.pack_tables.specs.Grammar.{HasSuper}
use Rattle.pack_tables.specs.OneImage.{HoldVolume}
use Rattle.named_files.specs.Left.{IsLeftIn}
use Rattle.volume_law.proofs.Standing.{files_stay, stands_in}

-- a superblock stands in front, however many bytes are taken
super_of_front : (geometry : Geometry) (count : ℕ) (bytes : List ℕ) → HasSuper geometry (take count bytes) → HasSuper geometry bytes
super_of_front geometry count bytes super =
    let enough = super.0 in
    let long : length (take count bytes) ≡ min count (length bytes) = length-take count bytes in
    (omega (arith, long, enough), sym (take-take 32 count bytes (omega (arith, long, enough))) ∙ super.1)

module _ {M B : Type 0} (seen : M → List ℕ) (may_leave : M → List ℕ → Type 0) (address_of : B → ℕ) (content_of : B → List ℕ) (geometry : Geometry) (passes : List Pass) (parts : Parts M B)
    (bytes : List ℕ) (closed : AreClosed seen may_leave address_of content_of geometry passes parts) (is : IsLeftIn may_leave content_of geometry parts bytes) where
  held : HoldVolume geometry closed.image (area_in geometry bytes) (block_in geometry bytes)
  held = stands_in seen may_leave address_of content_of geometry closed.image parts closed.mountable (area_in geometry bytes) (block_in geometry bytes) is.area is.blocks

  pub held_in_file : (image : Image) × HoldsVolume geometry image bytes
  held_in_file = (closed.image, record { size = is.size; held = held; lawful = closed.mountable.lawful })

  pub shown_in_file : (other : Geometry) (image : Image) → HoldsVolume other image bytes → (other ≡ geometry) × AreShown (files_in other image bytes) passes
  shown_in_file other image there =
      let same : other ≡ geometry
      = one_geometry other geometry bytes (super_of_front other (meta_bytes other) bytes there.held.front) (super_of_front geometry (meta_bytes geometry) bytes held.front) in
      let here : HoldsVolume geometry image bytes = subst (λ (g : Geometry). HoldsVolume g image bytes) same there in
      let one = law_holds geometry geometry closed.image image (area_in geometry bytes) (block_in geometry bytes) held here.held in
      let stay = files_stay seen may_leave address_of content_of geometry closed.image parts closed.mountable (area_in geometry bytes) (block_in geometry bytes) is.area is.blocks in
      (same, subst (λ (g : Geometry). AreShown (files_in g image bytes) passes) (sym same) (subst (λ (fs : List (ℕ × File)). AreShown fs passes) (sym stay ∙ one.2) closed.shown))
