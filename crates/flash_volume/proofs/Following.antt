-- The bytes of a device hold one image, that which the close left: so the files with which work begins are those that it left.
use Rattle.std.proofs.Common.{◌≡◌, ◌∙◌, ℕ, List, ap, sym, subst, map}
use Rattle.device.specs.declared.parts.Parts.{Parts}
use Rattle.file_cells.specs.Pass.{Pass}
use Rattle.flash_volume.specs.Worked.{AreClosed, AreSamePasses}
use Rattle.geometry.specs.File.{File}
use Rattle.geometry.specs.declared.geometry.Geometry.{Geometry}
use Rattle.image.specs.Files.{files}
use Rattle.image.specs.Image.{Image}
use Rattle.image_codec.specs.Blocks.{bytes_at}
use Rattle.image_law.proofs.Weighing.{among-map, of_among-map}
use Rattle.image_law.specs.Items.{Among}
use Rattle.pack_tables.proofs.Same.{law_holds}
use Rattle.volume_law.specs.Found.{IsFound}
use Rattle.volume_law.specs.Lawful.{HoldsLawfulVolume}
use Rattle.volume_law.proofs.Standing.{held_again, files_again}

abbrev pair : Pass → ℕ × File
pair pass = (pass.number, pass.file)

abbrev pass_of : ℕ × File → Pass
pass_of shown = record { number = shown.0; file = shown.1 }

module _ {M B : Type 0} (seen : M → List ℕ) (may_leave : M → List ℕ → Type 0) (address_of : B → ℕ) (content_of : B → List ℕ) where
  pub follows : (geometry other : Geometry) (passes before : List Pass) (image : Image) (parts found : Parts M B)
      → AreClosed seen may_leave address_of content_of geometry passes parts → IsFound seen may_leave address_of content_of geometry parts found
      → HoldsLawfulVolume seen address_of content_of other image found
      → map pair before ≡ files other image (bytes_at content_of found.blocks.items) → (other ≡ geometry) × AreSamePasses passes before
  follows geometry other passes before image parts found closed is holds began =
      let bytes = bytes_at content_of found.blocks.items in
      let again = held_again seen may_leave address_of content_of geometry closed.image parts found closed.mountable is in
      let one = law_holds geometry other closed.image image (seen found.meta) bytes again.held holds.held in
      let listed : map pair before ≡ files geometry closed.image (bytes_at content_of parts.blocks.items)
      = began ∙ (sym one.2 ∙ files_again seen may_leave address_of content_of geometry closed.image parts found closed.mountable is) in (
        sym one.0,
        λ pass. (
          λ among.
              let there = of_among-map pair (pair pass) before (subst (Among (pair pass)) (sym listed) ((closed.shown pass.number pass.file).1 among)) in
              subst (λ (p : Pass). Among p before) (ap pass_of there.2) there.1,
          λ among. (closed.shown pass.number pass.file).0 (subst (Among (pair pass)) listed (among-map pair pass before among)),
        ),
      )
