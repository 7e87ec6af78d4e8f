-- A closed volume stands on what is found of its parts, or in the bytes of a file: a lawful image reads no block but those that it marks.
use Rattle.std.proofs.Common.{◌≡◌, sym, ap, subst, ◌∙◌, ℕ, List, IsTrue}
use Rattle.device.specs.declared.parts.Parts.{Parts}
use Rattle.geometry.specs.declared.geometry.Geometry.{Geometry}
use Rattle.geometry.specs.File.{Block}
use Rattle.image.specs.Files.{files}
use Rattle.image.specs.Image.{Image, is_marked}
use Rattle.image.specs.Reading.{image_in, read_nodes}
use Rattle.image.specs.Rules.{IsLawful}
use Rattle.image.proofs.Frame.{same_image, same_files}
use Rattle.image_codec.specs.Blocks.{bytes_at}
use Rattle.pack_tables.specs.Holding.{HoldsTables}
use Rattle.pack_tables.specs.OneImage.{HoldVolume}
use Rattle.pack_tables.proofs.RoundTrip.{spelled_back}
use Rattle.volume_format.specs.Mountable.{IsMountable}
use Rattle.volume_law.specs.Lawful.{HoldsLawfulVolume}
use Rattle.volume_law.specs.Found.{IsFound}

module _ {M B : Type 0} (seen : M → List ℕ) (may_leave : M → List ℕ → Type 0) (address_of : B → ℕ) (content_of : B → List ℕ) (geometry : Geometry) (image : Image) (closed : Parts M B)
    (stands : IsMountable seen may_leave address_of content_of geometry image closed) where
  abbrev left : ℕ → Block
  left = bytes_at content_of closed.blocks.items

  -- in an area that a crash may have left, and blocks of which each that its tables mark is as it was
  module _ (area : List ℕ) (now : ℕ → Block) (may : may_leave closed.meta area)
      (same : (tables : Image) → HoldsTables geometry tables area → (address : ℕ) → IsTrue (is_marked geometry tables address) → now address ≡ left address) where
    tables : HoldsTables geometry image area
    tables = stands.tables area may

    agree : (address : ℕ) → IsTrue (is_marked geometry image address) → now address ≡ left address
    agree = same image tables

    -- the image is what a reader finds in its body and in the blocks that were left
    as_left : image_in geometry tables.body left ≡ image
    as_left = spelled_back geometry tables.body image left tables.spelled ∙ ap (λ nodes. record image { nodes = nodes }) (sym stands.nodes)

    as_now : image_in geometry tables.body now ≡ image_in geometry tables.body left
    as_now =
        same_image geometry tables.body now left (subst (IsLawful geometry) (sym as_left) stands.lawful)
        (λ address marked. agree address (subst (λ i. IsTrue (is_marked geometry i address)) as_left marked))

    nodes_again : image.nodes ≡ read_nodes geometry.shape now image.node_table
    nodes_again = sym (ap (λ (i : Image). i.nodes) (sym (spelled_back geometry tables.body image now tables.spelled) ∙ (as_now ∙ as_left)))

    pub stands_in : HoldVolume geometry image area now
    stands_in = record { front = stands.front area may; tables = tables; nodes = nodes_again }

    pub files_stay : files geometry image now ≡ files geometry image left
    files_stay = same_files geometry image now left stands.lawful agree

module _ {M B : Type 0} (seen : M → List ℕ) (may_leave : M → List ℕ → Type 0) (address_of : B → ℕ) (content_of : B → List ℕ) (geometry : Geometry) (image : Image) (closed found : Parts M B)
    (stands : IsMountable seen may_leave address_of content_of geometry image closed) (is : IsFound seen may_leave address_of content_of geometry closed found) where
  abbrev found_blocks : ℕ → Block
  found_blocks = bytes_at content_of found.blocks.items

  pub held_again : HoldsLawfulVolume seen address_of content_of geometry image found
  held_again = record {
    size = is.size;
    held = stands_in seen may_leave address_of content_of geometry image closed stands (seen found.meta) found_blocks is.area is.blocks;
    lawful = stands.lawful;
  }

  pub files_again : files geometry image found_blocks ≡ files geometry image (bytes_at content_of closed.blocks.items)
  files_again = files_stay seen may_leave address_of content_of geometry image closed stands (seen found.meta) found_blocks is.area is.blocks
