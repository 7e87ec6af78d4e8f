-- Size, geometry, tables and nodes are each read off the parts and told apart in that order: so what was read is what
-- they hold, and each refusal names what is wrong with them.
use Rattle.std.proofs.Common.{◌≡◌, ◌⊎◌, ℕ, List, length, Some, None, inl, inr, refl, sym, ap, subst, ◌∙◌}
use Rattle.device.specs.Parts.{IsBlockRun, HasSize}
use Rattle.device.specs.declared.parts.Parts.{Parts}
use Rattle.geometry.specs.declared.geometry.Geometry.{Geometry}
use Rattle.geometry.specs.declared.error.Error.{Error}
use Rattle.geometry.specs.declared.error.Error.TheVariants.{NoMemory, Device, BadGeometry, NoPack, BadImage}
use Rattle.geometry.specs.Area.{block_count, meta_bytes}
use Rattle.geometry.specs.Shape.{block_bytes}
use Rattle.image.specs.Image.{Image}
use Rattle.image.specs.Node.{Node}
use Rattle.image.specs.Faults.{IsRefusal}
use Rattle.image.specs.Reading.{read_nodes}
use Rattle.image.specs.Slots.{version_of}
use Rattle.packs.specs.Area.{reading_of}
use Rattle.packs.specs.Pack.{picked}
use Rattle.pack_tables.specs.Grammar.{HasSuper, SpellsTables}
use Rattle.pack_tables.proofs.Bodies.{body_version}
use Rattle.image_codec.specs.Blocks.{bytes_at}
use Rattle.mount_reading.specs.Held.{IsBodyRefusal, IsPartsRefusal}

-- a body begins with its image's version
pub version_there : (geometry : Geometry) (body : List ℕ) (image : Image) → SpellsTables geometry body image → image.version ≡ version_of body
version_there geometry body image spelled = sym (body_version geometry.shape image spelled.0.version) ∙ ap version_of (sym spelled.1)

module _ {M B : Type 0} (seen : M → List ℕ) (address : B → ℕ) (content : B → List ℕ) (parts : Parts M B) where
  abbrev SizeOf : Geometry → Type 0
  SizeOf geometry = (length (seen parts.meta) ≡ meta_bytes geometry) × (length parts.blocks.items ≡ block_count geometry) × IsBlockRun address content (block_bytes geometry.shape) 1 parts.blocks.items

  pub size_of : (geometry : Geometry) → SizeOf geometry → HasSize seen address content geometry parts
  size_of geometry size = record { area = size.0; count = size.1; run = size.2 }

  pub geometry_refused : (e : Error) → (e ≡ Device) ⊎ (((e ≡ BadGeometry) × ((geometry : Geometry) → ¬ HasSuper geometry (seen parts.meta)))
      ⊎ ((e ≡ BadImage 1) × ((geometry : Geometry) × HasSuper geometry (seen parts.meta) × ¬ SizeOf geometry))) → IsPartsRefusal seen address content parts e
  geometry_refused e (inl is) = subst (IsPartsRefusal seen address content parts) (sym is) (tt {0})
  geometry_refused e (inr (inl bad)) = subst (IsPartsRefusal seen address content parts) (sym bad.0) bad.1
  geometry_refused e (inr (inr bad)) = subst (IsPartsRefusal seen address content parts) (sym bad.0) (bad.1.0, bad.1.1, inl (refl, λ size. bad.1.2 (size.area, size.count, size.run)))

  module _ (geometry : Geometry) (has : HasSuper geometry (seen parts.meta)) (size : HasSize seen address content geometry parts) where
    pub open_refused : (e : Error) → (e ≡ NoPack) ⊎ (e ≡ Device) → (e ≡ NoPack → picked (reading_of geometry) (seen parts.meta) ≡ None) → IsPartsRefusal seen address content parts e
    open_refused e (inl is) none = subst (IsPartsRefusal seen address content parts) (sym is) (geometry, has, size, none is)
    open_refused e (inr is) none = subst (IsPartsRefusal seen address content parts) (sym is) (tt {0})

    pub body_refused : (body : List ℕ) → picked (reading_of geometry) (seen parts.meta) ≡ Some body → (e : Error) → IsBodyRefusal geometry body (bytes_at content parts.blocks.items) e → IsPartsRefusal seen address content parts e
    body_refused body picks NoMemory refused = tt {0}
    body_refused body picks Device refused = tt {0}
    body_refused body picks (BadImage fault) refused = (geometry, has, inr (size, (body, picks, refused)))
    body_refused body picks e refused = absurd refused

-- tables are spelled whatever the nodes are
pub spelled_with : (geometry : Geometry) (body : List ℕ) (image : Image) (nodes : List Node) → SpellsTables geometry body image → SpellsTables geometry body (record image { nodes = nodes })
spelled_with geometry body image nodes spelled = (
  record {
    version = spelled.0.version;
    total = spelled.0.total;
    logs = spelled.0.logs;
    places = spelled.0.places;
    table = spelled.0.table;
    entries = spelled.0.entries;
    segments = spelled.0.segments;
    infos = spelled.0.infos;
    summaries = spelled.0.summaries;
    owners = spelled.0.owners;
  },
  spelled.1,
)

-- the refusals of the check of what a body and blocks spell
pub check_refused : (geometry : Geometry) (body : List ℕ) (bytes : ℕ → List ℕ) (image : Image) (e : Error) → SpellsTables geometry body image → image.nodes ≡ read_nodes geometry.shape bytes image.node_table
    → IsRefusal geometry image e → IsBodyRefusal geometry body bytes e
check_refused geometry body bytes image NoMemory spelled nodes refused = tt {0}
check_refused geometry body bytes image (BadImage fault) spelled nodes refused = inr (image, spelled, nodes, refused)
check_refused geometry body bytes image e spelled nodes refused = absurd refused
