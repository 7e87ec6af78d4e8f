-- A settled pack of an image's body, and what stands in front of it.
use Rattle.std.proofs.Common.{◌≡◌, ◌∙◌, ℕ, List, length, ap, subst, arith}
use Rattle.geometry.specs.declared.geometry.Geometry.{Geometry}
use Rattle.image.specs.Image.{Image}
use Rattle.image.specs.Slots.{version_of}
use Rattle.packs.specs.Area.{reading_of}
use Rattle.packs.specs.Parts.{body_bytes}
use Rattle.packs.specs.Device.{AreSettled}
use Rattle.packs.specs.Pack.{IsSettled}
use Rattle.packs.specs.declared.packs.Packs.{Packs}
use Rattle.pack_tables.proofs.Bodies.{body_version, settled_area_holds}
use Rattle.pack_tables.proofs.Parts.{long_as_a_body}
use Rattle.pack_tables.specs.Grammar.{SpellsTables}
use Rattle.pack_tables.specs.Holding.{HoldsTables}

pub first_version : (geometry : Geometry) (image : Image) (body : List ℕ) → SpellsTables geometry body image → image.version ≡ 1 → version_of body ≡ 1
first_version geometry image body spelled first = ap version_of spelled.1 ∙ body_version geometry.shape image (omega (arith, first)) ∙ first

pub body_long : (geometry : Geometry) (image : Image) (body : List ℕ) → SpellsTables geometry body image → length body ≡ body_bytes geometry
body_long geometry image body spelled = long_as_a_body geometry body image spelled

-- what settled packs show holds the image's tables
pub tables_there : {D : Type 0} (seen : D → List ℕ) (may_leave : D → List ℕ → Type 0) (geometry : Geometry) (image : Image) (packs : Packs D) (body : List ℕ)
    → packs.geometry ≡ geometry → SpellsTables geometry body image → AreSettled (reading_of packs.geometry) seen may_leave packs body
    → may_leave packs.meta (seen packs.meta) → HoldsTables geometry image (seen packs.meta)
tables_there seen may_leave geometry image packs body size spelled settled left =
    settled_area_holds geometry image body (seen packs.meta) spelled
    (subst (λ (numbers : Geometry). IsSettled (reading_of numbers) body (seen packs.meta)) size (settled.left (seen packs.meta) left).packs)
