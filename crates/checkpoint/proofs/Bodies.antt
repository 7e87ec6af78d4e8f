-- What packs hold that are settled with an image's body.
use Rattle.std.proofs.Common.{◌≡◌, ℕ, List, subst}
use Rattle.geometry.specs.declared.geometry.Geometry.{Geometry}
use Rattle.device.specs.Disk.{Leaves}
use Rattle.image.specs.Image.{Image}
use Rattle.packs.specs.Pack.{IsSettled}
use Rattle.packs.specs.Area.{reading_of}
use Rattle.packs.specs.Device.{AreSettled}
use Rattle.packs.specs.declared.packs.Packs.{Packs}
use Rattle.pack_tables.proofs.Bodies.{settled_area_holds}
use Rattle.pack_tables.specs.Grammar.{SpellsTables}
use Rattle.pack_tables.specs.Holding.{HoldsTables}

-- whatever a crash leaves of packs that are settled with an image's body, they hold its tables
pub settled_holds : {D : Type 0} (seen : D → List ℕ) (may_leave : D → List ℕ → Type 0) (geometry : Geometry) (image : Image) (packs : Packs D) (body : List ℕ)
    → packs.geometry ≡ geometry → SpellsTables geometry body image → AreSettled (reading_of packs.geometry) seen may_leave packs body
    → Leaves may_leave packs.meta (HoldsTables geometry image)
settled_holds seen may_leave geometry image packs body size spelled settled area left =
    settled_area_holds geometry image body area spelled (subst (λ (g : Geometry). IsSettled (reading_of g) body area) size (settled.left area left).packs)
