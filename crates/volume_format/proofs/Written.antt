-- The settled pack spells the tables of the empty image, whose node table names nothing to read: so whatever a crash
-- leaves, the pack counts and the superblock in front stands.
use Rattle.std.proofs.Common.{◌≡◌, refl, sym, ◌∙◌, ap, subst, ℕ, zero, suc, List, ◌∷◌, map, length, replicate, Bool, true, arith}
use Rattle.std.proofs.lemmas.Bool.{false≢true}
use Rattle.std.specs.Prelude.{Result, Ok, Err, OnOk}
use Rattle.std.specs.Result.{is_ok}
use Rattle.device.specs.Disk.{Leaves}
use Rattle.geometry.specs.declared.geometry.Geometry.{Geometry}
use Rattle.geometry.specs.declared.shape.Shape.{Shape}
use Rattle.geometry.specs.File.{Block}
use Rattle.image.specs.Empty.{empty_image}
use Rattle.image.specs.Image.{Image, no_entry, no_node}
use Rattle.image.specs.Reading.{read_nodes}
use Rattle.packs.specs.Area.{reading_of}
use Rattle.packs.specs.Parts.{body_bytes}
use Rattle.packs.specs.Device.{AreSettled, IsSameArea}
use Rattle.packs.specs.Pack.{IsSettled}
use Rattle.packs.specs.declared.packs.Packs.{Packs}
use Rattle.pack_tables.proofs.Bodies.{body_version, settled_area_holds}
use Rattle.pack_tables.proofs.Parts.{long_as_a_body}
use Rattle.pack_tables.proofs.SuperLemmas.{super_stays}
use Rattle.image.specs.Slots.{version_of}
use Rattle.pack_tables.specs.Grammar.{HasSuper, SpellsTables}
use Rattle.pack_tables.specs.Holding.{HoldsTables}

-- a table of zeros names no node
none_read : (shape : Shape) (blocks : ℕ → Block) (n : ℕ) → replicate n no_node ≡ read_nodes shape blocks (replicate n no_entry)
none_read shape blocks zero = refl
none_read shape blocks (suc n) = ap (λ nodes. no_node ∷ nodes) (none_read shape blocks n)

pub no_nodes_read : (geometry : Geometry) (blocks : ℕ → Block) → (empty_image geometry).nodes ≡ read_nodes geometry.shape blocks (empty_image geometry).node_table
no_nodes_read geometry blocks = none_read geometry.shape blocks geometry.nodes

-- its body begins with version 1, and is as long as a body
pub first_version : (geometry : Geometry) (body : List ℕ) → SpellsTables geometry body (empty_image geometry) → version_of body ≡ 1
first_version geometry body spelled = ap version_of spelled.1 ∙ body_version geometry.shape (empty_image geometry) (omega arith)

pub first_long : (geometry : Geometry) (body : List ℕ) → SpellsTables geometry body (empty_image geometry) → length body ≡ body_bytes geometry
first_long geometry body spelled = long_as_a_body geometry body (empty_image geometry) spelled

-- what an answer says of Ok holds where it is none
pub where_ok : {T E P : Type 0} (r : Result T E) → is_ok r ≡ true → OnOk r P → P
where_ok (Ok x) is said = said
where_ok (Err e) is said = absurd (false≢true is)

-- whatever a crash leaves of settled packs, the superblock in front of them stands
pub front_left : {D : Type 0} (seen : D → List ℕ) (may_leave : D → List ℕ → Type 0) (geometry : Geometry) (packs : Packs D) (body area : List ℕ)
    → AreSettled (reading_of packs.geometry) seen may_leave packs body → IsSameArea area (seen packs.meta) → HasSuper geometry area
    → Leaves may_leave packs.meta (HasSuper geometry)
front_left seen may_leave geometry packs body area settled same front c left =
    let kept = (settled.left c left).same in
    super_stays geometry (seen packs.meta) c (super_stays geometry area (seen packs.meta) front same.long same.front) kept.long kept.front

-- and the pack that counts spells the image's tables
pub tables_left : {D : Type 0} (seen : D → List ℕ) (may_leave : D → List ℕ → Type 0) (geometry : Geometry) (image : Image) (packs : Packs D) (body : List ℕ)
    → packs.geometry ≡ geometry → SpellsTables geometry body image → AreSettled (reading_of packs.geometry) seen may_leave packs body
    → Leaves may_leave packs.meta (HoldsTables geometry image)
tables_left seen may_leave geometry image packs body size spelled settled c left =
    settled_area_holds geometry image body c spelled (subst (λ (numbers : Geometry). IsSettled (reading_of numbers) body c) size (settled.left c left).packs)
