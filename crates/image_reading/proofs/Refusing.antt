-- A test that failed tells why the bytes are refused, and those before it passed.
use Rattle.std.proofs.Common.{◌≡◌, ◌≢◌, ◌∙◌, ◌⊎◌, ℕ, List, Some, inl, inr, subst, refl, sym, ap, length, min, take, arith}
use Rattle.std.proofs.lemmas.List.{length-take, take-take}
use Rattle.device.specs.Disk.{part}
use Rattle.geometry.specs.Area.{meta_bytes}
use Rattle.geometry.specs.declared.error.Error.{Error}
use Rattle.geometry.specs.declared.error.Error.TheVariants.{NoMemory, BadGeometry, BadImage}
use Rattle.geometry.specs.declared.geometry.Geometry.{Geometry}
use Rattle.image.specs.Faults.{IsRefusal}
use Rattle.image.specs.Image.{Image}
use Rattle.image.specs.Reading.{read_nodes}
use Rattle.image_reading.specs.Held.{area_in}
use Rattle.image_reading.specs.Refused.{IfRefused, IsAreaRefusal, IsBytesRefusal, IsFrontRefusal}
use Rattle.image_reading.specs.declared.fault.ReadFault.{ReadFault}
use Rattle.image_reading.specs.declared.fault.ReadFault.TheVariants.{Refused}
use Rattle.packs.specs.Area.{reading_of}
use Rattle.packs.specs.Pack.{picked}
use Rattle.packs.specs.Parts.{body_bytes}
use Rattle.pack_tables.proofs.Parts.{none_of_this_length}
use Rattle.pack_tables.specs.File.{block_in, file_bytes}
use Rattle.pack_tables.specs.Grammar.{HasSuper}
use Rattle.pack_tables.specs.Holding.{HoldsTables}

pub if_refused : (fault : ReadFault) (P Q : Error → Type 0) → ((e : Error) → P e → Q e) → IfRefused fault P → IfRefused fault Q
if_refused (Refused e) P Q so is = so e is
if_refused other P Q so is = tt {0}

-- the body that counts was not read: for want of memory, or since it has no body's length
pub body_refused : (geometry other : Geometry) (area body : List ℕ) → other ≡ geometry → picked (reading_of geometry) area ≡ Some body
    → (e : Error) → (e ≡ NoMemory) ⊎ ((e ≡ BadImage 1) × (length body ≢ body_bytes other)) → IsAreaRefusal geometry area e
body_refused geometry other area body same picks e (inl is) = subst (IsAreaRefusal geometry area) (sym is) (tt {0})
body_refused geometry other area body same picks e (inr bad) =
    subst (IsAreaRefusal geometry area) (sym bad.0) (refl, (body, picks, none_of_this_length geometry body (λ long. bad.1 (long ∙ sym (ap body_bytes same)))))

module _ (bytes : List ℕ) where
  pub no_super : (front : List ℕ) → front ≡ part 0 64 bytes → ((geometry : Geometry) → ¬ HasSuper geometry front) → IsFrontRefusal bytes BadGeometry
  no_super front read never = λ geometry super.
      let enough = super.0 in
      let long : length front ≡ min 64 (length bytes) = ap length read ∙ length-take 64 bytes in
      never geometry (omega (arith, long, enough), ap (take 32) read ∙ take-take 32 64 bytes (omega arith) ∙ super.1)

  pub other_size : (geometry : Geometry) (front : List ℕ) → front ≡ part 0 64 bytes → HasSuper geometry front → length bytes ≢ file_bytes geometry → IsFrontRefusal bytes (BadImage 1)
  other_size geometry front read super other =
      let enough = super.0 in
      let long : length front ≡ min 64 (length bytes) = ap length read ∙ length-take 64 bytes in
      (refl, (geometry, (omega (arith, long, enough), sym (ap (take 32) read ∙ take-take 32 64 bytes (omega arith)) ∙ super.1), other))

  module _ (geometry : Geometry) (super : HasSuper geometry (area_in geometry bytes)) (size : length bytes ≡ file_bytes geometry) where
    super_there : HasSuper geometry bytes
    super_there =
        let enough = super.0 in
        let long : length (area_in geometry bytes) ≡ min (meta_bytes geometry) (length bytes) = length-take (meta_bytes geometry) bytes in
        (omega (arith, long, enough), sym (take-take 32 (meta_bytes geometry) bytes (omega (arith, long, enough))) ∙ super.1)

    pub area_refused : (e : Error) → IsAreaRefusal geometry (area_in geometry bytes) e → IsBytesRefusal bytes e
    area_refused e refused = inr (inr (geometry, record { super = super_there; size = size; refused = inl refused }))

    pub image_refused : (image : Image) → HoldsTables geometry image (area_in geometry bytes) → image.nodes ≡ read_nodes geometry.shape (block_in geometry bytes) image.node_table
        → (e : Error) → IsRefusal geometry image e → IsBytesRefusal bytes e
    image_refused image tables nodes NoMemory refused = inl refl
    image_refused image tables nodes (BadImage fault) refused =
        inr (inr (
          geometry,
          record {
            super = super_there;
            size = size;
            refused = inr (fault, refl, record { body = tables.body; picked = tables.picked; image = image; tables = tables.spelled; nodes = nodes; least = refused });
          },
        ))
    image_refused image tables nodes e refused = absurd refused
