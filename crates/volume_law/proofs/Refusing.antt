-- Each refusal for what the bytes hold says that a rule is broken or no pack counts; of parts that hold a lawful image
-- none of it is so, since they hold that image alone.
use Rattle.std.proofs.Common.{◌≡◌, refl, sym, subst, ◌∙◌, ◌⊎◌, inl, inr, ℕ, List, Some, None}
use Rattle.device.specs.declared.parts.Parts.{Parts}
use Rattle.geometry.specs.declared.error.Error.{Error}
use Rattle.geometry.specs.declared.error.Error.TheVariants.{NoMemory, Device, NoSpace, NoFile, NoNode, TooFar, BadLength, Wounded, BadGeometry, NoPack, BadImage, PassesOut, SeatsOut, Exhausted}
use Rattle.geometry.specs.declared.geometry.Geometry.{Geometry}
use Rattle.image.specs.Image.{Image}
use Rattle.image.specs.Rules.{IsLawful, IsLeastFault}
use Rattle.packs.specs.Area.{reading_of}
use Rattle.packs.specs.Pack.{picked}
use Rattle.image_codec.specs.Blocks.{bytes_at}
use Rattle.pack_tables.specs.Holding.{HoldsTables}
use Rattle.mount_reading.specs.Held.{IsPartsRefusal, IsPartsFault, IsBodyFault}
use Rattle.pack_tables.specs.OneImage.{HoldVolume}
use Rattle.pack_tables.proofs.Same.{one_geometry, one_image}
use Rattle.volume_law.specs.Lawful.{HoldsLawfulVolume}

some_same : {A : Type 0} (x y : A) → Some x ≡ Some y → x ≡ y
some_same x y is = cc

some_none : {A : Type 0} (x : A) → Some x ≡ None → ⊥
some_none x is = cc

module _ {M B : Type 0} (seen : M → List ℕ) (address_of : B → ℕ) (content_of : B → List ℕ) (geometry : Geometry) (image : Image) (parts : Parts M B) (is : HoldsLawfulVolume seen address_of content_of geometry image parts) where
  -- the least fault of a lawful image is none
  no_fault : (other : Image) (fault : ℕ) → other ≡ image → IsLeastFault geometry other fault → ⊥
  no_fault other fault same least = least.broken (subst (IsLawful geometry) (sym same) is.lawful fault least.range.0 least.range.1)

  no_body_fault : (body : List ℕ) (fault : ℕ) → picked (reading_of geometry) (seen parts.meta) ≡ Some body
      → IsBodyFault geometry body (bytes_at content_of parts.blocks.items) fault → ⊥
  no_body_fault body fault counts (inl (one, none)) =
      none image (subst (λ b. Rattle.pack_tables.specs.Grammar.SpellsTables geometry b image) (some_same is.held.tables.body body (sym is.held.tables.picked ∙ counts)) is.held.tables.spelled)
  no_body_fault body fault counts (inr (other, spelled, nodes, least)) =
      let tables : HoldsTables geometry other (seen parts.meta) = record { body = body; picked = counts; spelled = spelled } in
      let held : HoldVolume geometry other (seen parts.meta) (bytes_at content_of parts.blocks.items) = record { front = is.held.front; tables = tables; nodes = nodes } in
      no_fault other fault (one_image geometry other image (seen parts.meta) (bytes_at content_of parts.blocks.items) held is.held) least

  no_parts_fault : (fault : ℕ) → IsPartsFault seen address_of content_of geometry parts fault → ⊥
  no_parts_fault fault (inl (one, size)) = size is.size
  no_parts_fault fault (inr (size, (body, counts, why))) = no_body_fault body fault counts why

  pub refused_so : (error : Error) → IsPartsRefusal seen address_of content_of parts error → (error ≡ NoMemory) ⊎ (error ≡ Device)
  refused_so NoMemory why = inl refl
  refused_so Device why = inr refl
  refused_so BadGeometry why = absurd (why geometry is.held.front)
  refused_so NoPack (other, front, size, none) =
      let same = one_geometry geometry other (seen parts.meta) is.held.front front in
      absurd (some_none is.held.tables.body (sym is.held.tables.picked ∙ subst (λ g. picked (reading_of g) (seen parts.meta) ≡ None) (sym same) none))
  refused_so (BadImage fault) (other, front, bad) =
      let same = one_geometry geometry other (seen parts.meta) is.held.front front in
      absurd (no_parts_fault fault (subst (λ g. IsPartsFault seen address_of content_of g parts fault) (sym same) bad))
  refused_so NoSpace why = absurd why
  refused_so NoFile why = absurd why
  refused_so NoNode why = absurd why
  refused_so TooFar why = absurd why
  refused_so BadLength why = absurd why
  refused_so Wounded why = absurd why
  refused_so (PassesOut count) why = absurd why
  refused_so (SeatsOut count) why = absurd why
  refused_so Exhausted why = absurd why
