-- The version of packs after a write.
use Rattle.std.proofs.Common.{◌≡◌, ℕ, ◌<◌, ◌^◌, List, [], ◌∷◌, All, ap, subst, ◌∙◌}
use Rattle.std.proofs.lemmas.List.Elements.{All-head}
use Rattle.geometry.specs.declared.shape.Shape.{Shape}
use Rattle.image.specs.Image.{Image}
use Rattle.image.specs.Pack.{pack_body}
use Rattle.image.specs.Slots.{version_of}
use Rattle.packs.specs.Area.{reading_of}
use Rattle.packs.specs.Device.{body_of}
use Rattle.packs.specs.declared.packs.Packs.{Packs}
use Rattle.pack_tables.proofs.Bodies.{body_version}

-- packs whose body that counts is shown to spell an image have its version
pub version_is : {D : Type 0} (seen : D → List ℕ) (shape : Shape) (image : Image) (packs : Packs D) (shown : List (Packs D × ℕ)) → image.version < 2 ^ 32
    → packs.version ≡ version_of (body_of (reading_of packs.geometry) seen packs) → shown ≡ (packs, packs.version) ∷ []
    → All (λ entry. body_of (reading_of entry.0.geometry) seen entry.0 ≡ pack_body shape image) shown → packs.version ≡ image.version
version_is {D} seen shape image packs shown fits counts one written =
    let spelled : body_of (reading_of packs.geometry) seen packs ≡ pack_body shape image =
    All-head (λ (entry : Packs D × ℕ). body_of (reading_of entry.0.geometry) seen entry.0 ≡ pack_body shape image) (packs, packs.version) []
    (subst (All (λ (entry : Packs D × ℕ). body_of (reading_of entry.0.geometry) seen entry.0 ≡ pack_body shape image)) one written) in
    counts ∙ (ap version_of spelled ∙ body_version shape image fits)

-- and that of what the image was taken from
pub version_taken : {D : Type 0} (seen : D → List ℕ) (shape : Shape) (image : Image) (packs : Packs D) (shown : List (Packs D × ℕ)) (version : ℕ) → image.version < 2 ^ 32 → image.version ≡ version
    → packs.version ≡ version_of (body_of (reading_of packs.geometry) seen packs) → shown ≡ (packs, packs.version) ∷ []
    → All (λ entry. body_of (reading_of entry.0.geometry) seen entry.0 ≡ pack_body shape image) shown → packs.version ≡ version
version_taken seen shape image packs shown version fits same counts one written = version_is seen shape image packs shown fits counts one written ∙ same
